-- A text without the spaces at its ends. A space is U+0020 alone: a tab or a line break stays.
use Rattle.std.specs.Prelude.{ℕ, List, [], ◌∷◌, ◌==◌, if◌then◌else◌, reverse}

-- the byte of a space
abbrev pub space : ℕ
space = 32

-- the text without the spaces at its start
unfoldable pub without_first_spaces : List ℕ → List ℕ
without_first_spaces [] = []
without_first_spaces (b ∷ rest) = if b == space then without_first_spaces rest else b ∷ rest

-- the text without the spaces at its end
abbrev pub without_last_spaces : List ℕ → List ℕ
without_last_spaces text = reverse (without_first_spaces (reverse text))

-- the text without the spaces at both ends
abbrev pub without_spaces : List ℕ → List ℕ
without_spaces text = without_last_spaces (without_first_spaces text)
