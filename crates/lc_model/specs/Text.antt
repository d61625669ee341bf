-- Texts and ids as lists of bytes.
use Rattle.std.specs.Prelude.{ℕ, List, [], ◌≢◌}
use Rattle.std.specs.Ordering.{nat_cmp}
use Rattle.std.specs.Cmp.Lexicographic.{slice_cmp}
use Rattle.std.specs.Str.{IsUtf8}
use Rattle.std.specs.declared.cmp.Ordering.{Ordering}

-- the bytes are an id: a text of UTF-8 that is not empty
abbrev pub IsIdText : List ℕ → Type 0
IsIdText text = (text ≢ []) × IsUtf8 text

-- ids by their bytes
abbrev pub id_cmp : List ℕ → List ℕ → Ordering
id_cmp = slice_cmp nat_cmp
