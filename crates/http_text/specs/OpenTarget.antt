-- Whether bytes end inside a request target, as a test.
use Rattle.std.specs.Prelude.{ℕ, Bool, false, ◌&&◌, ◌==◌, List, [], ◌∷◌, if◌then◌else◌}
use Rattle.std.specs.List.{list_all}
use Rattle.httparse.specs.Ascii.{carriage_return, line_feed, space}
use Rattle.httparse.specs.Grammar.{is_token_byte, is_uri_byte}

-- the bytes after the empty lines at their front
abbrev pub behind_blanks : List ℕ → List ℕ
behind_blanks [] = []
behind_blanks (byte ∷ []) = if byte == line_feed then [] else byte ∷ []
behind_blanks (byte ∷ next ∷ bytes) =
    if byte == line_feed then behind_blanks (next ∷ bytes)
    else (if (byte == carriage_return) && (next == line_feed) then behind_blanks bytes else byte ∷ next ∷ bytes)

-- the rest of a method, a space, and bytes of a target up to the end
abbrev pub ends_as_method : List ℕ → Bool
ends_as_method [] = false
ends_as_method (byte ∷ bytes) =
    if byte == space then list_all is_uri_byte bytes else is_token_byte byte && ends_as_method bytes

-- a method, a space, and bytes of a target up to the end
abbrev pub is_open_line : List ℕ → Bool
is_open_line [] = false
is_open_line (byte ∷ bytes) = is_token_byte byte && ends_as_method bytes
