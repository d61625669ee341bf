-- The elements of a list (RFC 9110, sections 5.6.1 and 5.6.4).
use Rattle.std.specs.Prelude.{ℕ, Bool, ◌==◌, false, List, [], ◌∷◌, if◌then◌else◌}
use Rattle.httparse.specs.Ascii.{comma}
use Rattle.http_text.specs.Bytes.{quote, backslash}
use Rattle.http_text.specs.declared.connection.Quoting.{Quoting}
use Rattle.http_text.specs.declared.connection.Quoting.TheVariants.{Outside, Inside, Escaped}

-- where the next byte is: outside of quoted strings, inside one, or after a backslash inside one
abbrev pub quoting_after : Quoting → ℕ → Quoting
quoting_after Outside byte = if byte == quote then Inside else Outside
quoting_after Inside byte = if byte == quote then Outside else (if byte == backslash then Escaped else Inside)
quoting_after Escaped byte = Inside

-- a comma outside of quoted strings parts the elements
abbrev pub is_part : Quoting → ℕ → Bool
is_part Outside byte = byte == comma
is_part Inside byte = false
is_part Escaped byte = false

-- the byte begins the first element
abbrev pub onto_first : ℕ → List (List ℕ) → List (List ℕ)
onto_first byte [] = (byte ∷ []) ∷ []
onto_first byte (element ∷ elements) = (byte ∷ element) ∷ elements

-- the elements of what follows
unfoldable pub elements : Quoting → List ℕ → List (List ℕ)
elements quoting [] = [] ∷ []
elements quoting (byte ∷ bytes) =
    if is_part quoting byte then [] ∷ elements Outside bytes
    else onto_first byte (elements (quoting_after quoting byte) bytes)
