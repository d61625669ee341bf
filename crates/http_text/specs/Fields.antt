-- The fields of a head (RFC 9110, sections 5.1 and 5.6.1), and whether they end the connection (RFC 9112, section 9.6).
use Rattle.std.specs.Prelude.{ℕ, Bool, ◌||◌, ◌==◌, List, map, codes}
use Rattle.std.specs.List.{filter, list_any}
use Rattle.std.specs.Str.{str_eq_ignore_ascii_case}
use Rattle.httparse.specs.Grammar.{Field}
use Rattle.httparse.specs.Spans.{name_and_value}
use Rattle.lc_time.specs.Http.{without_blanks}
use Rattle.http_text.specs.Elements.{elements}
use Rattle.http_text.specs.declared.connection.Quoting.TheVariants.{Outside}

-- a field as its name and its value, without the blanks around the value
abbrev pub FieldText : Type 0
FieldText = List ℕ × List ℕ

-- the fields of a head, as texts
abbrev pub texts_of : List Field → List FieldText
texts_of fields = map name_and_value fields

-- names are compared without regard to case
abbrev pub is_named : List ℕ → FieldText → Bool
is_named name field = str_eq_ignore_ascii_case field.0 name

-- the values of all fields of this name, in order
abbrev pub values_of : List ℕ → List FieldText → List (List ℕ)
values_of name fields = map (λ (f : FieldText). f.1) (filter (is_named name) fields)

-- the element of a list is the word `close`
abbrev pub is_close : List ℕ → Bool
is_close element = str_eq_ignore_ascii_case (without_blanks element) (codes "close")

-- an element of the list is the word `close`
abbrev pub has_close : List ℕ → Bool
has_close value = list_any is_close (elements Outside value)

-- the connection ends after the message: HTTP/1.0, or `close` as an element of a Connection field
abbrev pub closes : ℕ → List FieldText → Bool
closes minor fields = (minor == 0) || list_any has_close (values_of (codes "connection") fields)
