-- Heads that are written line by line: their fields, the lines that print them, and the values of each name.
use Rattle.std.proofs.Common.{◌≡◌, ℕ, suc, ◌≤◌, Bool, true, false, cond, List, [], ◌∷◌, ◌++◌, length, map, Option, Some, None, All, refl, ap, ◌∙◌, arith}
use Rattle.std.specs.Prelude.{IfSome}
use Rattle.std.specs.List.{flat_map, filter, AllByRecursion}
use Rattle.std.specs.Str.{str_eq_ignore_ascii_case}
use Rattle.std.proofs.lemmas.List.Elements.{All-nil, All-cons}
use Rattle.std.proofs.lemmas.List.Concat.{flat_map-cons}
use Rattle.httparse.specs.Grammar.{crlf, Field, print_field, IsField, IsToken, AllPass, is_value_byte, trim_ows}
use Rattle.http_text.specs.Fields.{FieldText, texts_of, values_of, is_named}

-- a field of this name and value, with a blank between them
abbrev pub field_at : List ℕ → List ℕ → Field
field_at name value = record { name = name; raw = 32 ∷ value; end = crlf }

-- a field before the others, if it has a value
abbrev pub put : List ℕ → Option (List ℕ) → List Field → List Field
put name None fields = fields
put name (Some value) fields = field_at name value ∷ fields

-- names with the values that there are
abbrev pub Entry : Type 0
Entry = List ℕ × Option (List ℕ)

abbrev pub fields_from : List Entry → List Field
fields_from [] = []
fields_from (e ∷ es) = put e.0 e.1 (fields_from es)

-- ---- the lines

abbrev pub line_at : List ℕ → Option (List ℕ) → List ℕ
line_at name None = []
line_at name (Some value) = print_field (field_at name value)

abbrev pub lines_from : List Entry → List ℕ
lines_from [] = []
lines_from (e ∷ es) = line_at e.0 e.1 ++ lines_from es

put_printed : (name : List ℕ) (o : Option (List ℕ)) (fs : List Field) → flat_map print_field (put name o fs) ≡ line_at name o ++ flat_map print_field fs
put_printed name None fs = refl
put_printed name (Some value) fs = flat_map-cons print_field (field_at name value) fs

pub printed : (es : List Entry) → flat_map print_field (fields_from es) ≡ lines_from es
printed [] = refl
printed (e ∷ es) = put_printed e.0 e.1 (fields_from es) ∙ ap (λ (t : List ℕ). line_at e.0 e.1 ++ t) (printed es)

-- ---- they are fields of the grammar

pub record IsEntry (e : Entry) : Type 0 where
  pub name : IsToken e.0
  pub value : IfSome e.1 (AllPass is_value_byte)

blank_before : (value : List ℕ) → AllPass is_value_byte value → AllPass is_value_byte (32 ∷ value)
blank_before value is = All-cons (λ b. is_value_byte b ≡ true) 32 value refl is

put_valid : (name : List ℕ) (o : Option (List ℕ)) (fs : List Field) → IsToken name → IfSome o (AllPass is_value_byte) → All IsField fs → All IsField (put name o fs)
put_valid name None fs is bytes rest = rest
put_valid name (Some value) fs is bytes rest = All-cons IsField (field_at name value) fs (record { name = is; raw = blank_before value bytes }) rest

pub valid : (es : List Entry) → AllByRecursion IsEntry es → All IsField (fields_from es)
valid [] is = All-nil IsField
valid (e ∷ es) is = put_valid e.0 e.1 (fields_from es) is.0.name is.0.value (valid es is.1)

-- ---- how many there are

put_few : (name : List ℕ) (o : Option (List ℕ)) (fs : List Field) → length (put name o fs) ≤ suc (length fs)
put_few name None fs = omega arith
put_few name (Some value) fs = omega arith

pub few : (es : List Entry) → length (fields_from es) ≤ length es
few [] = omega arith
few (e ∷ es) = let one = put_few e.0 e.1 (fields_from es) in let rest = few es in omega (arith, one, rest)

-- ---- the values of a name

-- the value of a field without the blank before it
abbrev pub cons_value : Option (List ℕ) → List (List ℕ) → List (List ℕ)
cons_value None values = values
cons_value (Some value) values = trim_ows (32 ∷ value) ∷ values

abbrev pub values_in : List ℕ → List Entry → List (List ℕ)
values_in name [] = []
values_in name (e ∷ es) = cond (str_eq_ignore_ascii_case e.0 name) (cons_value e.1 (values_in name es)) (values_in name es)

same_either : {A : Type 0} (b : Bool) (x : A) → x ≡ cond b x x
same_either true x = refl
same_either false x = refl

one_more : (b : Bool) (f : FieldText) (fs : List FieldText) → map (λ (g : FieldText). g.1) (cond b (f ∷ fs) fs) ≡ cond b (f.1 ∷ map (λ (g : FieldText). g.1) fs) (map (λ (g : FieldText). g.1) fs)
one_more true f fs = refl
one_more false f fs = refl

put_values : (name n : List ℕ) (o : Option (List ℕ)) (fs : List Field) → values_of name (texts_of (put n o fs)) ≡ cond (str_eq_ignore_ascii_case n name) (cons_value o (values_of name (texts_of fs))) (values_of name (texts_of fs))
put_values name n None fs = same_either (str_eq_ignore_ascii_case n name) (values_of name (texts_of fs))
put_values name n (Some value) fs = one_more (str_eq_ignore_ascii_case n name) (n, trim_ows (32 ∷ value)) (filter (is_named name) (texts_of fs))

pub values_from : (name : List ℕ) (es : List Entry) → values_of name (texts_of (fields_from es)) ≡ values_in name es
values_from name [] = refl
values_from name (e ∷ es) =
    put_values name e.0 e.1 (fields_from es)
    ∙ ap (λ (vs : List (List ℕ)). cond (str_eq_ignore_ascii_case e.0 name) (cons_value e.1 vs) vs) (values_from name es)
