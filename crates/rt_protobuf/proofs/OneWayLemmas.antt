-- Every list of bytes parts in exactly one way.
use Rattle.std.proofs.Common.{Option, Some, None, ◌≡◌, ◌≢◌, ℕ, zero, suc, ◌+◌, ◌-◌, ◌<◌, ◌≤◌, List, [], ◌∷◌, ◌++◌, length, Result, Ok, Err, refl, sym, ap, subst, ◌∙◌, arith}
use Rattle.std.specs.Prelude.{option_map}
use Rattle.std.proofs.lemmas.List.{length-append}
use Rattle.rt_protobuf.specs.declared.fault.WireFault.{WireFault}
use Rattle.rt_protobuf.specs.Varint.{Spells}
use Rattle.rt_protobuf.specs.Grammar.{WireField, wire_type, IsTag, IsField, IsBroken, AreFields}
use Rattle.rt_protobuf.specs.Parts.{Parts, whole, broken, field, PartsInto, fields_in}
use Rattle.rt_protobuf.specs.Reading.{field_at, begin, parts_within, parts_of}
use Rattle.rt_protobuf.proofs.StepsLemmas.{ok_is, err_is, ok_or_err}
use Rattle.rt_protobuf.proofs.FieldsLemmas.{field_takes, field_again, field_fails, broken_again}

begins : (place : ℕ) (bytes : List ℕ) (others : ℕ → List ℕ → Parts) (r : Result (WireField × List ℕ) WireFault) → bytes ≢ [] → field_at place bytes ≡ r
    → ((next : ℕ) (rest : List ℕ) → length rest < length bytes → PartsInto next rest (others next rest)) → PartsInto place bytes (begin others place bytes r)
begins place bytes others (Ok x) some e ih =
    let t = field_takes place bytes x.0 x.1 e in
    let counted : length bytes ≡ length t.front + length x.1 = ap length t.parts ∙ length-append t.front x.1 in
    (refl, t.front, x.1, t.parts, t.spelled, omega (arith, counted), ih (place + (length bytes - length x.1)) x.1 (omega (arith, counted, t.some)))
begins place bytes others (Err fault) some e ih = (some, field_fails place bytes fault e)

parts_are_within : (most place : ℕ) (bytes : List ℕ) → length bytes ≤ most → PartsInto place bytes (parts_within most place bytes)
unfolding parts_within
parts_are_within zero place [] le = refl
parts_are_within zero place (b ∷ bytes) le = absurd (omega (arith, le))
parts_are_within (suc most) place [] le = refl
parts_are_within (suc most) place (b ∷ bytes) le =
    begins place (b ∷ bytes) (λ next rest. parts_within most next rest) (field_at place (b ∷ bytes)) (λ z. cc) refl (λ next rest lt. parts_are_within most next rest (omega (arith, lt, le)))

pub parts_are : (place : ℕ) (bytes : List ℕ) → PartsInto place bytes (parts_of place bytes)
unfolding parts_of
parts_are place bytes = parts_are_within (length bytes) place bytes (omega arith)

-- ---- and in no other way

spells_some : (bytes : List ℕ) (n : ℕ) → Spells bytes n → 0 < length bytes
spells_some [] n s = absurd s
spells_some (b ∷ bytes) n s = omega arith

pub tag_some : (tag : List ℕ) (number wire : ℕ) → IsTag tag number wire → 0 < length tag
tag_some tag number wire t = spells_some tag t.1.1.0 t.1.1.1

-- a field is not empty
pub field_some : (front : List ℕ) (f : WireField) → IsField front f → 0 < length front
field_some front f s = omega (arith, ap length s.2, length-append s.0 s.1, tag_some s.0 f.number (wire_type f.content) s.3)

nothing_first : (front behind : List ℕ) → 0 < length front → front ++ behind ≡ [] → ⊥
nothing_first [] behind some e = absurd (omega (arith, some))
nothing_first (b ∷ front) behind some e = cc

no_field : (bytes front behind : List ℕ) (f : WireField) → bytes ≡ [] → bytes ≡ front ++ behind → IsField front f → ⊥
no_field bytes front behind f none parts s = nothing_first front behind (field_some front f s) (sym parts ∙ none)

-- the field at the front, however it was found
read_so : (place : ℕ) (bytes front behind : List ℕ) (f : WireField) → bytes ≡ front ++ behind → IsField front f → field_at place bytes ≡ Ok (f, behind)
read_so place bytes front behind f parts s = ap (field_at place) parts ∙ field_again place front behind f s

field_or_fault : (place : ℕ) (bytes front behind : List ℕ) (f : WireField) (fault : WireFault) → bytes ≡ front ++ behind → IsField front f → IsBroken place bytes fault → ⊥
field_or_fault place bytes front behind f fault parts s b =
    ok_or_err (field_at place bytes) (f, behind) fault (read_so place bytes front behind f parts s) (broken_again place bytes fault b)

same_next : (place next next' : ℕ) (bytes front behind front' behind' : List ℕ) → bytes ≡ front ++ behind → bytes ≡ front' ++ behind' → next ≡ place + length front → next' ≡ place + length front' → behind ≡ behind' → next ≡ next'
same_next place next next' bytes front behind front' behind' p q n n' e =
    omega (arith, n, n', ap length p, ap length q, length-append front behind, length-append front' behind', ap length e)

same_parts : (at at' next next' : ℕ) (f f' : WireField) (others others' : Parts) → at ≡ at' → next ≡ next' → f ≡ f' → others ≡ others' → field at next f others ≡ field at' next' f' others'
same_parts at at' next next' f f' others others' a b c d = cc

pub one_way : (p q : Parts) (place : ℕ) (bytes : List ℕ) → PartsInto place bytes p → PartsInto place bytes q → p ≡ q
one_way whole whole place bytes h k = refl
one_way whole (broken fault) place bytes h k = absurd (k.0 h)
one_way whole (field at next f others) place bytes h k = absurd (no_field bytes k.1 k.2 f h k.3 k.4)
one_way (broken fault) whole place bytes h k = absurd (h.0 k)
one_way (broken fault) (broken other) place bytes h k = ap broken (err_is (WireField × List ℕ) fault other (sym (broken_again place bytes fault h.1) ∙ broken_again place bytes other k.1))
one_way (broken fault) (field at next f others) place bytes h k = absurd (field_or_fault place bytes k.1 k.2 f fault k.3 k.4 h.1)
one_way (field at next f others) whole place bytes h k = absurd (no_field bytes h.1 h.2 f k h.3 h.4)
one_way (field at next f others) (broken fault) place bytes h k = absurd (field_or_fault place bytes h.1 h.2 f fault h.3 h.4 k.1)
one_way (field at next f others) (field at' next' f' others') place bytes h k =
    let same : (f, h.2) ≡ (f', k.2) = ok_is (f, h.2) (f', k.2) (sym (read_so place bytes h.1 h.2 f h.3 h.4) ∙ read_so place bytes k.1 k.2 f' k.3 k.4) in
    let behind_is : h.2 ≡ k.2 = ap (λ (x : WireField × List ℕ). x.1) same in
    let next_is : next ≡ next' = same_next place next next' bytes h.1 h.2 k.1 k.2 h.3 k.3 h.5 k.5 behind_is in
    let there : PartsInto next h.2 others' = subst (λ (n : ℕ). PartsInto n h.2 others') (sym next_is) (subst (λ (b : List ℕ). PartsInto next' b others') (sym behind_is) k.6) in
    same_parts at at' next next' f f' others others' (h.0 ∙ sym k.0) next_is (ap (λ (x : WireField × List ℕ). x.0) same) (one_way others others' next h.2 h.6 there)

pub only_parts : (place : ℕ) (bytes : List ℕ) (parts : Parts) → PartsInto place bytes parts → parts ≡ parts_of place bytes
only_parts place bytes parts h = one_way parts (parts_of place bytes) place bytes h (parts_are place bytes)

-- ---- fields and nothing else

abbrev fields_then : Parts → List WireField → Type 0
fields_then parts fields = fields_in parts ≡ Some fields

parts_with : (place : ℕ) (bytes : List ℕ) (fields : List WireField) → AreFields bytes fields → (parts : Parts) × PartsInto place bytes parts × fields_then parts fields
parts_with place bytes [] a = (whole, a, refl)
parts_with place bytes (first ∷ others) a =
    let rest = parts_with (place + length a.0) a.1 others a.4 in
    (field place (place + length a.0) first rest.0, (refl, a.0, a.1, a.2, a.3, refl, rest.1), ap (option_map (λ (fields : List WireField). first ∷ fields)) rest.2)

pub fields_are : (place : ℕ) (bytes : List ℕ) (fields : List WireField) → AreFields bytes fields → fields_in (parts_of place bytes) ≡ Some fields
fields_are place bytes fields a =
    let p = parts_with place bytes fields a in
    ap fields_in (sym (only_parts place bytes p.0 p.1)) ∙ p.2

some_of : {X : Type 0} (o : Option X) (f : X → X) (y : X) → option_map f o ≡ Some y → (x : X) × (o ≡ Some x) × (f x ≡ y)
some_of None f y e = absurd cc
some_of (Some x) f y e = (x, refl, cc)

nothing_is : (fields : List WireField) → fields_then whole fields → [] ≡ fields
nothing_is fields e = cc

are_fields_of : (parts : Parts) (place : ℕ) (bytes : List ℕ) (fields : List WireField) → PartsInto place bytes parts → fields_then parts fields → AreFields bytes fields
are_fields_of whole place bytes fields h e = subst (λ (fs : List WireField). AreFields bytes fs) (nothing_is fields e) h
are_fields_of (broken fault) place bytes fields h e = absurd cc
are_fields_of (field at next first others) place bytes fields h e =
    let s = some_of (fields_in others) (λ (fields : List WireField). first ∷ fields) fields e in
    subst (λ (fs : List WireField). AreFields bytes fs) s.2 (h.1, h.2, h.3, h.4, are_fields_of others next h.2 s.0 h.6 s.1)

pub are_fields : (place : ℕ) (bytes : List ℕ) (fields : List WireField) → fields_in (parts_of place bytes) ≡ Some fields → AreFields bytes fields
are_fields place bytes fields e = are_fields_of (parts_of place bytes) place bytes fields (parts_are place bytes) e
