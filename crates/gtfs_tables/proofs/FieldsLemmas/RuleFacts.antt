-- What the rules of rows say where none is broken.
use Rattle.std.proofs.Common.{◌≡◌, ◌≢◌, ◌∙◌, ℕ, ◌+◌, ◌<◌, ◌≤◌, Bool, true, false, List, [], ◌∷◌, Option, Some, None, ap, arith, get_or, length, nat_lt, refl, sym}
use Rattle.std.proofs.lemmas.Bool.{false≢true}
use Rattle.std.proofs.lemmas.Slice.Eq.{bytes_eq-Decides}
use Rattle.std.specs.List.{AllPairs}
use Rattle.std.specs.Str.{bytes_eq}
use Rattle.gtfs_tables.specs.Fields.Places.{is_before, stands_twice}
use Rattle.gtfs_tables.specs.Fields.Rules.{first_of}
use Rattle.gtfs_tables.proofs.FieldsLemmas.PlaceFacts.{place_at_most}

some_not_none : (n : ℕ) → (◌≡◌ {A = Option ℕ} (Some n) None) → ⊥
some_not_none n e = cc

-- a text is itself
pub bytes_eq_itself : (text : List ℕ) → bytes_eq text text ≡ true
bytes_eq_itself text = (bytes_eq-Decides text text).1 refl

-- none of the rules is broken
abbrev pub NoneBroken : List (ℕ × Bool) → Type 0
NoneBroken [] = Unit {0}
NoneBroken (rule ∷ rest) = (rule.1 ≡ false) × NoneBroken rest

one_more : (number : ℕ) (broken : Bool) (rest : List (ℕ × Bool)) → first_of ((number, broken) ∷ rest) ≡ None → (broken ≡ false) × (first_of rest ≡ None)
one_more number true rest h = absurd (some_not_none number h)
one_more number false rest h = (refl, h)

-- where none is the first to be broken, none is broken
pub none_broken : (rules : List (ℕ × Bool)) → first_of rules ≡ None → NoneBroken rules
none_broken [] h = tt
none_broken ((number, broken) ∷ rest) h = let both = one_more number broken rest h in (both.0, none_broken rest both.1)

-- keys of which none is there twice differ
pub keys_differ : {Key : Type 0} (same : Key → Key → Bool) → ((key : Key) → same key key ≡ true) → (keys : List Key)
    → ((place : ℕ) (d : Key) → place < length keys → stands_twice same keys place (get_or keys place d) ≡ false) → AllPairs (λ x y. x ≢ y) keys
keys_differ same itself keys once i j d before inside equal =
    let key = get_or keys j d in
    let tie : same (get_or keys i d) key ≡ true = ap (λ k. same k key) equal ∙ itself key in
    let first = place_at_most (λ other. same other key) keys i 0 d (omega arith) tie in
    let below : first.0 ≤ 0 + i = first.2 in
    let earlier : nat_lt first.0 j ≡ true = grind arith in
    false≢true (sym (once j d inside) ∙ ap (λ o. is_before o j) first.1 ∙ earlier)
