-- Keys of stop times tie where they are the same.
use Rattle.std.proofs.Common.{Bor, ◌≡◌, ◌∙◌, ℕ, Bool, true, false, List, Option, Some, None, Result, Ok, Err, IfOk, ap₂, arith, cond, map, nat_eq, nat_lt, refl, sym}
use Rattle.std.proofs.lemmas.Bool.Decides.{nat_tests}
use Rattle.std.proofs.lemmas.Map.Text.{is_eq-slice_cmp}
use Rattle.std.specs.BTreeMap.{BTreeMap, get}
use Rattle.std.specs.Cmp.Lexicographic.{slice_cmp}
use Rattle.std.specs.Option.{option_cmp, option_eq}
use Rattle.std.specs.Ordering.{is_eq, nat_cmp, ordering_then}
use Rattle.std.specs.Prelude.{◌&&◌}
use Rattle.std.specs.declared.cmp.Ordering.{Ordering}
use Rattle.std.specs.declared.cmp.Ordering.TheVariants.{Less, Equal, Greater}
use Rattle.gtfs_tables.specs.Fields.Places.{first_place}
use Rattle.gtfs_tables.proofs.FieldsLemmas.PlaceFacts.{position_map}
use Rattle.gtfs_tables.specs.Trips.KeyPlaces.{HaveKeyPlaces, lent_key, lent_key_cmp}
use Rattle.gtfs_tables.specs.Trips.StopTimeRows.{same_key}

both_tie : (a b : Ordering) → is_eq (ordering_then a b) ≡ (is_eq a && is_eq b)
both_tie Less b = refl
both_tie Equal b = refl
both_tie Greater b = refl

of_tests : (less equal : Bool) → (less ≡ true → equal ≡ false) → is_eq (cond less Less (cond equal Equal Greater)) ≡ equal
of_tests true equal h = sym (h refl)
of_tests false true h = refl
of_tests false false h = refl

less_no_tie : (x y : ℕ) → nat_lt x y ≡ true → nat_eq x y ≡ false
less_no_tie x y less = grind (arith, nat_tests)

numbers_tie : (x y : ℕ) → is_eq (nat_cmp x y) ≡ nat_eq x y
numbers_tie x y = of_tests (nat_lt x y) (nat_eq x y) (less_no_tie x y)

options_tie : (x y : Option ℕ) → is_eq (option_cmp nat_cmp x y) ≡ option_eq nat_eq x y
options_tie None None = refl
options_tie None (Some y) = refl
options_tie (Some x) None = refl
options_tie (Some x) (Some y) = numbers_tie x y

pub keys_tie : (x y : Bor (List ℕ) × Option ℕ) → is_eq (lent_key_cmp x y) ≡ same_key (lent_key x) (lent_key y)
keys_tie x y =
    both_tie (slice_cmp nat_cmp x.0.now y.0.now) (option_cmp nat_cmp x.1 y.1)
    ∙ ap₂ (λ a b. a && b) (is_eq-slice_cmp x.0.now y.0.now) (options_tie x.1 y.1)

-- the places of what lends the keys are those of the keys
pub places_of_keys : {E : Type 0} (lent : List (Bor (List ℕ) × Option ℕ)) (r : Result (BTreeMap (Bor (List ℕ) × Option ℕ) ℕ) E)
    → IfOk r (λ places. (key : Bor (List ℕ) × Option ℕ) → get lent_key_cmp places key ≡ first_place (λ (x y : Bor (List ℕ) × Option ℕ). is_eq (lent_key_cmp x y)) lent key)
    → IfOk r (HaveKeyPlaces (map lent_key lent))
places_of_keys lent (Ok places) h =
    record { at = λ key. h key ∙ position_map lent_key (λ other. is_eq (lent_key_cmp other key)) (λ other. same_key other (lent_key key)) (λ other. keys_tie other key) lent 0 }
places_of_keys lent (Err e) h = tt
