use Rattle.std.proofs.Common.{Bor, ◌≡◌, ◌∙◌, ℕ, List, Result, Ok, Err, IfOk, ap₂, map, refl}
use Rattle.std.specs.Prelude.{◌&&◌}
use Rattle.std.proofs.lemmas.Map.Text.{is_eq-slice_cmp}
use Rattle.std.specs.BTreeMap.{BTreeMap, get}
use Rattle.std.specs.Cmp.Lexicographic.{slice_cmp}
use Rattle.std.specs.Ordering.{is_eq, nat_cmp, ordering_then}
use Rattle.std.specs.declared.cmp.Ordering.{Ordering}
use Rattle.std.specs.declared.cmp.Ordering.TheVariants.{Less, Equal, Greater}
use Rattle.gtfs_tables.specs.Fields.PairPlaces.{HavePairPlaces, is_same_pair, lent_pair}
use Rattle.gtfs_tables.specs.Fields.Places.{first_place}
use Rattle.gtfs_tables.proofs.FieldsLemmas.PlaceFacts.{position_map}
use Rattle.gtfs_tables.proofs.fields.pair_places.pair_places.Goals as goal

-- an order by one part and then by another ties where both do
ties : (a b : Ordering) → is_eq (ordering_then a b) ≡ (is_eq a && is_eq b)
ties Less b = refl
ties Equal b = refl
ties Greater b = refl

same : (x y : Bor (List ℕ) × Bor (List ℕ)) → is_eq (ordering_then (slice_cmp nat_cmp x.0.now y.0.now) (slice_cmp nat_cmp x.1.now y.1.now)) ≡ is_same_pair (lent_pair x) (lent_pair y)
same x y = ties (slice_cmp nat_cmp x.0.now y.0.now) (slice_cmp nat_cmp x.1.now y.1.now) ∙ ap₂ (λ a b. a && b) (is_eq-slice_cmp x.0.now y.0.now) (is_eq-slice_cmp x.1.now y.1.now)

-- the places of what lends the pairs are those of the pairs
of_pairs : {E : Type 0} (lent : List (Bor (List ℕ) × Bor (List ℕ))) (r : Result (BTreeMap (Bor (List ℕ) × Bor (List ℕ)) ℕ) E)
    → IfOk r (λ places. (key : Bor (List ℕ) × Bor (List ℕ)) → get (λ x y. ordering_then (slice_cmp nat_cmp x.0.now y.0.now) (slice_cmp nat_cmp x.1.now y.1.now)) places key
    ≡ first_place (λ (x y : Bor (List ℕ) × Bor (List ℕ)). is_eq (ordering_then (slice_cmp nat_cmp x.0.now y.0.now) (slice_cmp nat_cmp x.1.now y.1.now))) lent key)
    → IfOk r (HavePairPlaces (map lent_pair lent))
of_pairs lent (Ok places) h = record {
  at = λ key. h key ∙ position_map lent_pair (λ (other : Bor (List ℕ) × Bor (List ℕ)). is_eq (ordering_then (slice_cmp nat_cmp other.0.now key.0.now) (slice_cmp nat_cmp other.1.now key.1.now))) (λ other. is_same_pair other (lent_pair key)) (λ other. same other key) lent 0;
}
of_pairs lent (Err e) h = tt

pub returns : goal.returns
returns c = of_pairs c.args.pairs.now c.first_places.result c.first_places.ensures
