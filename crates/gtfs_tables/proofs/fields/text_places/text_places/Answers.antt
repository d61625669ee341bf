use Rattle.std.proofs.Common.{Bor, ◌≡◌, ◌∙◌, ℕ, List, Result, Ok, Err, IfOk, map}
use Rattle.std.proofs.lemmas.Map.Text.{is_eq-slice_cmp}
use Rattle.std.specs.BTreeMap.{BTreeMap, get}
use Rattle.std.specs.Cmp.Lexicographic.{slice_cmp}
use Rattle.std.specs.Ordering.{is_eq, nat_cmp}
use Rattle.std.specs.Str.{bytes_eq}
use Rattle.gtfs_tables.specs.Fields.Places.{first_place}
use Rattle.gtfs_tables.specs.Fields.TextPlaces.{HavePlaces}
use Rattle.gtfs_tables.proofs.FieldsLemmas.PlaceFacts.{position_map}
use Rattle.gtfs_tables.proofs.fields.text_places.text_places.Goals as goal

-- the places of what lends the texts are those of the texts
of_texts : {E : Type 0} (lent : List (Bor (List ℕ))) (r : Result (BTreeMap (Bor (List ℕ)) ℕ) E)
    → IfOk r (λ places. (key : Bor (List ℕ)) → get (λ x y. slice_cmp nat_cmp x.now y.now) places key ≡ first_place (λ (x y : Bor (List ℕ)). is_eq (slice_cmp nat_cmp x.now y.now)) lent key)
    → IfOk r (HavePlaces (map (λ (text : Bor (List ℕ)). text.now) lent))
of_texts lent (Ok places) h =
    record { at = λ key. h key ∙ position_map (λ (text : Bor (List ℕ)). text.now) (λ other. is_eq (slice_cmp nat_cmp other.now key.now)) (λ other. bytes_eq other key.now) (λ other. is_eq-slice_cmp other.now key.now) lent 0 }
of_texts lent (Err e) h = tt

pub returns : goal.returns
returns c = of_texts c.args.texts.now c.first_places.result c.first_places.ensures
