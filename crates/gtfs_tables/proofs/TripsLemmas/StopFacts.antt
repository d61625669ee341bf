-- What is known of the stops of a file in which no rule is broken.
use Rattle.std.proofs.Common.{◌≡◌, ◌≢◌, ◌∙◌, ℕ, ◌<◌, Bool, true, false, ◌&&◌, List, [], Option, Some, None, cond, IfSome, ap, arith, eqb, get_or, is_none, length, map, not, refl, sym, subst}
use Rattle.std.proofs.lemmas.Bool.{false≢true}
use Rattle.std.proofs.lemmas.List.{get_or-map, length-map}
use Rattle.std.proofs.lemmas.List.Sorted.{All-permutation, Contains-permutation}
use Rattle.std.proofs.lemmas.Slice.Eq.{bytes_eq-Decides}
use Rattle.std.specs.List.{AllPairs}
use Rattle.std.specs.List.Sorted.{IsPermutation}
use Rattle.std.specs.Str.{bytes_eq}
use Rattle.gtfs_rows.specs.Sheet.{Sheet}
use Rattle.lc_model.specs.Stop.{HasStop}
use Rattle.lc_model.specs.declared.stop.Stop.{Stop}
use Rattle.gtfs_tables.specs.Fields.Columns.{row_at}
use Rattle.gtfs_tables.specs.Fields.Places.{first_place, stands_twice}
use Rattle.gtfs_tables.specs.Fields.Rules.{IsUnbroken}
use Rattle.gtfs_tables.proofs.FieldsLemmas.PlaceFacts.{place_passes}
use Rattle.gtfs_tables.proofs.FieldsLemmas.RuleFacts.{bytes_eq_itself, keys_differ, none_broken}
use Rattle.gtfs_tables.specs.Trips.Stops.{HaveKnownParents, parent_of, stop_id_of, stop_ids, stop_of, stop_rule_at, stop_rules}
use Rattle.gtfs_tables.proofs.TripsLemmas.Keys.{map-map, pairs_of_items}

-- what a row that breaks no rule is
pub record IsStopRow (sheet : Sheet) (place : ℕ) : Type 0 where
  pub named : (length (stop_id_of sheet (row_at sheet place)) ≡ 0) → ⊥
  pub once : stands_twice bytes_eq (stop_ids sheet) place (stop_id_of sheet (row_at sheet place)) ≡ false
  pub known : (not (eqb (length (parent_of sheet (row_at sheet place))) 0) && is_none (first_place bytes_eq (stop_ids sheet) (parent_of sheet (row_at sheet place)))) ≡ false

pub stop_row : (sheet : Sheet) (place : ℕ) → stop_rule_at sheet place ≡ None → IsStopRow sheet place
stop_row sheet place h =
    let none = none_broken (stop_rules sheet place) h in
    record { named = λ e. false≢true (sym none.0 ∙ ap (λ n. eqb n 0) e); once = none.1.0; known = none.1.1.0 }

module _ (sheet : Sheet) (unbroken : IsUnbroken (stop_rule_at sheet) (length sheet.rows)) where
  -- no two stops have one id
  pub stops_differ : AllPairs (λ (x y : Stop). x.id ≢ y.id) (map (stop_of sheet) sheet.rows)
  stops_differ =
      let Differ : List (List ℕ) → Type 0 = λ ids. AllPairs (λ x y. x ≢ y) ids in
      let ids : Differ (stop_ids sheet) = keys_differ bytes_eq bytes_eq_itself (stop_ids sheet) once in
      pairs_of_items (λ x y. x ≢ y) (λ (s : Stop). s.id) (map (stop_of sheet) sheet.rows)
      (subst Differ (sym (map-map (λ (s : Stop). s.id) (stop_of sheet) sheet.rows)) ids)
    where
      once : (place : ℕ) (d : List ℕ) → place < length (stop_ids sheet) → stands_twice bytes_eq (stop_ids sheet) place (get_or (stop_ids sheet) place d) ≡ false
      once place d inside =
          let size = length-map sheet.rows (stop_id_of sheet) in
          let there : place < length sheet.rows = omega arith in
          let at : get_or (stop_ids sheet) place d ≡ stop_id_of sheet (row_at sheet place) = get_or-map (stop_id_of sheet) sheet.rows place [] d there in
          ap (stands_twice bytes_eq (stop_ids sheet) place) at ∙ (stop_row sheet place (unbroken place there)).once

  -- a first place of an id is a stop of that id
  has_stop : (id : List ℕ) (first : Option ℕ) → first_place bytes_eq (stop_ids sheet) id ≡ first → is_none first ≡ false → HasStop (map (stop_of sheet) sheet.rows) id
  has_stop id None is some = absurd (false≢true (sym some))
  has_stop id (Some first) is some =
      let p = place_passes (λ other. bytes_eq other id) (stop_ids sheet) 0 first [] is in
      let size = length-map sheet.rows (stop_id_of sheet) in
      let sizes = length-map sheet.rows (stop_of sheet) in
      let inside : p.0 < length (stop_ids sheet) = p.2 in
      let there : p.0 < length sheet.rows = omega arith in
      let at : get_or (stop_ids sheet) p.0 [] ≡ stop_id_of sheet (row_at sheet p.0) = get_or-map (stop_id_of sheet) sheet.rows p.0 [] [] there in
      let same : get_or (stop_ids sheet) p.0 [] ≡ id = (bytes_eq-Decides (get_or (stop_ids sheet) p.0 []) id).0 p.3 in
      let stop = stop_of sheet (row_at sheet p.0) in
      (p.0, stop, omega arith, get_or-map (stop_of sheet) sheet.rows p.0 [] stop there, sym at ∙ same)

  -- the parent of a stop, where there is one, is a stop
  parent_known : (parent : List ℕ) (empty : Bool) → (not empty && is_none (first_place bytes_eq (stop_ids sheet) parent)) ≡ false
      → IfSome (cond empty None (Some parent)) (HasStop (map (stop_of sheet) sheet.rows))
  parent_known parent true h = tt
  parent_known parent false h = has_stop parent (first_place bytes_eq (stop_ids sheet) parent) refl h

  pub parents_known : HaveKnownParents (map (stop_of sheet) sheet.rows)
  parents_known place d inside =
      let Known : Stop → Type 0 = λ (s : Stop). IfSome s.parent (HasStop (map (stop_of sheet) sheet.rows)) in
      let sizes = length-map sheet.rows (stop_of sheet) in
      let there : place < length sheet.rows = omega arith in
      let at = get_or-map (stop_of sheet) sheet.rows place [] d there in
      subst Known (sym at) (parent_known (parent_of sheet (row_at sheet place)) (eqb (length (parent_of sheet (row_at sheet place))) 0) (stop_row sheet place (unbroken place there)).known)

-- a stop of the list is one of the list in another order
pub has_stop_moved : (xs ys : List Stop) (id : List ℕ) → IsPermutation xs ys → HasStop xs id → HasStop ys id
has_stop_moved xs ys id moved (k, x, inside, at, is) =
    let there = Contains-permutation xs ys x moved (k, inside, at) in
    (there.0, x, there.1, there.2, is)

if_some : (o : Option (List ℕ)) (P Q : List ℕ → Type 0) → ((x : List ℕ) → P x → Q x) → IfSome o P → IfSome o Q
if_some None P Q f h = tt
if_some (Some x) P Q f h = f x h

pub parents_moved : (xs ys : List Stop) → IsPermutation xs ys → HaveKnownParents xs → HaveKnownParents ys
parents_moved xs ys moved known =
    All-permutation (λ (s : Stop). IfSome s.parent (HasStop ys)) xs ys moved
    (λ k d inside. if_some (get_or xs k d).parent (HasStop xs) (HasStop ys) (λ id h. has_stop_moved xs ys id moved h) (known k d inside))
