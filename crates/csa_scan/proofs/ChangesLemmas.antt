-- Changes and stops of a document.
use Rattle.std.proofs.Common.{◌≡◌, ℕ, ◌<◌, ◌≤◌, ◌⊎◌, suc, zero, List, [], ◌∷◌, Some, Bool, true, false, cond, length, refl, sym, ◌∙◌, ap, subst, inl, inr, arith}
use Rattle.std.specs.Prelude.{find, option_map, ◌&&◌}
use Rattle.std.specs.List.{slice_get, Any, All}
use Rattle.std.specs.Option.{IfSome}
use Rattle.std.proofs.lemmas.Bool.{false≢true}
use Rattle.std.proofs.lemmas.Slice.Eq.{bytes_eq-Decides}
use Rattle.std.proofs.lemmas.Option.{get_or_from_slice_get, slice_get-get_or, slice_get_within}
use Rattle.std.proofs.lemmas.Grind.{not_there}
use Rattle.std.proofs.lemmas.Cmp.{tied_itself, nat_list_cmp_total}
use Rattle.std.specs.Ordering.{ordering_then}
use Rattle.std.specs.declared.cmp.Ordering.{Ordering}
use Rattle.std.specs.declared.cmp.Ordering.TheVariants.{Less}
use Rattle.lc_model.specs.Change.{InChangeOrder, change_between, change_cmp, is_same_id}
use Rattle.lc_model.specs.Order.{IsStrict}
use Rattle.lc_model.specs.Text.{id_cmp}
use Rattle.lc_model.specs.Stop.{HasStop}
use Rattle.lc_model.specs.StopsDoc.{NamesItsStops}
use Rattle.lc_model.specs.Question.{IsEnd}
use Rattle.lc_model.specs.declared.change.Change.{Change}
use Rattle.lc_model.specs.declared.doc.StopsDoc.{StopsDoc}
use Rattle.lc_model.specs.declared.stop.Stop.{Stop}
use Rattle.csa_scan.specs.Reach.{id_at}

-- ids are the same text or not
pub same_id : (a b : List ℕ) → (a ≡ b) ⊎ (a ≡ b → ⊥)
same_id a b = by_test (is_same_id a b) refl where
  by_test : (t : Bool) → is_same_id a b ≡ t → (a ≡ b) ⊎ (a ≡ b → ⊥)
  by_test true e = inl ((bytes_eq-Decides a b).0 e)
  by_test false e = inr (λ same. false≢true (sym e ∙ (bytes_eq-Decides a b).1 same))

none_here : (s : Stop) (stops : List Stop) (id : List ℕ) → (s.id ≡ id → ⊥) → ((place : ℕ) → place < length stops → id_at stops place ≡ id → ⊥) → (place : ℕ) → place < length (s ∷ stops) → id_at (s ∷ stops) place ≡ id → ⊥
none_here s stops id other none zero h e = other e
none_here s stops id other none (suc place) h e = none place (omega arith) e

-- the list has a stop of this id, or it has none
pub known_or_not : (stops : List Stop) (id : List ℕ) → ((place : ℕ) × (place < length stops) × (id_at stops place ≡ id)) ⊎ ((place : ℕ) → place < length stops → id_at stops place ≡ id → ⊥)
known_or_not [] id = inr (λ place h e. omega arith)
known_or_not (s ∷ stops) id = elim (same_id s.id id) [
  | inl e ↦ inl (0, (omega arith), e)
  | inr other ↦
      elim (known_or_not stops id) [ inl h ↦ inl (suc h.0, (omega arith), h.2) | inr none ↦ inr (none_here s stops id other none) ]
]

-- the id at the place of an item
pub id_at-is : (stops : List Stop) (place : ℕ) (s : Stop) → slice_get stops place ≡ Some s → id_at stops place ≡ s.id
id_at-is stops place s e = ap (λ o. Rattle.std.specs.Option.option_map_or (λ (t : Stop). t.id) o []) e

-- a stop of the list has a place
pub place_from_HasStop : (stops : List Stop) (id : List ℕ) → HasStop stops id → (place : ℕ) × (place < length stops) × (id_at stops place ≡ id)
place_from_HasStop stops id h = (h.0, h.2, id_at-is stops h.0 h.1 (slice_get-get_or stops h.0 h.1 h.2 ∙ ap Some h.3) ∙ h.4)

-- and a place of the list has a stop
pub HasStop-from_place : (stops : List Stop) (place : ℕ) → place < length stops → HasStop stops (id_at stops place)
HasStop-from_place [] place h = absurd (omega arith)
HasStop-from_place (s ∷ stops) zero h = (0, s, (omega arith), refl, refl)
HasStop-from_place (s ∷ stops) (suc place) h = let r = HasStop-from_place stops place (omega arith) in (suc r.0, r.1, (omega arith), r.3, r.4)

-- an end of a question is a stop of the list
pub HasStop-from_end : (stops : List Stop) (named stop : List ℕ) → HasStop stops named → IsEnd stops named stop → HasStop stops stop
HasStop-from_end stops named stop known (inl e) = let P : List ℕ → Type 0 = λ id. HasStop stops id in subst P (sym e) known
HasStop-from_end stops named stop known (inr child) = (child.0, child.1, child.2, child.3, child.4.0)

change_cases : (c : Change) (changes : List Change) (from to : List ℕ) (seconds : ℕ) → (change_between changes from to ≡ Some seconds → (place : ℕ) × (d : Change) × (slice_get changes place ≡ Some d) × (d.from ≡ from) × (d.to ≡ to) × (d.seconds ≡ seconds)) →
    (t u : Bool) → is_same_id c.from from ≡ t → is_same_id c.to to ≡ u →
    option_map (λ (d : Change). d.seconds) (cond (t && u) (Some c) (find (λ (d : Change). is_same_id d.from from && is_same_id d.to to) changes)) ≡ Some seconds →
    (place : ℕ) × (d : Change) × (slice_get (c ∷ changes) place ≡ Some d) × (d.from ≡ from) × (d.to ≡ to) × (d.seconds ≡ seconds)
change_cases c changes from to seconds rest true true f g e = (0, c, refl, (bytes_eq-Decides c.from from).0 f, (bytes_eq-Decides c.to to).0 g, cc)
change_cases c changes from to seconds rest true false f g e = let r = rest e in (suc r.0, r.1, r.2, r.3, r.4, r.5)
change_cases c changes from to seconds rest false u f g e = let r = rest e in (suc r.0, r.1, r.2, r.3, r.4, r.5)

-- what a look-up of a change found is a change of the list
pub change_found : (changes : List Change) (from to : List ℕ) (seconds : ℕ) → change_between changes from to ≡ Some seconds →
    (place : ℕ) × (c : Change) × (slice_get changes place ≡ Some c) × (c.from ≡ from) × (c.to ≡ to) × (c.seconds ≡ seconds)
change_found [] from to seconds e = absurd (cc)
change_found (c ∷ changes) from to seconds e = change_cases c changes from to seconds (change_found changes from to seconds) (is_same_id c.from from) (is_same_id c.to to) refl refl e

-- a change takes at least a second
pub change_takes_time : (changes : List Change) (from to : List ℕ) (seconds : ℕ) → change_between changes from to ≡ Some seconds → 1 ≤ seconds
change_takes_time changes from to seconds e = let r = change_found changes from to seconds e in let t = r.1.takes_time in omega arith

known_from : (doc : StopsDoc) (place : ℕ) (c : Change) (from : List ℕ) → slice_get doc.changes place ≡ Some c → c.from ≡ from → NamesItsStops doc.stops doc.changes → HasStop doc.stops from
known_from doc place c from e f h =
    let P : List ℕ → Type 0 = λ id. HasStop doc.stops id in
    let Q : Change → Type 0 = λ d. HasStop doc.stops d.from in
    subst P f (subst Q (get_or_from_slice_get doc.changes place c c e) (h.changes_from place c (slice_get_within doc.changes place c e)))

-- each end of a change of a document is one of its stops: one that is none has no change
pub from_known : (doc : StopsDoc) (from to : List ℕ) (seconds : ℕ) → change_between doc.changes from to ≡ Some seconds → (HasStop doc.stops from → ⊥) → ⊥
from_known doc from to seconds e none = not_there doc.closed (λ (h : NamesItsStops doc.stops doc.changes). let r = change_found doc.changes from to seconds e in none (known_from doc r.0 r.1 from r.2 r.3 h))

known_to : (doc : StopsDoc) (place : ℕ) (c : Change) (to : List ℕ) → slice_get doc.changes place ≡ Some c → c.to ≡ to → NamesItsStops doc.stops doc.changes → HasStop doc.stops to
known_to doc place c to e f h =
    let P : List ℕ → Type 0 = λ id. HasStop doc.stops id in
    let Q : Change → Type 0 = λ d. HasStop doc.stops d.to in
    subst P f (subst Q (get_or_from_slice_get doc.changes place c c e) (h.changes_to place c (slice_get_within doc.changes place c e)))

pub to_known : (doc : StopsDoc) (from to : List ℕ) (seconds : ℕ) → change_between doc.changes from to ≡ Some seconds → (HasStop doc.stops to → ⊥) → ⊥
to_known doc from to seconds e none = not_there doc.closed (λ (h : NamesItsStops doc.stops doc.changes). let r = change_found doc.changes from to seconds e in none (known_to doc r.0 r.1 to r.2 r.4 h))

-- a stop with a change from it, or to it, has a place
pub place_from_change : (doc : StopsDoc) (from to : List ℕ) (seconds : ℕ) → change_between doc.changes from to ≡ Some seconds → (place : ℕ) × (place < length doc.stops) × (id_at doc.stops place ≡ from)
place_from_change doc from to seconds e = elim (known_or_not doc.stops from) [ inl h ↦ h | inr none ↦ absurd (from_known doc from to seconds e (λ h. let r = place_from_HasStop doc.stops from h in none r.0 r.1 r.2)) ]

pub place_to_change : (doc : StopsDoc) (from to : List ℕ) (seconds : ℕ) → change_between doc.changes from to ≡ Some seconds → (place : ℕ) × (place < length doc.stops) × (id_at doc.stops place ≡ to)
place_to_change doc from to seconds e = elim (known_or_not doc.stops to) [ inl h ↦ h | inr none ↦ absurd (to_known doc from to seconds e (λ h. let r = place_from_HasStop doc.stops to h in none r.0 r.1 r.2)) ]

-- an order that is strict on a list is so on its rest
pub strict-rest : {X : Type 0} (cmp : X → X → Ordering) (x : X) (xs : List X) → IsStrict cmp (x ∷ xs) → IsStrict cmp xs
strict-rest cmp x xs h = λ i j d l m. h (suc i) (suc j) d (omega arith) (omega arith)

-- the first item is less than each of the rest
pub strict-first : {X : Type 0} (cmp : X → X → Ordering) (x : X) (xs : List X) → IsStrict cmp (x ∷ xs) → (place : ℕ) (y : X) → slice_get xs place ≡ Some y → cmp x y ≡ Less
strict-first {X = X} cmp x xs h place y e =
    let l = slice_get_within xs place y e in
    let P : X → Type 0 = λ z. cmp x z ≡ Less in
    subst P (get_or_from_slice_get xs place y y e) (h 0 (suc place) y (omega arith) (omega arith))

-- two changes of the same stops are not in strict order
no_two : (c d : Change) → c.from ≡ d.from → c.to ≡ d.to → change_cmp c d ≡ Less → ⊥
no_two c d e f h =
    let P : List ℕ → Type 0 = λ id. ordering_then (id_cmp c.from id) (id_cmp c.to d.to) ≡ Less in
    let Q : List ℕ → Type 0 = λ id. ordering_then (id_cmp c.from c.from) (id_cmp c.to id) ≡ Less in
    let g = subst Q (sym f) (subst P (sym e) h) in
    let s = tied_itself nat_list_cmp_total c.from in
    let t = tied_itself nat_list_cmp_total c.to in
    let u = ap (λ o. ordering_then o (id_cmp c.to c.to)) s ∙ t in
    absurd (cc)

-- the first change is found
here : (d : Change) (changes : List Change) → change_between (d ∷ changes) d.from d.to ≡ Some d.seconds
here d changes =
    let e = (bytes_eq-Decides d.from d.from).1 refl in
    let f = (bytes_eq-Decides d.to d.to).1 refl in
    ap (λ t. option_map (λ (x : Change). x.seconds) (cond (t && is_same_id d.to d.to) (Some d) (find (λ (x : Change). is_same_id x.from d.from && is_same_id x.to d.to) changes))) e
    ∙ ap (λ t. option_map (λ (x : Change). x.seconds) (cond t (Some d) (find (λ (x : Change). is_same_id x.from d.from && is_same_id x.to d.to) changes))) f

-- a later change is found where the first is less than it
change_rest : (d : Change) (changes : List Change) (c : Change) → change_between changes c.from c.to ≡ Some c.seconds → change_cmp d c ≡ Less →
    (t u : Bool) → is_same_id d.from c.from ≡ t → is_same_id d.to c.to ≡ u →
    change_between (d ∷ changes) c.from c.to ≡ Some c.seconds
change_rest d changes c rest less true true e f = absurd (no_two d c ((bytes_eq-Decides d.from c.from).0 e) ((bytes_eq-Decides d.to c.to).0 f) less)
change_rest d changes c rest less true false e f =
    ap (λ t. option_map (λ (x : Change). x.seconds) (cond (t && is_same_id d.to c.to) (Some d) (find (λ (x : Change). is_same_id x.from c.from && is_same_id x.to c.to) changes))) e
    ∙ ap (λ t. option_map (λ (x : Change). x.seconds) (cond t (Some d) (find (λ (x : Change). is_same_id x.from c.from && is_same_id x.to c.to) changes))) f
    ∙ rest
change_rest d changes c rest less false u e f =
    ap (λ t. option_map (λ (x : Change). x.seconds) (cond (t && is_same_id d.to c.to) (Some d) (find (λ (x : Change). is_same_id x.from c.from && is_same_id x.to c.to) changes))) e
    ∙ rest

-- in changes in order each is the one that a look-up finds
pub change_is : (changes : List Change) → InChangeOrder changes → (place : ℕ) (c : Change) → slice_get changes place ≡ Some c → change_between changes c.from c.to ≡ Some c.seconds
change_is [] h place c e = absurd (cc)
change_is (d ∷ changes) h zero c e =
    let f : d ≡ c = cc in
    let P : Change → Type 0 = λ x. change_between (d ∷ changes) x.from x.to ≡ Some x.seconds in
    subst P f (here d changes)
change_is (d ∷ changes) h (suc place) c e =
    change_rest d changes c (change_is changes (strict-rest change_cmp d changes h) place c e) (strict-first change_cmp d changes h place c e) (is_same_id d.from c.from) (is_same_id d.to c.to) refl refl
