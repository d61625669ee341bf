-- The search among the changes from a stop for one that is in time.
use Rattle.std.proofs.Common.{◌≡◌, ℕ, ◌+◌, ◌<◌, List, [], ◌∷◌, ◌++◌, Some, Option, length, get_or, take, sym, ◌∙◌, ap, subst, inl, inr, arith}
use Rattle.std.specs.List.{slice_get}
use Rattle.std.proofs.lemmas.List.{take_more}
use Rattle.std.proofs.lemmas.Option.{slice_get-get_or, slice_get_within}
use Rattle.lc_model.specs.Change.{InChangeOrder, change_between, changes_from}
use Rattle.lc_model.specs.declared.change.Change.{Change}
use Rattle.lc_model.specs.declared.doc.StopsDoc.{StopsDoc}
use Rattle.lc_model.specs.declared.stop.Stop.{Stop}
use Rattle.csa_scan.specs.Reach.{id_at}
use Rattle.csa_scan.proofs.ChangesFromLemmas.{are_changes_from}
use Rattle.csa_scan.proofs.ChangesLemmas.{change_found, change_is}
use Rattle.csa_scan.proofs.ListPlacesLemmas.{push_cases}
use Rattle.back_scan.specs.Alights.{Catches}
use Rattle.back_scan.specs.Onward.{ChangesTo}
use Rattle.back_scan.specs.declared.trace.Departure.{Departure}

-- none of these changes is in time
abbrev pub CatchesNone : List Stop → List (Option Departure) → List Change → ℕ → Type 0
CatchesNone stops departures changes arr = (k : ℕ) (c : Change) → slice_get changes k ≡ Some c → (place : ℕ) → Catches stops departures c arr place → ⊥

pub catches_none : (stops : List Stop) (departures : List (Option Departure)) (arr : ℕ) → CatchesNone stops departures [] arr
catches_none stops departures arr = λ k c e place h. absurd (cc)

-- one change more is not in time
pub catches_no_more : (stops : List Stop) (departures : List (Option Departure)) (changes : List Change) (arr i : ℕ) (c : Change) → i < length changes → c ≡ get_or changes i c →
    CatchesNone stops departures (take i changes) arr → ((place : ℕ) → Catches stops departures c arr place → ⊥) → CatchesNone stops departures (take (i + 1) changes) arr
catches_no_more stops departures changes arr i c l e h none =
    let more = take_more changes i c l ∙ ap (λ (x : Change). take i changes ++ x ∷ []) (sym e) in
    let P : List Change → Type 0 = λ cs. CatchesNone stops departures cs arr in
    subst P (sym more) (λ k d f place m. elim (push_cases (take i changes) c k d f) [
      | inl was ↦ h k d was place m
      | inr now ↦ let Q : Change → Type 0 = λ x. Catches stops departures x arr place in none place (subst Q now.1 m)
    ])

-- where none of the changes from the stop is in time, one changes to no departure
pub changes_to_none : (doc : StopsDoc) (departures : List (Option Departure)) (stop arr : ℕ) → length departures ≡ length doc.stops → CatchesNone doc.stops departures (changes_from doc.changes (id_at doc.stops stop)) arr →
    (place : ℕ) → ChangesTo doc departures stop arr place → ⊥
changes_to_none doc departures stop arr same h place m =
    let from = id_at doc.stops stop in
    let found = change_found doc.changes from (id_at doc.stops place) m.seconds m.is_change in
    let are = are_changes_from doc.changes from in
    let k = are.complete found.0 found.1 found.2 found.3 in
    let seconds = found.5 in
    let t = m.in_time in
    let l = slice_get_within departures place (Some m.departure) m.is_departure in
    h k.0 found.1 k.1 place (record { within = omega arith; is = sym found.4; departure = m.departure; is_departure = m.is_departure; in_time = omega arith })

-- a change from the stop that is in time leads to its departure
pub changes_to_one : (doc : StopsDoc) (departures : List (Option Departure)) (stop arr : ℕ) → InChangeOrder doc.changes →
    (changes : List Change) → changes ≡ changes_from doc.changes (id_at doc.stops stop) → (i : ℕ) (c : Change) → i < length changes → c ≡ get_or changes i c →
    (place : ℕ) → Catches doc.stops departures c arr place → ChangesTo doc departures stop arr place
changes_to_one doc departures stop arr in_order changes same i c l e place m =
    let from = id_at doc.stops stop in
    let at = slice_get-get_or changes i c l ∙ ap Some (sym e) in
    let P : List Change → Type 0 = λ cs. slice_get cs i ≡ Some c in
    let are = are_changes_from doc.changes from in
    let sound = are.sound i c (subst P same at) in
    let is = change_is doc.changes in_order sound.0.0 c sound.0.1 in
    let F : List ℕ → Type 0 = λ id. change_between doc.changes id c.to ≡ Some c.seconds in
    let T : List ℕ → Type 0 = λ id. change_between doc.changes from id ≡ Some c.seconds in
    record { departure = m.departure; is_departure = m.is_departure; seconds = c.seconds; is_change = subst T (sym m.is) (subst F sound.1 is); in_time = m.in_time }
