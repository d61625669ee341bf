-- How many rides lead to an arrival.
use Rattle.std.proofs.Common.{◌≡◌, ℕ, ◌+◌, ◌≤◌, zero, suc, List, [], ◌∷◌, Option, Some, None, length, refl, sym, subst, inl, inr, arith}
use Rattle.std.specs.List.{slice_get}
use Rattle.lc_model.specs.declared.connection.Connection.{Connection}
use Rattle.lc_model.specs.declared.doc.StopsDoc.{StopsDoc}
use Rattle.lc_model.specs.declared.key.RunKey.{RunKey}
use Rattle.lc_model.specs.declared.query.Query.{Query}
use Rattle.lc_model.specs.declared.ride.Ride.{Ride}
use Rattle.lc_model.specs.declared.stop.Stop.{Stop}
use Rattle.csa_scan.specs.Reach.{IsLegEnd, MayBoard}
use Rattle.csa_scan.specs.RidesTo.{LeadsOn}
use Rattle.csa_scan.specs.declared.trace.Arrival.{Arrival}
use Rattle.change_rounds.specs.Boards.{IsWithin}

-- each item of the one list is at its place in the other
abbrev pub Grows : List Arrival → List Arrival → Type 0
Grows old new = (place : ℕ) (a : Arrival) → slice_get old place ≡ Some a → slice_get new place ≡ Some a

-- the begin is within any number
pub within-none : (arrivals : List Arrival) (n : ℕ) → IsWithin arrivals n None
within-none arrivals zero = refl
within-none arrivals (suc n) = inl refl

-- what is within a number is within the next one
pub within-suc : (arrivals : List Arrival) (n : ℕ) (after : Option ℕ) → IsWithin arrivals n after → IsWithin arrivals (suc n) after
within-suc arrivals zero after h = inl h
within-suc arrivals (suc n) after (inl e) = inl e
within-suc arrivals (suc n) after (inr h) = inr (h.0, h.1, h.2, h.3, within-suc arrivals n h.1.boarding.after h.4)

-- and stays so where arrivals are added
pub within-grown : (old new : List Arrival) → Grows old new → (n : ℕ) (after : Option ℕ) → IsWithin old n after → IsWithin new n after
within-grown old new grows zero after h = h
within-grown old new grows (suc n) after (inl e) = inl e
within-grown old new grows (suc n) after (inr h) = inr (h.0, h.1, h.2, grows h.0 h.1 h.3, within-grown old new grows n h.1.boarding.after h.4)

-- one ride back
back : (arrivals : List Arrival) (m place : ℕ) (a : Arrival) → slice_get arrivals place ≡ Some a → IsWithin arrivals m (Some place) → (k : ℕ) × (k + 1 ≤ m) × IsWithin arrivals k a.boarding.after
back arrivals zero place a e h = absurd (cc)
back arrivals (suc k) place a e (inl f) = absurd (cc)
back arrivals (suc k) place a e (inr h) =
    let same : h.0 ≡ place = let f = h.2 in cc in
    let P : ℕ → Type 0 = λ p. slice_get arrivals p ≡ Some h.1 in
    let at = subst P same h.3 in
    let is : h.1 ≡ a = cc in
    let Q : Arrival → Type 0 = λ x. IsWithin arrivals k x.boarding.after in
    (k, omega arith, subst Q is h.4)

-- rides that lead on to the goal, and what leads to them, are as many as lead to the goal
rides_within : (stops : List Stop) (runs : List RunKey) (arrivals : List Arrival) (goal n : ℕ) → IsWithin arrivals n (Some goal) → (after : Option ℕ) (rides : List Ride) → LeadsOn stops runs arrivals goal after rides →
    (m : ℕ) × (m + length rides ≤ n) × IsWithin arrivals m after
rides_within stops runs arrivals goal n h after [] leads =
    let P : Option ℕ → Type 0 = λ o. IsWithin arrivals n o in
    (n, omega arith, subst P (sym leads) h)
rides_within stops runs arrivals goal n h after (ride ∷ rest) leads =
    let more = rides_within stops runs arrivals goal n h (Some leads.0) rest leads.5 in
    let b = back arrivals more.0 leads.0 leads.1 leads.2 more.2 in
    let P : Option ℕ → Type 0 = λ o. IsWithin arrivals b.0 o in
    let l = more.1 in let k = b.1 in
    (b.0, omega arith, subst P leads.4 b.2)

-- the rides from the begin to the goal are so many at most
pub few_rides : (stops : List Stop) (runs : List RunKey) (arrivals : List Arrival) (goal n : ℕ) → IsWithin arrivals n (Some goal) → (rides : List Ride) → LeadsOn stops runs arrivals goal None rides → length rides ≤ n
few_rides stops runs arrivals goal n h rides leads = let r = rides_within stops runs arrivals goal n h None rides leads in let l = r.1 in omega arith

-- where one could board, one can when more was reached
pub may_board-grows : (query : Query) (doc : StopsDoc) (old new : List Arrival) → Grows old new → (after : Option ℕ) (stop : List ℕ) (at : ℕ) → MayBoard query doc old after stop at → MayBoard query doc new after stop at
may_board-grows query doc old new grows None stop at h = h
may_board-grows query doc old new grows (Some place) stop at h = (h.0, grows place h.0 h.1, h.2)

-- the end of a leg stays one
pub leg_end-grows : (query : Query) (doc : StopsDoc) (runs : List RunKey) (old new : List Arrival) → Grows old new → (list : List Connection) (a : Arrival) → IsLegEnd query doc runs old list a → IsLegEnd query doc runs new list a
leg_end-grows query doc runs old new grows list a h = record {
  ride = h.ride;
  is_leg = h.is_leg;
  is_shown = h.is_shown;
  may_board = may_board-grows query doc old new grows a.boarding.after h.ride.board h.ride.dep h.may_board;
}

-- who may board after an arrival is within the number that all arrivals are
pub boarded_within : (query : Query) (doc : StopsDoc) (arrivals : List Arrival) (n : ℕ) → ((place : ℕ) (a : Arrival) → slice_get arrivals place ≡ Some a → IsWithin arrivals n (Some place)) →
    (after : Option ℕ) (stop : List ℕ) (at : ℕ) → MayBoard query doc arrivals after stop at → IsWithin arrivals n after
boarded_within query doc arrivals n within None stop at m = within-none arrivals n
boarded_within query doc arrivals n within (Some place) stop at m = within place m.0 m.1
