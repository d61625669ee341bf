-- Whether rides of a list lead on from a ride to one where a journey may end.
use Rattle.std.proofs.Common.{ℕ, ◌+◌, ◌≤◌, ◌⊎◌, List, [], ◌∷◌, ◌++◌, ◌≡◌, Option, None, Some, inl, inr, refl, sym, subst}
use Rattle.std.proofs.Math.Decide.{dec_le}
use Rattle.std.specs.List.{Contains}
use Rattle.std.specs.Option.{IsSomeAnd}
use Rattle.page_json.proofs.ObjectMembersLemmas.DecisionsLemmas.{both, turn}
use Rattle.lc_model.specs.Change.{change_between}
use Rattle.lc_model.specs.Journey.{CanChange, GoesOn}
use Rattle.lc_model.specs.declared.doc.StopsDoc.{StopsDoc}
use Rattle.lc_model.specs.declared.ride.Ride.{Ride}
use Rattle.lc_model.proofs.ListLemmas.{Contains-cases, Contains-here, Contains-nil, Contains-there}
use Rattle.convoy.proofs.PageLawsLemmas.JourneysLemmas.{goes_over}

-- the ride is one of the list
abbrev pub IsOf : List Ride → Ride → Type 0
IsOf list ride = Contains list ride

-- the last of these rides
abbrev pub last_of : Ride → List Ride → Ride
last_of ride [] = ride
last_of ride (next ∷ rest) = last_of next rest

-- rides of the list lead on from this ride to one that is so
pub record LeadsOn (doc : StopsDoc) (list : List Ride) (IsSo : Ride → Type 0) (ride : Ride) : Type 0 where
  pub rest : List Ride
  pub goes : GoesOn (IsOf list) doc ride rest
  pub ends : IsSo (last_of ride rest)

-- whether there is time for a change can be found out
some_and : (P : ℕ → Type 0) → ((n : ℕ) → Dec (P n)) → (o : Option ℕ) → Dec (IsSomeAnd o P)
some_and P each None = no (λ h. h)
some_and P each (Some n) = each n

can_change : (doc : StopsDoc) (ride next : Ride) → Dec (CanChange doc ride next)
can_change doc ride next =
    some_and (λ seconds. ride.arr + seconds ≤ next.dep) (λ seconds. dec_le (ride.arr + seconds) next.dep) (change_between doc.changes ride.alight next.board)

module _ (doc : StopsDoc) (via : Ride) (list : List Ride) where
  -- a longer list has these rides too
  wider : (IsSo : Ride → Type 0) (ride : Ride) → LeadsOn doc list IsSo ride → LeadsOn doc (via ∷ list) IsSo ride
  wider IsSo ride leads = record {
    rest = leads.rest;
    goes = goes_over (IsOf list) (IsOf (via ∷ list)) doc ride leads.rest (λ r inside. Contains-there via list r inside) leads.goes;
    ends = leads.ends;
  }

  goes_via : (behind : List Ride) → GoesOn (IsOf (via ∷ list)) doc via behind → (ride : Ride) (rest : List Ride) → GoesOn (IsOf list) doc ride rest
      → CanChange doc (last_of ride rest) via → GoesOn (IsOf (via ∷ list)) doc ride (rest ++ via ∷ behind)
  goes_via behind onward ride [] goes change = (Contains-here via list, change, onward)
  goes_via behind onward ride (next ∷ rest) goes change =
      (Contains-there via list next goes.0, goes.1, goes_via behind onward next rest goes.2 change)

  last_via : (behind : List Ride) (ride : Ride) (rest : List Ride) → last_of ride (rest ++ via ∷ behind) ≡ last_of via behind
  last_via behind ride [] = refl
  last_via behind ride (next ∷ rest) = last_via behind next rest

  -- rides lead to the one more, and on from it
  joined : (IsSo : Ride → Type 0) (ride : Ride) → LeadsOn doc list (λ r. CanChange doc r via) ride → LeadsOn doc list IsSo via → LeadsOn doc (via ∷ list) IsSo ride
  joined IsSo ride to from =
      let onward = wider IsSo via from in
      record {
        rest = to.rest ++ via ∷ onward.rest;
        goes = goes_via onward.rest onward.goes ride to.rest to.goes to.ends;
        ends = subst IsSo (sym (last_via onward.rest ride to.rest)) onward.ends;
      }

  -- rides lead on by the shorter list alone, or to the one more and on from it
  abbrev Ways : (Ride → Type 0) → Ride → Type 0
  Ways IsSo ride = LeadsOn doc list IsSo ride ⊎ (LeadsOn doc list (λ r. CanChange doc r via) ride × LeadsOn doc list IsSo via)

  at_via : (IsSo : Ride → Type 0) (ride : Ride) → CanChange doc ride via → Ways IsSo via → Ways IsSo ride
  at_via IsSo ride change (inl from) = inr (record { rest = []; goes = tt; ends = change }, from)
  at_via IsSo ride change (inr (_, from)) = inr (record { rest = []; goes = tt; ends = change }, from)

  before : (IsSo : Ride → Type 0) (ride next : Ride) → IsOf list next → CanChange doc ride next → LeadsOn doc list IsSo next → LeadsOn doc list IsSo ride
  before IsSo ride next inside change leads = record { rest = next ∷ leads.rest; goes = (inside, change, leads.goes); ends = leads.ends }

  along : (IsSo : Ride → Type 0) (ride next : Ride) → IsOf list next → CanChange doc ride next → Ways IsSo next → Ways IsSo ride
  along IsSo ride next inside change (inl leads) = inl (before IsSo ride next inside change leads)
  along IsSo ride next inside change (inr (to, from)) = inr (before (λ r. CanChange doc r via) ride next inside change to, from)

  ways : (IsSo : Ride → Type 0) (ride : Ride) (rest : List Ride) → GoesOn (IsOf (via ∷ list)) doc ride rest → IsSo (last_of ride rest) → Ways IsSo ride
  ways IsSo ride [] goes ends = inl (record { rest = []; goes = tt; ends = ends })
  ways IsSo ride (next ∷ rest) goes ends =
      let onward = ways IsSo next rest goes.2 ends in
      elim (Contains-cases via list next goes.0) [
        | inl same ↦ at_via IsSo ride (subst (λ r. CanChange doc ride r) (sym same) goes.1) (subst (λ r. Ways IsSo r) (sym same) onward)
        | inr inside ↦ along IsSo ride next inside goes.1 onward
      ]

  by_ways : (IsSo : Ride → Type 0) (ride : Ride) → Dec (LeadsOn doc list IsSo ride) → Dec (LeadsOn doc list (λ r. CanChange doc r via) ride × LeadsOn doc list IsSo via)
      → Dec (LeadsOn doc (via ∷ list) IsSo ride)
  by_ways IsSo ride (yes leads) two = yes (wider IsSo ride leads)
  by_ways IsSo ride (no none) (yes two) = yes (joined IsSo ride two.0 two.1)
  by_ways IsSo ride (no none) (no neither) = no (λ leads. elim (ways IsSo ride leads.rest leads.goes leads.ends) [ inl h ↦ none h | inr h ↦ neither h ])

by_itself : (doc : StopsDoc) (IsSo : Ride → Type 0) (ride : Ride) (rest : List Ride) → GoesOn (IsOf []) doc ride rest → IsSo (last_of ride rest) → IsSo ride
by_itself doc IsSo ride [] goes ends = ends
by_itself doc IsSo ride (next ∷ rest) goes ends = absurd (Contains-nil next goes.0)

-- Either rides of the list lead on so, or none do. The list is taken ride by ride: a way either leaves out the first one, or leads to
-- it and on from it.
pub leads_on : (doc : StopsDoc) (list : List Ride) (IsSo : Ride → Type 0) → ((ride : Ride) → Dec (IsSo ride)) → (ride : Ride) → Dec (LeadsOn doc list IsSo ride)
leads_on doc [] IsSo each ride = turn (λ so. record { rest = []; goes = tt; ends = so }) (λ leads. by_itself doc IsSo ride leads.rest leads.goes leads.ends) (each ride)
leads_on doc (via ∷ list) IsSo each ride =
    by_ways doc via list IsSo ride (leads_on doc list IsSo each ride)
    (both (leads_on doc list (λ r. CanChange doc r via) (λ r. can_change doc r via) ride) (leads_on doc list IsSo each via))
