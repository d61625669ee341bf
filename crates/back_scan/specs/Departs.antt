-- What the progress keeps after a departure more.
use Rattle.std.specs.Prelude.{◌≡◌, ℕ, ◌+◌, ◌<◌, ◌≤◌, ◌⊎◌, List, Option, Some, None, true, length, slice_set}
use Rattle.std.specs.List.{slice_get}
use Rattle.std.specs.Option.{MatchOption}
use Rattle.lc_model.specs.declared.connection.Connection.{Connection}
use Rattle.lc_model.specs.declared.doc.StopsDoc.{StopsDoc}
use Rattle.lc_model.specs.declared.query.Query.{Query}
use Rattle.csa_scan.specs.Reach.{id_at}
use Rattle.csa_scan.specs.declared.trace.Near.{Near}
use Rattle.back_scan.specs.Kept.{Kept}
use Rattle.back_scan.specs.Linked.{HasDeparture}
use Rattle.back_scan.specs.declared.trace.Alighting.{Alighting}
use Rattle.back_scan.specs.declared.trace.Departure.{Departure}
use Rattle.back_scan.specs.declared.trace.Start.{Start}

-- the connection departs from the stop, may be boarded there no later than the run is left, and is the first from there
pub record IsBoardingStop (doc : StopsDoc) (departures : List (Option Departure)) (c : Connection) (a : Alighting) (stop : ℕ) : Type 0 where
  pub may_board : c.board ≡ true
  pub forward : c.dep ≤ a.arr
  pub within : stop < length doc.stops
  pub is : id_at doc.stops stop ≡ c.dep_stop
  pub free : slice_get departures stop ≡ Some None

-- where the connection may be boarded no later than the run is left, there is a departure from its stop
abbrev pub IsNoBoarding : StopsDoc → List (Option Departure) → Connection → Alighting → Type 0
IsNoBoarding doc departures c a =
    c.board ≡ true → c.dep ≤ a.arr → (stop : ℕ) → stop < length doc.stops → id_at doc.stops stop ≡ c.dep_stop → HasDeparture departures stop

-- one leaves the nearest end of the question for the departure from the stop, within the horizon
pub record IsStart (query : Query) (starts : List (Option Near)) (stop dep : ℕ) (s : Start) : Type 0 where
  pub near : Near
  pub is_near : slice_get starts stop ≡ Some (Some near)
  pub is_then : s.leaves + near.seconds ≡ dep
  pub not_early : query.leave ≤ s.leaves
  pub is_stop : s.stop ≡ stop

-- one does not within the horizon
abbrev pub IsNoStart : Query → List (Option Near) → ℕ → ℕ → Type 0
IsNoStart query starts stop dep = (n : Near) → slice_get starts stop ≡ Some (Some n) → dep < query.leave + n.seconds

-- the best start stays, as the new one is none or no later, or the new one is it
abbrev pub PicksStart : Option Start → Option Start → Option Start → Type 0
PicksStart best start new =
    ((new ≡ best) × ((t : Start) → start ≡ Some t → (s : Start) × (best ≡ Some s) × (t.leaves ≤ s.leaves)))
    ⊎ ((t : Start) × (start ≡ Some t) × (new ≡ Some t) × ((s : Start) → best ≡ Some s → s.leaves ≤ t.leaves))

-- the better one of the best start and that of the departure
pub record PicksBest (query : Query) (starts : List (Option Near)) (stop : ℕ) (d : Departure) (old new : Option Start) : Type 0 where
  pub start : Option Start
  pub is_start : MatchOption start (IsNoStart query starts stop d.dep) (IsStart query starts stop d.dep)
  pub picks : PicksStart old start new

-- the departure from the stop is kept
pub record Departs (query : Query) (starts : List (Option Near)) (stop : ℕ) (d : Departure) (old new : Kept) : Type 0 where
  pub departures : new.departures ≡ slice_set old.departures stop (Some d)
  pub alightings : new.alightings ≡ old.alightings
  pub best : PicksBest query starts stop d old.best new.best
