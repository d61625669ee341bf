-- What a client shows of its phase, and its steps as functions of that.
use Rattle.std.specs.Prelude.{◌≡◌, ℕ, ◌+◌, ◌-◌, ◌≤◌, Bool, true, false, ◌||◌, nat_le, nat_lt, List, [], ◌∷◌, Option, Some, None, is_some, IsSome, Result, Ok, Err, if◌then◌else◌}
use Rattle.lc_model.specs.declared.connection.Connection.{Connection}
use Rattle.lc_model.specs.declared.journey.Journey.{Journey}
use Rattle.lc_model.specs.declared.page.PageName.{PageName}
use Rattle.lc_model.specs.declared.query.Query.{Query}
use Rattle.page_json.specs.declared.page.Page.{Page}
use Rattle.page_client.specs.declared.fault.PeerFault.{PeerFault}
use Rattle.page_client.specs.declared.fault.PeerFault.TheVariants.{GateWrong}
use Rattle.page_client.specs.declared.fault.QueryFault.{QueryFault}
use Rattle.page_client.specs.declared.fault.QueryFault.TheVariants.{HorizonRange, SameStop, UnknownFrom, UnknownTo}
use Rattle.page_client.specs.declared.outcome.Outcome.{Outcome}
use Rattle.page_client.specs.declared.outcome.Outcome.TheVariants as outcomes
use Rattle.page_client.specs.declared.phase.Phase.{Phase}
use Rattle.page_client.specs.declared.phase.Phase.TheVariants as phases
use Rattle.page_client.specs.declared.want.Want.{Want}
use Rattle.page_client.specs.declared.want.Want.TheVariants as wants

-- The question, the phase of the client and the version that the time gate named. The time gate's reply until the first page is taken, and
-- the outcome.
pub record Shown : Type 0 where
  pub query : Query
  pub phase : Phase
  pub version : Option ℕ
  pub gate : Option (List ℕ)
  pub outcome : Option Outcome

-- what is wanted next
abbrev pub want_of : Phase → Want
want_of phases.Gate = wants.Gate
want_of (phases.Stops first) = wants.Stops
want_of (phases.Page name) = wants.Page name
want_of phases.Finished = wants.Finished

-- the horizon is from 1 to 604,800 seconds, which is a week
pub record HasHorizon (query : Query) : Type 0 where
  pub from_one : 1 ≤ query.horizon
  pub up_to_a_week : query.horizon ≤ 604_800

-- why a question is refused at once: its horizon is out of range, or else it begins and ends at one stop
abbrev pub IsRefusal : Query → Option QueryFault → Type 0
IsRefusal query None = HasHorizon query × (query.from ≡ query.to → ⊥)
IsRefusal query (Some HorizonRange) = HasHorizon query → ⊥
IsRefusal query (Some SameStop) = HasHorizon query × (query.from ≡ query.to)
IsRefusal query (Some UnknownFrom) = ⊥
IsRefusal query (Some UnknownTo) = ⊥

-- where a client begins
abbrev pub first_phase : Option QueryFault → Phase
first_phase None = phases.Gate
first_phase (Some fault) = phases.Finished

-- the outcome of a client that is refused at once
abbrev pub first_outcome : Option QueryFault → Option Outcome
first_outcome None = None
first_outcome (Some fault) = Some (outcomes.Refused fault)

-- how a client begins: it asks, or its question is refused
pub record Begins (query : Query) (s : Shown) : Type 0 where
  pub refusal : Option QueryFault
  pub is_refusal : IsRefusal query refusal
  pub is : s ≡ record {
    query = query;
    phase = first_phase refusal;
    version = None;
    gate = None;
    outcome = first_outcome refusal;
  }

-- with this outcome
abbrev pub ended : Outcome → Shown → Shown
ended outcome s = record { query = s.query; phase = phases.Finished; version = s.version; gate = None; outcome = Some outcome }

-- after running out of memory: it wants nothing, and has no outcome more
abbrev pub spent : Shown → Shown
spent s = record { query = s.query; phase = phases.Finished; version = s.version; gate = None; outcome = s.outcome }

-- after the time gate's reply, which sends to this page or fails a test
abbrev pub after_gate : List ℕ → Result PageName PeerFault → Shown → Shown
after_gate reply (Ok name) s = record {
  query = s.query;
  phase = phases.Stops name;
  version = Some name.version;
  gate = Some reply;
  outcome = s.outcome;
}
after_gate reply (Err fault) s = ended (outcomes.PeerWrong reply fault) s

-- the page that comes after the stops document
abbrev pub behind_stops : Phase → Phase
behind_stops (phases.Stops first) = phases.Page first
behind_stops phase = phase

-- what is shown after the stops document
abbrev pub after_stops : Shown → Shown
after_stops s = record { query = s.query; phase = behind_stops s.phase; version = s.version; gate = s.gate; outcome = s.outcome }

-- on to the next page
abbrev pub onward : PageName → Shown → Shown
onward next s = record { query = s.query; phase = phases.Page next; version = s.version; gate = None; outcome = s.outcome }

-- the first departure is above the moment, and there is a previous page
abbrev pub is_late : ℕ → List Connection → Option PageName → Bool
is_late leave [] previous = false
is_late leave (first ∷ rest) previous = if is_some previous then nat_lt leave first.dep else false

-- the next page begins at the moment or before it
abbrev pub is_early : ℕ → Option PageName → Bool
is_early leave None = false
is_early leave (Some next) = nat_le next.departs leave

-- the page is not the one for the moment: an earlier one is, or a later one
abbrev pub is_off : ℕ → Page → Bool
is_off leave page = is_late leave page.list page.previous || is_early leave page.next

-- the time gate was wrong to send here: its reply, which is held until the first page is taken, and the page
abbrev pub wrong_gate : Page → ℕ → Option (List ℕ) → Option Outcome
wrong_gate page leave None = None
wrong_gate page leave (Some reply) = if is_off leave page then Some (outcomes.PeerWrong reply (GateWrong page)) else None

-- a best journey, or that there is none
abbrev pub answered : Option Journey → Outcome
answered (Some journey) = outcomes.Found journey
answered None = outcomes.NoJourney

-- it ended by a reply that fails a test
abbrev pub is_wrong : Option Outcome → Bool
is_wrong None = false
is_wrong (Some (outcomes.Found journey)) = false
is_wrong (Some outcomes.NoJourney) = false
is_wrong (Some (outcomes.Refused fault)) = false
is_wrong (Some (outcomes.LinkFault before after)) = false
is_wrong (Some (outcomes.PeerWrong reply fault)) = true

-- a client that waits has its outcome as before, and one that waits for nothing has one
abbrev pub StaysOrEnds : Option Outcome → Phase → Option Outcome → Type 0
StaysOrEnds before phases.Gate after = after ≡ before
StaysOrEnds before (phases.Stops first) after = after ≡ before
StaysOrEnds before (phases.Page name) after = after ≡ before
StaysOrEnds before phases.Finished after = IsSome after

-- How many exchanges a client makes at most from here on. They are the time gate, the stops document, and a page for each second of
-- the horizon that is left, and one more.
abbrev pub pages_left : Query → Option (List ℕ) → PageName → ℕ
pages_left query (Some gate) name = query.horizon + 1
pages_left query None name = query.leave + query.horizon - name.departs + 1

-- how many exchanges are left at most in a phase
abbrev pub left_at : Query → Option (List ℕ) → Phase → ℕ
left_at query gate phases.Gate = query.horizon + 3
left_at query gate (phases.Stops first) = query.horizon + 2
left_at query gate (phases.Page name) = pages_left query gate name
left_at query gate phases.Finished = 0

-- how many exchanges are left at most
abbrev pub exchanges_left : Shown → ℕ
exchanges_left s = left_at s.query s.gate s.phase
