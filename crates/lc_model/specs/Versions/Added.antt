-- Further runs by news of added trips (GTFS Realtime Reference, TripDescriptor.ScheduleRelationship ADDED).
use Rattle.std.specs.Prelude.{◌≡◌, ℕ, suc, ◌≤◌, ℤ, List, [], ◌∷◌, ◌++◌, length, filter, Bool, true, false, ◌&&◌, ◌==◌, Option, Some, None, option_and_then, option_to_list, if◌then◌else◌, pos}
use Rattle.std.specs.List.{Any, last_or, list_any}
use Rattle.lc_model.specs.Change.{is_same_id}
use Rattle.lc_model.specs.Text.{IsIdText}
use Rattle.lc_model.specs.declared.call.Call.{Call}
use Rattle.lc_model.specs.declared.key.RunKey.{RunKey}
use Rattle.lc_model.specs.declared.run.Run.{Run}
use Rattle.lc_model.specs.declared.stop.Stop.{Stop}
use Rattle.lc_model.specs.Versions.Live.{StatedCall, raised}
use Rattle.lc_model.specs.Versions.Naming.{is_added, is_on}
use Rattle.lc_model.specs.Versions.News.{StopSaid, TripSaid}
use Rattle.lc_model.specs.declared.versions.event.Event.{Event}
use Rattle.lc_model.specs.declared.versions.event.Relation.{Relation}
use Rattle.lc_model.specs.declared.versions.event.Relation.TheVariants as relations

-- whether the list has a stop of this id
abbrev pub has_stop : List Stop → List ℕ → Bool
has_stop stops id = list_any (λ (s : Stop). is_same_id s.id id) stops

-- the time that an event says, if there is one
abbrev pub time_of : Option Event → Option ℤ
time_of event = option_and_then (λ (e : Event). e.time) event

-- a call of a further run, where one may board and alight, and which is on time
abbrev pub added_call_at : List ℕ → ℕ → ℕ → ℕ → Call
added_call_at stop seq arr dep = record {
  stop = stop;
  seq = seq;
  arr = arr;
  dep = dep;
  board = true;
  alight = true;
  arr_delay = pos 0;
  dep_delay = pos 0;
}

-- a call at a stop, if that is known
abbrev pub added_known : ℕ → List ℕ → ℤ → ℤ → Bool → Option StatedCall
added_known seq stop arr dep false = None
added_known seq stop arr dep true = Some (record { at = added_call_at stop seq; arr = arr; dep = dep })

-- a call at a stop by its times, of which one may be missing and is then the other one
abbrev pub added_at : List Stop → ℕ → Option (List ℕ) → Option ℤ → Option ℤ → Option StatedCall
added_at stops seq None arr dep = None
added_at stops seq (Some stop) None None = None
added_at stops seq (Some stop) (Some arr) None = added_known seq stop arr arr (has_stop stops stop)
added_at stops seq (Some stop) None (Some dep) = added_known seq stop dep dep (has_stop stops stop)
added_at stops seq (Some stop) (Some arr) (Some dep) = added_known seq stop arr dep (has_stop stops stop)

-- whether the stop is left out
abbrev pub is_skipped : Relation → Bool
is_skipped relations.Scheduled = false
is_skipped relations.Skipped = true
is_skipped relations.NoData = false

-- The call that the news of a stop of an added trip give. It is none where it is SKIPPED, its stop is missing or unknown, or no
-- time is said of it.
abbrev pub added_call : List Stop → ℕ → StopSaid → Option StatedCall
added_call stops seq news = if is_skipped news.relation then None else added_at stops seq news.stop (time_of news.arr) (time_of news.dep)

-- the calls of these news of stops, the first of which has this place in the list, from 1: the place is the sequence
abbrev pub added_from : List Stop → ℕ → List StopSaid → List StatedCall
added_from stops seq [] = []
added_from stops seq (news ∷ rest) = option_to_list (added_call stops seq news) ++ added_from stops (suc seq) rest

-- the calls of a further run by the news of its stops
abbrev pub added_calls : List Stop → List StopSaid → List Call
added_calls stops news = raised 0 (added_from stops 1 news)

-- the starts are the same, or neither is said
abbrev pub is_start : Option ℕ → Option ℕ → Bool
is_start None None = true
is_start None (Some said) = false
is_start (Some start) None = false
is_start (Some start) (Some said) = said == start

-- the news have exactly the trip, the date and the start of the key
abbrev pub has_key : RunKey → TripSaid → Bool
has_key key news = is_same_id news.trip key.trip && (is_on key.date news.date && is_start key.start news.start)

-- the last news with exactly this key
abbrev pub news_of_key : RunKey → List TripSaid → Option TripSaid
news_of_key key list = last_or None (filter (has_key key) list)

-- The run is a further one: the timetable has none of its key. The last news of its key are of an added trip, which has an
-- id, and give its calls, at least two.
pub record IsFurtherRun (runs : List Run) (stops : List Stop) (list : List TripSaid) (run : Run) : Type 0 where
  pub is_new : Any (λ (r : Run). r.key ≡ run.key) runs → ⊥
  pub news : TripSaid
  pub last : news_of_key run.key list ≡ Some news
  pub added : is_added news.kind ≡ true
  pub trip_named : IsIdText run.key.trip
  pub calls : run.calls ≡ added_calls stops news.stops
  pub two_at_least : 2 ≤ length run.calls
