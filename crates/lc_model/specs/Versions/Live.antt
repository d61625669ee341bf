-- The live calls of a run: its calls as the news change them.
use Rattle.std.specs.Prelude.{ℕ, suc, ◌-◌, min, max, ℤ, pos, negsuc, ◌+ℤ◌, ◌-ℤ◌, List, [], ◌∷◌, if◌then◌else◌, Option, Some, None}
use Rattle.lc_model.specs.declared.call.Call.{Call}
use Rattle.lc_model.specs.declared.moment.TheConstants.{MOMENTS_END}
use Rattle.lc_model.specs.Versions.Naming.{Naming, is_canceled, namings, news_at_place}
use Rattle.lc_model.specs.Versions.News.{StopSaid, TripSaid}
use Rattle.lc_model.specs.declared.versions.event.Event.{Event}
use Rattle.lc_model.specs.declared.versions.event.Relation.{Relation}
use Rattle.lc_model.specs.declared.versions.event.Relation.TheVariants as relations

-- a moment as it is stated, in seconds since 1970, perhaps out of range, and how late that is
pub record Stated : Type 0 where
  pub time : ℤ
  pub delay : ℤ

-- What an event says of a scheduled moment, after a delay: its time; or else its delay; or else the delay goes on.
abbrev pub stated_by : ℕ → ℤ → Option ℤ → Option ℤ → Stated
stated_by scheduled late delay (Some time) = record { time = time; delay = time -ℤ pos scheduled }
stated_by scheduled late (Some delay) None = record { time = pos scheduled +ℤ delay; delay = delay }
stated_by scheduled late None None = record { time = pos scheduled +ℤ late; delay = late }

-- what an event says, which may be absent
abbrev pub stated : ℕ → ℤ → Option Event → Stated
stated scheduled late None = stated_by scheduled late None None
stated scheduled late (Some event) = stated_by scheduled late event.delay event.time

-- a call as it is stated: how it is made at two moments, and the moments that are stated of it
pub record StatedCall : Type 0 where
  pub at : ℕ → ℕ → Call
  pub arr : ℤ
  pub dep : ℤ

-- a call of the timetable at these moments, and how late that is
abbrev pub call_at : Call → ℕ → ℕ → Call
call_at call arr dep = record {
  stop = call.stop;
  seq = call.seq;
  arr = arr;
  dep = dep;
  board = call.board;
  alight = call.alight;
  arr_delay = pos arr -ℤ pos call.arr;
  dep_delay = pos dep -ℤ pos call.dep;
}

-- a call whose arrival and departure are stated, before those after the delay that these leave
abbrev pub stated_both : Call → (ℤ → List StatedCall) → Stated → Stated → List StatedCall
stated_both call behind arrival departure = record { at = call_at call; arr = arrival.time; dep = departure.time } ∷ behind departure.delay

-- a call by its events: the departure is stated after the delay that the arrival leaves
abbrev pub stated_events : Call → (ℤ → List StatedCall) → Option Event → Stated → List StatedCall
stated_events call behind dep arrival = stated_both call behind arrival (stated call.dep arrival.delay dep)

-- A call by the news of its stop, after a delay. NO_DATA leaves the schedule and ends the delay. A call that is SKIPPED
-- is left out.
abbrev pub stated_related : Call → (ℤ → List StatedCall) → ℤ → StopSaid → Relation → List StatedCall
stated_related call behind late news relations.NoData = record { at = call_at call; arr = pos call.arr; dep = pos call.dep } ∷ behind (pos 0)
stated_related call behind late news relations.Skipped = behind late
stated_related call behind late news relations.Scheduled = stated_events call behind news.dep (stated call.arr late news.arr)

-- a call with news of its stop or without: then the delay goes on
abbrev pub stated_with : Call → (ℤ → List StatedCall) → ℤ → Option StopSaid → List StatedCall
stated_with call behind late None = record { at = call_at call; arr = pos call.arr +ℤ late; dep = pos call.dep +ℤ late } ∷ behind late
stated_with call behind late (Some news) = stated_related call behind late news news.relation

-- what is stated of the calls from this place on, after a delay
abbrev pub stated_calls : List Naming → ℕ → ℤ → List Call → List StatedCall
stated_calls all place late [] = []
stated_calls all place late (call ∷ rest) = stated_with call (λ delay. stated_calls all (suc place) delay rest) late (news_at_place all place)

-- the nearest moment in range
abbrev pub in_range : ℤ → ℕ
in_range (pos second) = min second (MOMENTS_END - 1)
in_range (negsuc second) = 0

-- a call that arrives then, before those after its departure
abbrev pub raised_to : StatedCall → (ℕ → List Call) → ℕ → List Call
raised_to stated behind arr = stated.at arr (max arr (in_range stated.dep)) ∷ behind (max arr (in_range stated.dep))

-- the calls in range, each moment raised to the one before it: arrival, departure, arrival, departure
abbrev pub raised : ℕ → List StatedCall → List Call
raised before [] = []
raised before (stated ∷ rest) = raised_to stated (λ departure. raised departure rest) (max before (in_range stated.arr))

-- the calls with these news of stops
abbrev pub calls_with : List Call → List StopSaid → List Call
calls_with calls stops = raised 0 (stated_calls (namings calls 0 stops) 0 (pos 0) calls)

-- The live calls of a run with the news that name it, or without: none where these cancel it.
abbrev pub live_calls_of : List Call → Option TripSaid → List Call
live_calls_of calls None = calls_with calls []
live_calls_of calls (Some news) = if is_canceled news.kind then [] else calls_with calls news.stops
