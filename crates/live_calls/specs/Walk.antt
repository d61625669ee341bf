-- How a call is stated by its news, one call at a time.
use Rattle.std.specs.Prelude.{ℕ, ◌≤◌, ◌≤ℤ◌, ℤ, pos, negsuc, List, [], ◌∷◌, map, filter, ◌==◌, if◌then◌else◌, Option, Some, None}
use Rattle.std.specs.List.{last_or}
use Rattle.lc_model.specs.declared.call.Call.{Call}
use Rattle.lc_model.specs.declared.stop.Stop.{Stop}
use Rattle.lc_model.specs.Versions.Added.{added_known, has_stop, is_skipped, time_of}
use Rattle.lc_model.specs.Versions.Live.{StatedCall}
use Rattle.lc_model.specs.Versions.Naming.{Naming}
use Rattle.lc_model.specs.Versions.News.{StopSaid}
use Rattle.live_calls.specs.Laws.{IsOnTime}
use Rattle.live_calls.specs.declared.stated.Times.{Times}

-- as late or early as a call may be stated: by any 64 bits of seconds
pub record IsLateness (late : ℤ) : Type 0 where
  pub low : negsuc 18_446_744_073_709_551_615 ≤ℤ late
  pub high : late ≤ℤ pos 18_446_744_073_709_551_616

-- the call is on time, and not before a moment
pub record IsKeptAfter (before : ℕ) (call : Call) : Type 0 where
  pub on_time : IsOnTime call
  pub after : before ≤ call.arr
  pub stays : call.arr ≤ call.dep

-- a call that is made in this way at its times, or none where it has none
abbrev pub stated_list : (ℕ → ℕ → Call) → Option Times → List StatedCall
stated_list at None = []
stated_list at (Some times) = record { at = at; arr = times.arr; dep = times.dep } ∷ []

-- the last of these news that name the call at a place, or those that named it before
abbrev pub last_news : Option StopSaid → List Naming → ℕ → Option StopSaid
last_news before all place = last_or before (map (λ (n : Naming). n.news) (filter (λ (n : Naming). n.place == place) all))

-- the times of a call of which one may be missing and is then the other one
abbrev pub times_said : Option ℤ → Option ℤ → Option Times
times_said None None = None
times_said (Some arr) None = Some (record { arr = arr; dep = arr })
times_said None (Some dep) = Some (record { arr = dep; dep = dep })
times_said (Some arr) (Some dep) = Some (record { arr = arr; dep = dep })

-- the times at which an added trip serves a stop, if it does and they are said
abbrev pub served_times : StopSaid → Option Times
served_times news = if is_skipped news.relation then None else times_said (time_of news.arr) (time_of news.dep)

-- the call of an added trip at these times at a stop, if both are there and the stop is known
abbrev pub added_by : List Stop → ℕ → Option Times → Option (List ℕ) → Option StatedCall
added_by stops seq None stop = None
added_by stops seq (Some times) None = None
added_by stops seq (Some times) (Some stop) = added_known seq stop times.arr times.dep (has_stop stops stop)
