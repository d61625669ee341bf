-- Which news name which run, and which news of stops name which call of it (GTFS Realtime Reference: TripDescriptor,
-- StopTimeUpdate).
use Rattle.std.specs.Prelude.{ℕ, suc, ◌+◌, drop, List, [], ◌∷◌, Bool, false, true, not, filter, ◌&&◌, ◌==◌, if◌then◌else◌, Option, Some, None, option_map}
use Rattle.std.specs.List.{last_or}
use Rattle.std.specs.Ordering.{is_eq}
use Rattle.lc_model.specs.Change.{is_same_id}
use Rattle.lc_model.specs.RunKey.{date_cmp}
use Rattle.lc_model.specs.declared.call.Call.{Call}
use Rattle.lc_model.specs.declared.date.ServiceDate.{ServiceDate}
use Rattle.lc_model.specs.declared.key.RunKey.{RunKey}
use Rattle.lc_model.specs.Versions.News.{StopSaid, TripSaid}
use Rattle.lc_model.specs.declared.versions.event.TripKind.{TripKind}
use Rattle.lc_model.specs.declared.versions.event.TripKind.TheVariants as kinds

-- the news are of a further run
abbrev pub is_added : TripKind → Bool
is_added kinds.Scheduled = false
is_added kinds.Added = true
is_added kinds.Canceled = false

-- the news say that the run does not take place
abbrev pub is_canceled : TripKind → Bool
is_canceled kinds.Scheduled = false
is_canceled kinds.Added = false
is_canceled kinds.Canceled = true

-- the date is said, and is this one
abbrev pub is_on : ServiceDate → Option ServiceDate → Bool
is_on date None = false
is_on date (Some said) = is_eq (date_cmp said date)

-- the start is this one, where the run has a start
abbrev pub starts_so : Option ℕ → Option ℕ → Bool
starts_so None said = true
starts_so (Some start) None = false
starts_so (Some start) (Some said) = said == start

-- The news name the run of the timetable with this key: they have its trip and its date, and its start where it has one.
-- News of a further run name none.
abbrev pub names_run : RunKey → TripSaid → Bool
names_run key news =
    not (is_added news.kind) && (is_same_id news.trip key.trip && (is_on key.date news.date && starts_so key.start news.start))

-- of the news that name the run the last
abbrev pub news_for : RunKey → List TripSaid → Option TripSaid
news_for key list = last_or None (filter (names_run key) list)

-- the place of the first call that is so, if one is
abbrev pub place_of : (Call → Bool) → List Call → Option ℕ
place_of is_so [] = None
place_of is_so (call ∷ calls) = if is_so call then Some 0 else option_map suc (place_of is_so calls)

-- The call that the news of a stop name, by its place. It is the one of their sequence, or else the first one at their stop from
-- this place on.
abbrev pub named_by : List Call → ℕ → Option ℕ → Option (List ℕ) → Option ℕ
named_by calls next (Some seq) stop = place_of (λ (c : Call). c.seq == seq) calls
named_by calls next None (Some stop) = option_map (λ place. next + place) (place_of (λ (c : Call). is_same_id c.stop stop) (drop next calls))
named_by calls next None None = None

-- the news of a stop, and the place of the call that they name
pub record Naming : Type 0 where
  pub place : ℕ
  pub news : StopSaid

-- the news of a stop with the call that they name, if they name one, before the namings after that place or this one
abbrev pub naming_then : StopSaid → (ℕ → List Naming) → ℕ → Option ℕ → List Naming
naming_then news behind next None = behind next
naming_then news behind next (Some place) = record { place = place; news = news } ∷ behind (suc place)

-- The news of stops one after the other, each with the call that it names. A stop is looked for after the call that was
-- named last; news that name no call are passed over.
abbrev pub namings : List Call → ℕ → List StopSaid → List Naming
namings calls next [] = []
namings calls next (news ∷ rest) = naming_then news (λ place. namings calls place rest) next (named_by calls next news.seq news.stop)

-- of the news that name the call at a place the last
abbrev pub news_at_place : List Naming → ℕ → Option StopSaid
news_at_place all place = option_map (λ (n : Naming). n.news) (last_or None (filter (λ (n : Naming). n.place == place) all))
