-- The run that the news of an added trip make.
use Rattle.std.specs.Prelude.{◌≡◌, ◌⊎◌, ◌<◌, ◌≤◌, List, length, true, Option, Some, None}
use Rattle.std.specs.Option.{IsSomeAnd}
use Rattle.lc_model.specs.Text.{IsIdText}
use Rattle.lc_model.specs.declared.date.ServiceDate.{ServiceDate}
use Rattle.lc_model.specs.declared.key.RunKey.{RunKey}
use Rattle.lc_model.specs.declared.run.Run.{Run}
use Rattle.lc_model.specs.declared.stop.Stop.{Stop}
use Rattle.lc_model.specs.Versions.Added.{added_calls, has_key}
use Rattle.lc_model.specs.Versions.News.{TripSaid}

-- the run has exactly the key of the news, and the calls that they give, at least two
pub record IsAddedRun (stops : List Stop) (news : TripSaid) (run : Run) : Type 0 where
  pub same_key : has_key run.key news ≡ true
  pub trip_named : IsIdText run.key.trip
  pub calls : run.calls ≡ added_calls stops news.stops
  pub two_at_least : 2 ≤ length run.calls

-- the news have no key that a run may have: their trip is no id, they say no date, or a start past 100 hours
abbrev pub HasNoKey : TripSaid → Type 0
HasNoKey news = (IsIdText news.trip → ⊥) ⊎ ((news.date ≡ None) ⊎ IsSomeAnd news.start (λ start. 360_000 ≤ start))

-- the news, now of a run on this date
abbrev pub on_date : ServiceDate → TripSaid → TripSaid
on_date date news = record { trip = news.trip; date = Some date; start = news.start; kind = news.kind; stops = news.stops }

-- the run that the news make, or none where they have no key or give fewer than two calls
abbrev pub IsAdded : List Stop → TripSaid → Option Run → Type 0
IsAdded stops news None = HasNoKey news ⊎ (length (added_calls stops news.stops) < 2)
IsAdded stops news (Some run) = IsAddedRun stops news run

-- a key that the news have, or none where they have none
abbrev pub IsKeyOf : TripSaid → Option RunKey → Type 0
IsKeyOf news None = HasNoKey news
IsKeyOf news (Some key) = (has_key key news ≡ true) × IsIdText key.trip
