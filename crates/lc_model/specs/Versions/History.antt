-- What was known when: the messages that were admitted, one after the other, and the news that each version has.
use Rattle.std.specs.Prelude.{ℕ, ◌<◌, List, [], ◌∷◌, ◌++◌, map, filter, not, nat_le, if◌then◌else◌, Option, Some, None, is_some, option_map}
use Rattle.std.specs.List.{AllPairs, filter_map}
use Rattle.lc_model.specs.Change.{is_same_id}
use Rattle.lc_model.specs.declared.date.ServiceDate.{ServiceDate}
use Rattle.lc_model.specs.Versions.News.{EntitySaid, TripSaid}
use Rattle.lc_model.specs.declared.versions.update.Update.{Update}

-- a message that was admitted: what it says, how many bytes it has, and the cuts of the pages of its version
pub record Entry : Type 0 where
  pub update : Update
  pub bytes : ℕ
  pub cuts : List ℕ

-- the versions of a history, without the base
abbrev pub moments_of : List Entry → List ℕ
moments_of history = map (λ (e : Entry). e.update.moment) history

-- the moments of a history strictly increase, from above that of the base on
abbrev pub IsRising : ℕ → List ℕ → Type 0
IsRising base moments = AllPairs (λ (x y : ℕ). x < y) (base ∷ moments)

-- the date of the news, or this one where they say none
abbrev pub dated : ServiceDate → Option ServiceDate → Option ServiceDate
dated date None = Some date
dated date (Some said) = Some said

-- news without a date get this one
abbrev pub filled_news : ServiceDate → TripSaid → TripSaid
filled_news date news = record { trip = news.trip; date = dated date news.date; start = news.start; kind = news.kind; stops = news.stops }

-- an entity whose news without a date get this one
abbrev pub filled : ServiceDate → EntitySaid → EntitySaid
filled date entity = record { id = entity.id; news = option_map (filled_news date) entity.news }

-- the entities of an update, where news without a date get that of its moment
abbrev pub filled_entities : (ℕ → ServiceDate) → Update → List EntitySaid
filled_entities date_of update = map (filled (date_of update.moment)) update.entities

-- those that have news
abbrev pub with_news : List EntitySaid → List EntitySaid
with_news entities = filter (λ (e : EntitySaid). is_some e.news) entities

-- the entity goes to the end where it has news, and every other one of its id goes out
abbrev pub put : List EntitySaid → EntitySaid → List EntitySaid
put kept entity = filter (λ (e : EntitySaid). not (is_same_id e.id entity.id)) kept ++ with_news (entity ∷ [])

-- the entities one after the other
abbrev pub put_all : List EntitySaid → List EntitySaid → List EntitySaid
put_all kept [] = kept
put_all kept (entity ∷ rest) = put_all (put kept entity) rest

-- What is in force after an update (GTFS Realtime Reference, FeedHeader.Incrementality): of a full one its own entities that have
-- news. Another one replaces and takes out entities by their ids.
abbrev pub kept_after : (ℕ → ServiceDate) → List EntitySaid → Update → List EntitySaid
kept_after date_of kept update =
    if update.full then with_news (filled_entities date_of update) else put_all kept (filled_entities date_of update)

-- what is in force after all of these entries
abbrev pub kept_behind : (ℕ → ServiceDate) → List EntitySaid → List Entry → List EntitySaid
kept_behind date_of kept [] = kept
kept_behind date_of kept (entry ∷ rest) = kept_behind date_of (kept_after date_of kept entry.update) rest

-- the entries up to a version
abbrev pub up_to : ℕ → List Entry → List Entry
up_to version history = filter (λ (e : Entry). nat_le e.update.moment version) history

-- the news of a version, none for the base
abbrev pub news_at : (ℕ → ServiceDate) → List Entry → ℕ → List TripSaid
news_at date_of history version = filter_map (λ (e : EntitySaid). e.news) (kept_behind date_of [] (up_to version history))
