-- The entities in force after all messages, as those before the last message and that message give them.
use Rattle.std.specs.Prelude.{◌≡◌, ℕ, ◌<◌, ◌≤◌, List, [], ◌∷◌, ◌++◌, length, take, filter, slice_index_or, Bool, not, if◌then◌else◌}
use Rattle.std.specs.List.{filter_map, list_any}
use Rattle.lc_model.specs.Change.{is_same_id}
use Rattle.lc_model.specs.declared.date.ServiceDate.{ServiceDate}
use Rattle.lc_model.specs.Versions.History.{Entry, IsRising, kept_after, kept_behind, moments_of, news_at, put_all, with_news}
use Rattle.lc_model.specs.Versions.Named.{last_of}
use Rattle.lc_model.specs.Versions.News.{EntitySaid, TripSaid}

-- the entities in force after all messages of a history
abbrev pub entities_after : (ℕ → ServiceDate) → List Entry → List EntitySaid
entities_after date_of history = kept_behind date_of [] history

-- the news of entities
abbrev pub news_in : List EntitySaid → List TripSaid
news_in entities = filter_map (λ (e : EntitySaid). e.news) entities

-- what is in force after one message more depends on that message and on what was in force before it
abbrev pub ForceGoesOn : Type 0
ForceGoesOn =
    (date_of : ℕ → ServiceDate) (history : List Entry) (entry : Entry)
    → entities_after date_of (history ++ entry ∷ []) ≡ kept_after date_of (entities_after date_of history) entry.update

-- the version of a number: the base has number 0, and each message makes the next one
abbrev pub version_at : ℕ → List Entry → ℕ → ℕ
version_at base history number = slice_index_or (base ∷ moments_of history) number base

-- the news of a version are those in force after as many messages as its number says
abbrev pub NewsOfNumber : Type 0
NewsOfNumber =
    (date_of : ℕ → ServiceDate) (base : ℕ) (history : List Entry) (number : ℕ) → IsRising base (moments_of history) → number ≤ length history
    → news_at date_of history (version_at base history number) ≡ news_in (entities_after date_of (take number history))

-- the news of the newest version are those in force after all messages
abbrev pub NewestNews : Type 0
NewestNews =
    (date_of : ℕ → ServiceDate) (base : ℕ) (history : List Entry) → IsRising base (moments_of history)
    → news_at date_of history (last_of base (moments_of history)) ≡ news_in (entities_after date_of history)

-- a later message changes nothing of the news of a version
abbrev pub OlderNewsStay : Type 0
OlderNewsStay =
    (date_of : ℕ → ServiceDate) (history : List Entry) (entry : Entry) (version : ℕ) → version < entry.update.moment
    → news_at date_of (history ++ entry ∷ []) version ≡ news_at date_of history version

-- some of the entities have this id
abbrev pub has_id : List ℕ → List EntitySaid → Bool
has_id id entities = list_any (λ (e : EntitySaid). is_same_id id e.id) entities

-- of the entities the last one of each id
abbrev pub last_of_ids : List EntitySaid → List EntitySaid
last_of_ids [] = []
last_of_ids (entity ∷ later) = if has_id entity.id later then last_of_ids later else entity ∷ last_of_ids later

-- Entities that go in one after the other leave of what is in force those whose ids none of them has. Then comes the last of each id with news.
abbrev pub PutAtOnce : Type 0
PutAtOnce =
    (kept entities : List EntitySaid)
    → put_all kept entities ≡ filter (λ (e : EntitySaid). not (has_id e.id entities)) kept ++ with_news (last_of_ids entities)
