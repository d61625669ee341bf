-- The news in force after the messages, as a walk from the last entity to the first one finds them.
use Rattle.std.specs.Prelude.{◌≡◌, ◌⊎◌, ℕ, List, [], ◌∷◌, ◌++◌, map, Bool, true, false, ◌&&◌, if◌then◌else◌}
use Rattle.std.specs.List.{Contains, list_any}
use Rattle.lc_model.specs.Change.{is_same_id}
use Rattle.lc_model.specs.Versions.History.{Entry, filled, put, put_all, with_news}
use Rattle.lc_model.specs.Versions.News.{EntitySaid, TripSaid}
use Rattle.live_calls.specs.AddedRun.{on_date}
use Rattle.version_store.specs.Store.{entry_of}
use Rattle.version_store.specs.declared.dated.DatedNews.{DatedNews}
use Rattle.version_store.specs.declared.kept.Marked.{Marked}
use Rattle.version_store.specs.declared.store.Admission.{Admission}

-- the news with their date
abbrev pub news_said : DatedNews → TripSaid
news_said dated = on_date dated.date dated.news.now

-- a message that was admitted as an entry
abbrev pub entry_said : Admission → Entry
entry_said admission = entry_of admission.update admission.bytes

-- the entity, whose news have a date
abbrev pub entity_said : Marked → EntitySaid
entity_said marked = filled marked.spot.date marked.entity.now

-- an entity more: of a full message beside the others, of another one in the place of those of its id
abbrev pub then_marked : List EntitySaid → Marked → List EntitySaid
then_marked kept marked = if marked.replaces then put kept (entity_said marked) else kept ++ with_news (entity_said marked ∷ [])

-- entities more: in the place of those of their ids, or beside the others
abbrev pub then_entities : Bool → List EntitySaid → List EntitySaid → List EntitySaid
then_entities true kept entities = put_all kept entities
then_entities false kept entities = kept ++ with_news entities

-- the entities one after the other
abbrev pub then_all : List EntitySaid → List Marked → List EntitySaid
then_all kept [] = kept
then_all kept (marked ∷ rest) = then_all (then_marked kept marked) rest

-- one of these takes out entities of this id
abbrev pub is_replaced : List ℕ → List Marked → Bool
is_replaced id later = list_any (λ (m : Marked). m.replaces && is_same_id id m.entity.now.id) later

-- an entity, if it has news and no later one takes it out
abbrev pub kept_of : Bool → EntitySaid → List EntitySaid
kept_of replaced entity = if replaced then [] else with_news (entity ∷ [])

-- the entities with news that no later one takes out
abbrev pub survivors : List Marked → List EntitySaid
survivors [] = []
survivors (marked ∷ later) = kept_of (is_replaced marked.entity.now.id later) (entity_said marked) ++ survivors later

-- the entity is added if it has news and is not replaced, and nothing else
pub record PushesKept (replaced : Bool) (marked : Marked) (old new : List Marked) : Type 0 where
  pub said : map entity_said new ≡ map entity_said old ++ kept_of replaced (entity_said marked)
  pub of : (m : Marked) → Contains new m → Contains old m ⊎ (marked ≡ m)
