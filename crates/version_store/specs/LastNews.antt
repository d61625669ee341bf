-- The last news of each key: those that name a run of the timetable, and those with exactly the key.
use Rattle.std.specs.Prelude.{◌≡◌, List, Some, if◌then◌else◌}
use Rattle.std.specs.BTreeMap.{BTreeMap}
use Rattle.lc_model.specs.Text.{IsIdText}
use Rattle.lc_model.specs.declared.key.RunKey.{RunKey}
use Rattle.std.specs.BTreeSet.{BTreeSet}
use Rattle.std.specs.List.{Contains}
use Rattle.lc_model.specs.Versions.Added.{has_key, news_of_key}
use Rattle.lc_model.specs.Versions.Naming.{news_for}
use Rattle.lc_model.specs.Versions.News.{TripSaid}
use Rattle.version_store.specs.Kept.{news_said}
use Rattle.version_store.specs.Named.{HasNamed, said_at}
use Rattle.version_store.specs.declared.dated.DatedNews.{DatedNews}
use Rattle.version_store.specs.declared.last_news.LastNews.{LastNews}

-- the map has the news at their own key, and what it had at all others
abbrev pub PutsOwn : DatedNews → BTreeMap RunKey DatedNews → BTreeMap RunKey DatedNews → Type 0
PutsOwn news old new =
    (key : RunKey) → IsIdText key.trip → said_at new key ≡ (if has_key key (news_said news) then Some (news_said news) else said_at old key)

-- at each key the map has the last of the news with exactly this key
abbrev pub HasOwn : List TripSaid → BTreeMap RunKey DatedNews → Type 0
HasOwn list own = (key : RunKey) → IsIdText key.trip → said_at own key ≡ news_of_key key list

-- both maps are of these news
pub record HasLast (list : List TripSaid) (last : LastNews) : Type 0 where
  pub named : HasNamed list last.named
  pub own : HasOwn list last.own

-- at the key both maps have the last of these news, where a run may have it
pub record HasLastAt (key : RunKey) (list : List TripSaid) (last : LastNews) : Type 0 where
  pub named : IsIdText key.trip → said_at last.named key ≡ news_for key list
  pub own : IsIdText key.trip → said_at last.own key ≡ news_of_key key list

-- so at each key of a set
abbrev pub HasLastOf : BTreeSet RunKey → List TripSaid → LastNews → Type 0
HasLastOf keys list last = (key : RunKey) → Contains keys.keys key → HasLastAt key list last
