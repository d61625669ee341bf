-- The news by the keys of the runs that they name, as a map has them. One entry is for the runs without a start, and one more for the run
-- of the start that they say.
use Rattle.std.specs.Prelude.{◌≡◌, ◌&&◌, Bool, List, Option, Some, option_map, if◌then◌else◌, is_some}
use Rattle.std.specs.BTreeMap.{BTreeMap, get}
use Rattle.lc_model.specs.RunKey.{key_cmp}
use Rattle.lc_model.specs.Text.{IsIdText}
use Rattle.lc_model.specs.declared.key.RunKey.{RunKey}
use Rattle.lc_model.specs.Versions.Naming.{names_run, news_for}
use Rattle.lc_model.specs.Versions.News.{TripSaid}
use Rattle.version_store.specs.Kept.{news_said}
use Rattle.version_store.specs.declared.dated.DatedNews.{DatedNews}

-- the news name the run of this key, which has a start
abbrev pub names_started : RunKey → TripSaid → Bool
names_started key news = is_some key.start && names_run key news

-- what the map has at a key, as it is said
abbrev pub said_at : BTreeMap RunKey DatedNews → RunKey → Option TripSaid
said_at named key = option_map news_said (get key_cmp named key)

-- the map has the news at the keys that they name, and what it had at all others
abbrev pub PutsNamed : DatedNews → BTreeMap RunKey DatedNews → BTreeMap RunKey DatedNews → Type 0
PutsNamed news old new =
    (key : RunKey) → IsIdText key.trip → said_at new key ≡ (if names_run key (news_said news) then Some (news_said news) else said_at old key)

-- at the key of each run the map has the last of the news that name it
abbrev pub HasNamed : List TripSaid → BTreeMap RunKey DatedNews → Type 0
HasNamed list named = (key : RunKey) → IsIdText key.trip → said_at named key ≡ news_for key list
