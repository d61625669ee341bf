-- Which messages are heard in an event sequence, and which version each client means.
use Rattle.std.specs.Prelude.{◌≡◌, ℕ, List, [], ◌∷◌, ◌++◌, length, Option, Some, take}
use Rattle.cli_words.specs.declared.command.Publishing.{Publishing}
use Rattle.convoy.specs.Agreement.OneClient.{version_of}
use Rattle.lc_model.specs.declared.query.Query.{Query}
use Rattle.page_client.specs.declared.want.Want.{Want}
use Rattle.lc_world.specs.Sides.Short.{IsShort}
use Rattle.timetable.specs.declared.timetable.Timetable.{Timetable}
use Rattle.version_store.specs.Store.{Stored}
use Rattle.cli_ask.specs.Admission.{IsBehind}
use Rattle.cli_ask.specs.Publishing.{side_with, store_of}
use Rattle.cli_replay.specs.ReplayLaws.Events.{before_turn_of}
use Rattle.cli_replay.specs.declared.replay_laws.event.Event.{Event}
use Rattle.cli_replay.specs.declared.replay_laws.event.Event.TheVariants as events

-- the store after the messages of an event sequence, one after the other, and their lines
abbrev pub HasHeard : List Event → Stored → Stored → List ℕ → Type 0
HasHeard [] old new lines = (new ≡ old) × (lines ≡ [])
HasHeard (events.Ask query ∷ more) old new lines = HasHeard more old new lines
HasHeard (events.Message message ∷ more) old new lines =
    (between : Stored) × (line : List ℕ) × (rest : List ℕ) × IsBehind (Some message.file) old between line × HasHeard more between new rest × (lines ≡ line ++ rest)
HasHeard (events.Turn client ∷ more) old new lines = HasHeard more old new lines

-- the messages of an event sequence, heard by a publisher of the timetable that had heard nothing, have these lines
pub record AreHeard (made : Timetable) (publishing : Publishing) (all : List Event) (lines : List ℕ) : Type 0 where
  pub store : Stored
  pub heard : HasHeard all (store_of made publishing.base_moment) store lines

-- a publisher of the timetable that had heard nothing admitted so many messages of an event sequence
pub record HaveAdmitted (made : Timetable) (publishing : Publishing) (all : List Event) (admitted : ℕ) : Type 0 where
  pub store : Stored
  pub lines : List ℕ
  pub heard : HasHeard all (store_of made publishing.base_moment) store lines
  pub is : admitted ≡ length store.history

-- The version of a client of the question that received this. The client means it by what was heard before its first turn, or by all
-- messages where it has none. It has no version where it received nothing.
pub record IsMeant (made : Timetable) (publishing : Publishing) (all : List Event) (client : ℕ) (query : Query) (given : List Want) (version : Option ℕ) : Type 0 where
  pub store : Stored
  pub lines : List ℕ
  pub heard : HasHeard (before_turn_of client all) (store_of made publishing.base_moment) store lines
  pub is : version ≡ version_of (side_with made publishing store) query given

-- the texts of the publisher fit into replies, whatever it has heard
abbrev pub AreShort : Timetable → Publishing → List Event → Type 0
AreShort made publishing all =
    (n : ℕ) (store : Stored) (lines : List ℕ) → HasHeard (take n all) (store_of made publishing.base_moment) store lines → IsShort (side_with made publishing store)
