-- That a link records what the publisher of an event sequence replied.
use Rattle.std.specs.Prelude.{◌≡◌, ℕ, List, [], ◌∷◌, ◌++◌, Option, Some, length, option_map}
use Rattle.std.specs.List.{All}
use Rattle.cli_words.specs.declared.command.Publishing.{Publishing}
use Rattle.convoy.specs.Agreement.Names.{Round}
use Rattle.convoy.specs.Agreement.Replies.{IsRepliedBy}
use Rattle.lc_world.specs.declared.entry.Entry.{Entry}
use Rattle.timetable.specs.declared.timetable.Timetable.{Timetable}
use Rattle.version_store.specs.Store.{Stored}
use Rattle.cli_ask.specs.Admission.{IsBehind}
use Rattle.cli_ask.specs.Publishing.{side_with, store_of}
use Rattle.cli_replay.specs.declared.replay_laws.event.Event.{Event}
use Rattle.cli_replay.specs.declared.replay_laws.event.Event.TheVariants as events

-- From this store on, the side that had heard all messages before a turn replied to its exchanges. The side that had heard all replied after
-- the last event.
abbrev pub AreReplied : Timetable → Publishing → List Event → Stored → List Round → List Entry → Type 0
AreReplied made publishing [] store rounds entries = All (IsRepliedBy (side_with made publishing store)) entries
AreReplied made publishing (events.Ask query ∷ more) store rounds entries = AreReplied made publishing more store rounds entries
AreReplied made publishing (events.Message message ∷ more) store rounds entries =
    (next : Stored) × (line : List ℕ) × IsBehind (Some message.file) store next line × AreReplied made publishing more next rounds entries
AreReplied made publishing (events.Turn client ∷ more) store [] entries = ⊥
AreReplied made publishing (events.Turn client ∷ more) store (round ∷ rounds) entries =
    (own : List Entry) × (rest : List Entry) × (entries ≡ own ++ rest) × (length own ≡ length round.asked) × All (IsRepliedBy (side_with made publishing store)) own
    × AreReplied made publishing more store rounds rest

-- where the link records exchanges, those of the sequence are recorded besides those before, with the publisher's own replies
pub record TellsOwn (made : Timetable) (publishing : Publishing) (all : List Event) (rounds : List Round) (recorded now_recorded : Option (List Entry)) : Type 0 where
  pub entries : List Entry
  pub replied : AreReplied made publishing all (store_of made publishing.base_moment) rounds entries
  pub is : now_recorded ≡ option_map (λ (before : List Entry). before ++ entries) recorded
