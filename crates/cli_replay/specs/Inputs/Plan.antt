-- What a command reads that has a script and no feed: questions and turns, and no messages.
use Rattle.std.specs.Prelude.{◌≡◌, ℕ, false, List, [], ◌∷◌, ◌++◌}
use Rattle.lc_io.specs.Folder.{FolderSeen}
use Rattle.cli_replay.specs.declared.replay_laws.event.Event.{Event}
use Rattle.cli_replay.specs.declared.replay_laws.event.Event.TheVariants as events
use Rattle.journey_text.specs.declared.script.Record.{Record}
use Rattle.journey_text.specs.declared.script.Record.TheVariants as records
use Rattle.cli_replay.specs.Inputs.Script.{ReadsScript}

-- the record says this event, a question or a turn
abbrev pub SaysEvent : Record → Event → Type 0
SaysEvent (records.Ask query) (events.Ask asked) = asked ≡ query
SaysEvent (records.Ask query) (events.Message message) = ⊥
SaysEvent (records.Ask query) (events.Turn client) = ⊥
SaysEvent (records.Update name) (events.Ask asked) = ⊥
SaysEvent (records.Update name) (events.Message message) = ⊥
SaysEvent (records.Update name) (events.Turn client) = ⊥
SaysEvent (records.Turn client) (events.Ask asked) = ⊥
SaysEvent (records.Turn client) (events.Message message) = ⊥
SaysEvent (records.Turn client) (events.Turn turned) = turned ≡ client

-- the records say these events, one after the other
abbrev pub SayEvents : List Record → List Event → Type 0
SayEvents [] [] = Unit {0}
SayEvents [] (event ∷ all) = ⊥
SayEvents (said ∷ script) [] = ⊥
SayEvents (said ∷ script) (event ∷ all) = SaysEvent said event × SayEvents script all

-- there is one event more, which the record says
abbrev pub AddsSaid : Record → List Event → List Event → Type 0
AddsSaid said old new = (event : Event) × (new ≡ old ++ event ∷ []) × SaysEvent said event

-- the script of this name was read, which may name no messages, and says these events
pub record ReadsPlan (name : List ℕ) (old new : FolderSeen) (all : List Event) : Type 0 where
  pub script : List Record
  pub read : ReadsScript false name old new script
  pub say : SayEvents script all

-- the event is no message
abbrev pub IsNoMessage : Event → Type 0
IsNoMessage (events.Ask query) = Unit {0}
IsNoMessage (events.Message message) = ⊥
IsNoMessage (events.Turn client) = Unit {0}
