-- That what is printed is one, and so is the status.
use Rattle.std.specs.Prelude.{◌≡◌, ◌⊎◌, ℕ, List, ◌++◌}
use Rattle.std.specs.List.{AllZip}
use Rattle.cli_ask.specs.LatestDeparture.Laws.{PrintOneLatest}
use Rattle.cli_ask.specs.Laws.{AreOneEnd, PrintOneClient}
use Rattle.cli_ask.specs.declared.end.ClientEnd.{ClientEnd}
use Rattle.cli_ask.specs.FewestRides.Laws.{PrintOneFewest}
use Rattle.cli_words.specs.Words.{SaysCommand}
use Rattle.cli_words.specs.declared.command.Command.{Command}
use Rattle.cli_words.specs.declared.command.Command.TheVariants as commands
use Rattle.lc_io.specs.declared.file.File.{File}
use Rattle.lc_world.specs.Link.{LinkSeen}
use Rattle.cli_replay.specs.ReplayLaws.Replayed.{clients_text_of}
use Rattle.lc_cli.specs.Clear.{IsClear, IsUnhindered}
use Rattle.lc_cli.specs.Top.{HasPrinted, HasServed, IsRight, Past}
use Rattle.lc_cli.specs.declared.block.Block.{Block}
use Rattle.lc_cli.specs.declared.status.Status.{Status}
use Rattle.lc_cli.specs.declared.status.Status.TheVariants.{Done, NoMemory}

-- The outputs of two plays of an event sequence are one. They have equal lines of messages, and lines of as many clients whose ends are one.
pub record PrintOneCourse (x y : Block) : Type 0 where
  pub lines : List ℕ
  pub first_is : x.text.items ≡ lines ++ clients_text_of 1 x.ends.items
  pub second_is : y.text.items ≡ lines ++ clients_text_of 1 y.ends.items
  pub one_each : AllZip AreOneEnd x.ends.items y.ends.items

-- the command asks an in-process publisher, or none
abbrev pub IsInProcess : Command → Type 0
IsInProcess (commands.Check check) = Unit {0}
IsInProcess (commands.Ask ask) = Unit {0}
IsInProcess (commands.Replay replay) = Unit {0}
IsInProcess (commands.Serve serve) = ⊥
IsInProcess (commands.Plan plan) = ⊥
IsInProcess (commands.Drill drill) = Unit {0}
IsInProcess (commands.Fewest fewest) = Unit {0}
IsInProcess (commands.Arrive arrive) = Unit {0}
IsInProcess (commands.Relay relay) = ⊥

-- the arguments say no other command
abbrev pub AreInProcess : List (List ℕ) → Type 0
AreInProcess words = (command : Command) → SaysCommand words command → IsInProcess command

-- The outputs of such a command are one: the same counts or sums, or the same lines of messages and clients whose ends are one. Journeys of
-- `fewest` have as many rides, and journeys of `arrive` leave at one moment.
abbrev pub PrintOne : Command → Block → Block → Type 0
PrintOne (commands.Serve serve) x y = ⊥
PrintOne (commands.Plan plan) x y = ⊥
PrintOne (commands.Drill drill) x y = x.text.items ≡ y.text.items
PrintOne (commands.Relay relay) x y = ⊥
PrintOne (commands.Check check) x y = x.text.items ≡ y.text.items
PrintOne (commands.Replay replay) x y = PrintOneCourse x y
PrintOne (commands.Ask ask) x y = (first : ClientEnd) × (second : ClientEnd) × PrintOneClient x.text.items y.text.items first second
PrintOne (commands.Fewest fewest) x y = (first : ClientEnd) × (second : ClientEnd) × PrintOneFewest x.text.items y.text.items first second
PrintOne (commands.Arrive arrive) x y = (first : ClientEnd) × (second : ClientEnd) × PrintOneLatest x.text.items y.text.items first second

-- a run that is done has printed its output, or served its connections
abbrev pub DoneIsPrinted : {X : Type 0} → (X → LinkSeen) → Type 0
DoneIsPrinted {X} seen = (p : Past X) → IsRight seen p Done → HasPrinted seen p Done ⊎ HasServed p Done

-- Runs of equal arguments over equal files, which nothing hindered, print one output where they have one to print. They ask an in-process
-- publisher. X and Y are the types of their links, and `seen` and `saw` what is promised of these.
abbrev pub OneRun : {X Y : Type 0} → (X → LinkSeen) → (Y → LinkSeen) → Type 0
OneRun {X} {Y} seen saw =
    (p : Past X) (q : Past Y) (recorded : List File) → p.words ≡ q.words → AreInProcess p.words → IsUnhindered seen p recorded → IsUnhindered saw q recorded
    → (s t : Status) (x : HasPrinted seen p s) (y : HasPrinted saw q t) → PrintOne x.right.command x.block y.block

-- Runs of equal arguments over equal files, which nothing hindered, end with one status, memory apart. Each status comes exactly where it has
-- its cause.
abbrev pub OneStatus : {X Y : Type 0} → (X → LinkSeen) → (Y → LinkSeen) → Type 0
OneStatus {X} {Y} seen saw =
    (p : Past X) (q : Past Y) (recorded : List File) → p.words ≡ q.words → AreInProcess p.words → IsUnhindered seen p recorded → IsUnhindered saw q recorded
    → (s t : Status) → IsRight seen p s → IsRight saw q t → (s ≡ t) ⊎ ((s ≡ NoMemory) ⊎ (t ≡ NoMemory))

-- each run that is done over recorded files, which nothing hindered, is clear
abbrev pub DoneIsClear : {X : Type 0} → (X → LinkSeen) → Type 0
DoneIsClear {X} seen = (p : Past X) (recorded : List File) → IsUnhindered seen p recorded → IsRight seen p Done → IsClear seen p
