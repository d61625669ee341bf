-- That the output of a question for the fewest rides is one, where the replies come as the publisher gave them.
use Rattle.std.specs.Prelude.{ℕ, List, Option}
use Rattle.cli_ask.specs.Laws.{IsFair, PrintOneClient}
use Rattle.cli_ask.specs.declared.end.ClientEnd.{ClientEnd}
use Rattle.cli_ask.specs.FewestRides.Asked.{IsAskedFewest}
use Rattle.cli_words.specs.declared.command.Publishing.{Publishing}
use Rattle.rounds_client.specs.Ends.ReplyLaws.{HaveAsManyRides}
use Rattle.lc_io.specs.declared.file.File.{File}
use Rattle.lc_model.specs.declared.query.Query.{Query}
use Rattle.lc_world.specs.Link.{LinkSeen}
use Rattle.timetable.specs.Laws.{AreSame}
use Rattle.timetable.specs.declared.timetable.Timetable.{Timetable}

-- the texts print one client, and its journeys have as many rides
pub record PrintOneFewest (x y : List ℕ) (a b : ClientEnd) : Type 0 where
  pub client : PrintOneClient x y a b
  pub rides : HaveAsManyRides a.outcome b.outcome

-- Timetables that are the same, a message and a question give one output over fair links. X and Y are the types of the links, and
-- `seen` and `saw` what is promised of them.
abbrev pub OneFewestOutput : {X Y : Type 0} → (X → LinkSeen) → (Y → LinkSeen) → Type 0
OneFewestOutput {X} {Y} seen saw =
    (a b : Timetable) (publishing : Publishing) (file : Option File) (query : Query) (before after : X) (other later : Y) (x y : List ℕ) (d e : ClientEnd)
    → AreSame a b → IsFair a publishing file (seen before).clear (seen before).faults (seen after).faults
    → IsFair b publishing file (saw other).clear (saw other).faults (saw later).faults
    → IsAskedFewest a publishing file query (seen before) (seen after) x d → IsAskedFewest b publishing file query (saw other) (saw later) y e
    → PrintOneFewest x y d e
