-- The arguments of a command line, and the command that they say.
use Rattle.std.specs.Prelude.{◌≡◌, ℕ, List, [], ◌∷◌, codes, Option, MatchOption}
use Rattle.cli_words.specs.Arrive.{SaysArrive}
use Rattle.cli_words.specs.Ask.{SaysAsk}
use Rattle.cli_words.specs.Check.{SaysCheck}
use Rattle.cli_words.specs.Drill.{SaysDrill}
use Rattle.cli_words.specs.Fewest.{SaysFewest}
use Rattle.cli_words.specs.Plan.{SaysPlan}
use Rattle.cli_words.specs.Relay.{SaysRelay}
use Rattle.cli_words.specs.Replay.{SaysReplay}
use Rattle.cli_words.specs.Serve.{SaysServe}
use Rattle.cli_words.specs.declared.command.Command.{Command}
use Rattle.cli_words.specs.declared.command.Command.TheVariants as command

-- the first of the arguments is the command's name, and those after it say this
abbrev pub SaysCommand : List (List ℕ) → Command → Type 0
SaysCommand [] said = ⊥
SaysCommand (name ∷ words) (command.Check check) = (name ≡ codes "check") × SaysCheck words check
SaysCommand (name ∷ words) (command.Ask ask) = (name ≡ codes "ask") × SaysAsk words ask
SaysCommand (name ∷ words) (command.Replay replay) = (name ≡ codes "replay") × SaysReplay words replay
SaysCommand (name ∷ words) (command.Serve serve) = (name ≡ codes "serve") × SaysServe words serve
SaysCommand (name ∷ words) (command.Plan plan) = (name ≡ codes "plan") × SaysPlan words plan
SaysCommand (name ∷ words) (command.Drill drill) = (name ≡ codes "drill") × SaysDrill words drill
SaysCommand (name ∷ words) (command.Arrive arrive) = (name ≡ codes "arrive") × SaysArrive words arrive
SaysCommand (name ∷ words) (command.Fewest fewest) = (name ≡ codes "fewest") × SaysFewest words fewest
SaysCommand (name ∷ words) (command.Relay relay) = (name ≡ codes "relay") × SaysRelay words relay

-- what was read of the arguments is the command that they say, and none where they say no command
abbrev pub IsRead : List (List ℕ) → Option Command → Type 0
IsRead words read = MatchOption read ((said : Command) → SaysCommand words said → ⊥) (SaysCommand words)
