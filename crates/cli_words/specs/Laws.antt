-- Arguments say one command at most, each command's arguments have a grammar, and what the base of a server is.
use Rattle.std.specs.Prelude.{◌≡◌, ◌≢◌, ℕ, ◌<◌, ◌^◌, ◌++◌, List, [], ◌∷◌, codes, decimal, All}
use Rattle.std.specs.Str.{IsUtf8}
use Rattle.clap.specs.Walk.{Text}
use Rattle.cli_words.specs.Grammar.{HasGrammar, IsDashWord, IsOptionWord, IsTable}
use Rattle.cli_words.specs.Line.{IsLine, arrive_line, ask_line, check_line, drill_line, fewest_line, line, plan_line, relay_line, replay_line, serve_line}
use Rattle.cli_words.specs.Publishing.{SaysBase}
use Rattle.cli_words.specs.Serve.{address_at}
use Rattle.cli_words.specs.Words.{SaysCommand}
use Rattle.cli_words.specs.declared.command.Command.{Command}

-- two commands of the same arguments are one
abbrev pub OneCommand : Type 0
OneCommand = (words : List (List ℕ)) (a b : Command) → SaysCommand words a → SaysCommand words b → a ≡ b

-- The address of each port that has 16 bits and is not 80 is a base, which the text says to the letter.
abbrev pub AddressesAreBases : Type 0
AddressesAreBases =
    (port : ℕ) → port < 2 ^ 16 → port ≢ 80
    → SaysBase (address_at port) (record { text = address_at port; authority = codes "localhost:" ++ decimal port; path = codes "/" })

-- The port of http itself, 80, is left out of the base.
abbrev pub Address80 : Type 0
Address80 = SaysBase (address_at 80) (record { text = codes "http://localhost/"; authority = codes "localhost"; path = codes "/" })

-- a line has the grammar of its names
abbrev pub LinesHaveGrammar : Type 0
LinesHaveGrammar =
    (name : Text) (places options flags : List Text) → IsTable places options flags
    → HasGrammar (line name places options flags) places options flags

-- before the first `--` each argument of a line that begins with a dash is one of an option or a flag of the command
abbrev pub DashWordsAreOptions : Type 0
DashWordsAreOptions =
    (name : Text) (places options flags : List Text) → IsTable places options flags → (front : List Text) (word : Text) (back : List Text)
    → All (λ word. word ≢ codes "--") front → IsDashWord word → All IsUtf8 (front ++ word ∷ back)
    → IsLine (line name places options flags) (front ++ word ∷ back) → IsOptionWord options flags word

-- the grammar of `check`
abbrev pub CheckGrammar : Type 0
CheckGrammar =
    HasGrammar check_line (codes "feed" ∷ codes "first" ∷ []) (codes "days" ∷ codes "zone" ∷ codes "change" ∷ []) []

-- the grammar of `ask`
abbrev pub AskGrammar : Type 0
AskGrammar =
    HasGrammar ask_line (codes "feed" ∷ codes "from" ∷ codes "to" ∷ codes "moment" ∷ [])
    (codes "days" ∷ codes "zone" ∷ codes "change" ∷ codes "horizon" ∷ codes "known" ∷ codes "base" ∷ codes "base-moment"
    ∷ codes "cuts" ∷ codes "cache" ∷ codes "update" ∷ []) []

-- the grammar of `replay`
abbrev pub ReplayGrammar : Type 0
ReplayGrammar =
    HasGrammar replay_line (codes "feed" ∷ codes "first" ∷ codes "script" ∷ [])
    (codes "days" ∷ codes "zone" ∷ codes "change" ∷ codes "base" ∷ codes "base-moment" ∷ codes "cuts" ∷ codes "cache" ∷ []) []

-- the grammar of `serve`
abbrev pub ServeGrammar : Type 0
ServeGrammar =
    HasGrammar serve_line (codes "feed" ∷ codes "first" ∷ [])
    (codes "days" ∷ codes "zone" ∷ codes "change" ∷ codes "base" ∷ codes "base-moment" ∷ codes "cuts" ∷ codes "update"
    ∷ codes "port" ∷ codes "connections" ∷ []) (codes "accept-updates" ∷ [])

-- the grammar of `plan`
abbrev pub PlanGrammar : Type 0
PlanGrammar = HasGrammar plan_line (codes "url" ∷ codes "asks" ∷ []) (codes "cache" ∷ []) []

-- the grammar of `relay`
abbrev pub RelayGrammar : Type 0
RelayGrammar = HasGrammar relay_line (codes "url" ∷ codes "asks" ∷ []) (codes "cache" ∷ codes "entries" ∷ []) []

-- the grammar of `drill`
abbrev pub DrillGrammar : Type 0
DrillGrammar = HasGrammar drill_line (codes "n" ∷ []) (codes "days" ∷ []) []

-- the grammar of `arrive`
abbrev pub ArriveGrammar : Type 0
ArriveGrammar =
    HasGrammar arrive_line (codes "feed" ∷ codes "from" ∷ codes "to" ∷ codes "moment" ∷ [])
    (codes "days" ∷ codes "zone" ∷ codes "change" ∷ codes "horizon" ∷ codes "known" ∷ codes "base" ∷ codes "base-moment"
    ∷ codes "cuts" ∷ codes "update" ∷ []) []

-- the grammar of `fewest`
abbrev pub FewestGrammar : Type 0
FewestGrammar =
    HasGrammar fewest_line (codes "feed" ∷ codes "from" ∷ codes "to" ∷ codes "moment" ∷ [])
    (codes "days" ∷ codes "zone" ∷ codes "change" ∷ codes "horizon" ∷ codes "known" ∷ codes "base" ∷ codes "base-moment"
    ∷ codes "cuts" ∷ codes "update" ∷ []) []
