-- The arguments of a command, in the definitions of `clap`.
use Rattle.std.specs.Prelude.{◌≡◌, ◌≢◌, ℕ, List, [], ◌∷◌, ◌++◌, map, codes, Option, Some, true, String, All}
use Rattle.std.specs.String.{string_bytes}
use Rattle.std.specs.declared.alloc.Global.{Global}
use Rattle.clap.specs.Faults.{fault_of}
use Rattle.clap.specs.Matches.{first_value, found_of}
use Rattle.clap.specs.Simple.{App, matches_of, new_rule, new_shape}
use Rattle.clap.specs.Walk.{Rule, Text, first_of}
use Rattle.clap.specs.declared.builder.action.ArgAction.TheVariants.{Set, SetTrue}
use Rattle.clap.specs.declared.parser.matches.ArgMatches.{ArgMatches}

-- the arguments as texts
abbrev pub texts_of : List (String Global) → List Text
texts_of words = map string_bytes words

-- a plain argument, which has to be in its place
abbrev pub placed : Text → Rule
placed name = record (new_rule name) { action = Some Set; required = true }

-- an option with a value, `--name value` or `--name=value`
abbrev pub named : Text → Rule
named name = record (new_rule name) { long = Some name; action = Some Set }

-- an option without a value, `--name`, which gives `true` where it is there and `false` where it is not
abbrev pub flagged : Text → Rule
flagged name = record (new_rule name) { long = Some name; action = Some SetTrue }

-- a command with these plain arguments, these options with a value and these without, and no help
unfoldable pub line : Text → List Text → List Text → List Text → App
line name places options flags = record {
  top = record (new_shape name) {
    rules = map placed places ++ map named options ++ map flagged flags;
    no_binary_name = true;
    disable_help_flag = true;
  };
  subs = [];
}

-- `clap` takes the arguments
unfoldable pub Takes : App → List Text → Type 0
Takes a words = fault_of a words ≡ []

-- the value that the arguments give for a plain argument or an option
unfoldable pub value_at : App → List Text → Text → Option Text
value_at a words id = first_of id (matches_of a words)

-- this was found in the arguments
abbrev pub HasFound : App → List Text → ArgMatches → Type 0
HasFound a words matches = (id : List ℕ) → first_value (found_of matches) id ≡ value_at a words id

-- the argument is not a dash alone
abbrev pub IsNoDash : Text → Type 0
IsNoDash word = word ≢ codes "-"

-- The arguments are a line of the command: `clap` takes them, and none is a dash alone.
pub record IsLine (a : App) (words : List Text) : Type 0 where
  pub taken : Takes a words
  pub no_dash : All IsNoDash words

-- the line of `check FEED FIRST` with its options
unfoldable pub check_line : App
check_line =
    line (codes "check") (codes "feed" ∷ codes "first" ∷ []) (codes "days" ∷ codes "zone" ∷ codes "change" ∷ []) []

-- the line of `ask FEED FROM TO MOMENT` with its options
unfoldable pub ask_line : App
ask_line =
    line (codes "ask") (codes "feed" ∷ codes "from" ∷ codes "to" ∷ codes "moment" ∷ [])
    (codes "days" ∷ codes "zone" ∷ codes "change" ∷ codes "horizon" ∷ codes "known" ∷ codes "base" ∷ codes "base-moment"
    ∷ codes "cuts" ∷ codes "cache" ∷ codes "update" ∷ []) []

-- the line of `replay FEED FIRST SCRIPT` with its options
unfoldable pub replay_line : App
replay_line =
    line (codes "replay") (codes "feed" ∷ codes "first" ∷ codes "script" ∷ [])
    (codes "days" ∷ codes "zone" ∷ codes "change" ∷ codes "base" ∷ codes "base-moment" ∷ codes "cuts" ∷ codes "cache" ∷ []) []

-- the line of `serve FEED FIRST` with its options
unfoldable pub serve_line : App
serve_line =
    line (codes "serve") (codes "feed" ∷ codes "first" ∷ [])
    (codes "days" ∷ codes "zone" ∷ codes "change" ∷ codes "base" ∷ codes "base-moment" ∷ codes "cuts" ∷ codes "update"
    ∷ codes "port" ∷ codes "connections" ∷ []) (codes "accept-updates" ∷ [])

-- the line of `plan URL ASKS` with its option
unfoldable pub plan_line : App
plan_line = line (codes "plan") (codes "url" ∷ codes "asks" ∷ []) (codes "cache" ∷ []) []

-- the line of `relay URL ASKS` with its options
unfoldable pub relay_line : App
relay_line = line (codes "relay") (codes "url" ∷ codes "asks" ∷ []) (codes "cache" ∷ codes "entries" ∷ []) []

-- the line of `drill N` with its option
unfoldable pub drill_line : App
drill_line = line (codes "drill") (codes "n" ∷ []) (codes "days" ∷ []) []

-- the line of `arrive FEED FROM TO MOMENT` with its options: those of `ask` but `--cache`
unfoldable pub arrive_line : App
arrive_line =
    line (codes "arrive") (codes "feed" ∷ codes "from" ∷ codes "to" ∷ codes "moment" ∷ [])
    (codes "days" ∷ codes "zone" ∷ codes "change" ∷ codes "horizon" ∷ codes "known" ∷ codes "base" ∷ codes "base-moment"
    ∷ codes "cuts" ∷ codes "update" ∷ []) []

-- the line of `fewest FEED FROM TO MOMENT` with its options: those of `ask` but `--cache`
unfoldable pub fewest_line : App
fewest_line =
    line (codes "fewest") (codes "feed" ∷ codes "from" ∷ codes "to" ∷ codes "moment" ∷ [])
    (codes "days" ∷ codes "zone" ∷ codes "change" ∷ codes "horizon" ∷ codes "known" ∷ codes "base" ∷ codes "base-moment"
    ∷ codes "cuts" ∷ codes "update" ∷ []) []
