-- What a command results in before anything is written: a text to print, a publisher to serve, or a refusal. Each has its cause.
use Rattle.std.specs.Prelude.{◌≡◌, ◌⊎◌, ℕ, false, List, [], ◌∷◌, Option, None}
use Rattle.cli_ask.specs.Publishing.{PublishesAfter}
use Rattle.cli_ask.specs.declared.end.ClientEnd.{ClientEnd}
use Rattle.cli_replay.specs.Planning.Relayed.{IsRelayed}
use Rattle.cli_words.specs.Words.{SaysCommand}
use Rattle.cli_words.specs.declared.command.Arrive.{Arrive}
use Rattle.cli_words.specs.declared.command.Ask.{Ask}
use Rattle.cli_words.specs.declared.command.Check.{Check}
use Rattle.cli_words.specs.declared.command.Fewest.{Fewest}
use Rattle.cli_words.specs.declared.command.Plan.{Plan}
use Rattle.cli_words.specs.declared.command.Published.{Published}
use Rattle.cli_words.specs.declared.command.Relay.{Relay}
use Rattle.cli_words.specs.declared.command.Serve.{Serve}
use Rattle.cli_words.specs.declared.command.Command.{Command}
use Rattle.cli_words.specs.declared.command.Command.TheVariants as commands
use Rattle.lc_io.specs.Folder.{FolderSeen}
use Rattle.lc_io.specs.declared.file.File.{File}
use Rattle.lc_world.specs.GoneOn.{IsLeftByGets, IsLeftByPasses}
use Rattle.lc_world.specs.Link.{LinkSeen}
use Rattle.cli_replay.specs.PlanLaws.Planned.{IsPlanned}
use Rattle.cli_replay.specs.declared.replay_laws.event.Event.{Event}
use Rattle.timetable.specs.Loading.{Loads}
use Rattle.timetable.specs.declared.fault.LoadFault.TheVariants as fault
use Rattle.timetable.specs.declared.timetable.Timetable.{Timetable}
use Rattle.lc_cli.specs.CheckText.{check_text_of}
use Rattle.lc_cli.specs.Drill.{IsDrillBlock, IsDrillRefused}
pub use Rattle.lc_cli.specs.Replay.{IsPlayedBy, IsReplayBlock}
use Rattle.cli_replay.specs.Inputs.Inputs.{IsRefusedFor, ReadsInputs}
use Rattle.cli_replay.specs.Inputs.Plan.{ReadsPlan}
use Rattle.cli_replay.specs.Inputs.Script.{IsReplayRefused, IsScriptRefused}
use Rattle.lc_cli.specs.Question.{IsAskedSo}
use Rattle.lc_cli.specs.Scope.{scope_of}
use Rattle.lc_cli.specs.declared.block.Block.{Block}
use Rattle.lc_cli.specs.declared.question.Asking.{Asking}
use Rattle.lc_cli.specs.declared.question.Asking.TheVariants as askings
use Rattle.lc_cli.specs.declared.server.Server.{Server}
use Rattle.lc_cli.specs.declared.work.Work.{Work}
use Rattle.lc_cli.specs.declared.work.Work.TheVariants as works
use Rattle.cli_replay.specs.declared.inputs.refusal.Refusal.{Refusal}
use Rattle.cli_replay.specs.declared.inputs.refusal.Refusal.TheVariants.{Usage, Load}

-- the timetable of the command's feed was loaded, and what is printed are its counts
pub record IsCheckBlock (check : Check) (old new : FolderSeen) (block : Block) : Type 0 where
  pub made : Timetable
  pub loaded : Loads (scope_of check.window) old new made
  pub text : block.text.items ≡ check_text_of made
  pub no_client : block.ends.items ≡ []

-- The timetable and the message were read, and a client asked a publisher of them. The block has the line of the message and those of the
-- client.
pub record IsQuestionBlock (published : Published) (asking : Asking) (old new : FolderSeen) (before after : LinkSeen) (block : Block) : Type 0 where
  pub made : Timetable
  pub file : Option File
  pub inputs : ReadsInputs (scope_of published.window) published.update old new made file
  pub end : ClientEnd
  pub asked : IsAskedSo asking made published.publishing file before after block.text.items end
  pub client : block.ends.items ≡ end ∷ []

-- it is that of `ask`
abbrev pub IsAskBlock : Ask → FolderSeen → FolderSeen → LinkSeen → LinkSeen → Block → Type 0
IsAskBlock ask = IsQuestionBlock ask.published (askings.Earliest ask.query ask.cache)

-- that of `fewest`
abbrev pub IsFewestBlock : Fewest → FolderSeen → FolderSeen → LinkSeen → LinkSeen → Block → Type 0
IsFewestBlock fewest = IsQuestionBlock fewest.published (askings.Fewest fewest.query)

-- and that of `arrive`
abbrev pub IsArriveBlock : Arrive → FolderSeen → FolderSeen → LinkSeen → LinkSeen → Block → Type 0
IsArriveBlock arrive = IsQuestionBlock arrive.published (askings.Latest arrive.query)

-- The questions and turns were read, and happened over the link. What is printed are the lines of the clients.
pub record IsPlanBlock (plan : Plan) (old new : FolderSeen) (before after : LinkSeen) (block : Block) : Type 0 where
  pub all : List Event
  pub inputs : ReadsPlan plan.asks old new all
  pub planned : IsPlanned plan.base all plan.cache before after block.text.items block.ends.items

-- They happened over a relay of the link. What is printed are the lines of the clients, and how many exchanges the relay has handed on.
pub record IsRelayBlock (relay : Relay) (old new : FolderSeen) (before after : LinkSeen) (block : Block) : Type 0 where
  pub all : List Event
  pub inputs : ReadsPlan relay.asks old new all
  pub relayed : IsRelayed relay.base all relay.cache relay.entries before after block.text.items block.ends.items

-- what the command prints
abbrev pub Prints : Command → FolderSeen → FolderSeen → LinkSeen → LinkSeen → Block → Type 0
Prints (commands.Check check) old new before after block = IsCheckBlock check old new block
Prints (commands.Ask ask) old new before after block = IsAskBlock ask old new before after block
Prints (commands.Replay replay) old new before after block = IsReplayBlock replay old new before after block
Prints (commands.Serve serve) old new before after block = ⊥
Prints (commands.Plan plan) old new before after block = IsPlanBlock plan old new before after block
Prints (commands.Drill drill) old new before after block = (new ≡ old) × IsDrillBlock drill before after block
Prints (commands.Fewest fewest) old new before after block = IsFewestBlock fewest old new before after block
Prints (commands.Arrive arrive) old new before after block = IsArriveBlock arrive old new before after block
Prints (commands.Relay relay) old new before after block = IsRelayBlock relay old new before after block

-- the arguments say a command, and the block is what it prints
pub record IsRightBlock (words : List (List ℕ)) (old new : FolderSeen) (before after : LinkSeen) (block : Block) : Type 0 where
  pub command : Command
  pub says : SaysCommand words command
  pub prints : Prints command old new before after block

-- The timetable and the message of `serve` were read. Its publisher is that of the timetable after the message, and takes messages where the
-- arguments say so. The line says what became of the message. The port and the number of connections are those of the arguments.
pub record IsServer (serve : Serve) (old new : FolderSeen) (server : Server) : Type 0 where
  pub made : Timetable
  pub file : Option File
  pub inputs : ReadsInputs (scope_of serve.published.window) serve.published.update old new made file
  pub publishes : PublishesAfter made serve.published.publishing serve.accept_updates file server.publisher server.line.items
  pub port_is : server.port ≡ serve.port
  pub connections_are : server.connections ≡ serve.connections

-- what the command serves
abbrev pub Serves : Command → FolderSeen → FolderSeen → Server → Type 0
Serves (commands.Check check) old new server = ⊥
Serves (commands.Ask ask) old new server = ⊥
Serves (commands.Replay replay) old new server = ⊥
Serves (commands.Serve serve) old new server = IsServer serve old new server
Serves (commands.Plan plan) old new server = ⊥
Serves (commands.Drill drill) old new server = ⊥
Serves (commands.Fewest fewest) old new server = ⊥
Serves (commands.Arrive arrive) old new server = ⊥
Serves (commands.Relay relay) old new server = ⊥

-- what the command results in
abbrev pub ResultsIn : Command → FolderSeen → FolderSeen → LinkSeen → LinkSeen → Work → Type 0
ResultsIn command old new before after (works.Print block) = Prints command old new before after block
ResultsIn command old new before after (works.Serve server) = Serves command old new server

-- the arguments say `serve`, and this is what serves it
pub record IsRightServer (words : List (List ℕ)) (old new : FolderSeen) (server : Server) : Type 0 where
  pub serve : Serve
  pub says : SaysCommand words (commands.Serve serve)
  pub is : IsServer serve old new server

-- what the command of the arguments results in
abbrev pub IsRightWork : List (List ℕ) → FolderSeen → FolderSeen → LinkSeen → LinkSeen → Work → Type 0
IsRightWork words old new before after (works.Print block) = IsRightBlock words old new before after block
IsRightWork words old new before after (works.Serve server) = IsRightServer words old new server

-- What a command leaves of the link, however it ends. The clients of `plan` and `relay` ask over it by GETs, and no other command does more than
-- to hand answers on.
abbrev pub LeavesLink : Command → LinkSeen → LinkSeen → Type 0
LeavesLink (commands.Check check) before after = IsLeftByPasses before after
LeavesLink (commands.Ask ask) before after = IsLeftByPasses before after
LeavesLink (commands.Replay replay) before after = IsLeftByPasses before after
LeavesLink (commands.Serve serve) before after = IsLeftByPasses before after
LeavesLink (commands.Plan plan) before after = IsLeftByGets before after
LeavesLink (commands.Drill drill) before after = IsLeftByPasses before after
LeavesLink (commands.Fewest fewest) before after = IsLeftByPasses before after
LeavesLink (commands.Arrive arrive) before after = IsLeftByPasses before after
LeavesLink (commands.Relay relay) before after = IsLeftByGets before after

-- why a command is refused
abbrev pub IsRefusedAs : Command → FolderSeen → FolderSeen → Refusal → Type 0
IsRefusedAs (commands.Check check) old new refusal = IsRefusedFor (scope_of check.window) None old new refusal
IsRefusedAs (commands.Ask ask) old new refusal = IsRefusedFor (scope_of ask.published.window) ask.published.update old new refusal
IsRefusedAs (commands.Replay replay) old new refusal = IsReplayRefused (scope_of replay.window) replay.script old new refusal
IsRefusedAs (commands.Serve serve) old new refusal = IsRefusedFor (scope_of serve.published.window) serve.published.update old new refusal
IsRefusedAs (commands.Plan plan) old new refusal = IsScriptRefused false plan.asks old new refusal
IsRefusedAs (commands.Drill drill) old new refusal = (new ≡ old) × IsDrillRefused drill refusal
IsRefusedAs (commands.Fewest fewest) old new refusal = IsRefusedFor (scope_of fewest.published.window) fewest.published.update old new refusal
IsRefusedAs (commands.Arrive arrive) old new refusal = IsRefusedFor (scope_of arrive.published.window) arrive.published.update old new refusal
IsRefusedAs (commands.Relay relay) old new refusal = IsScriptRefused false relay.asks old new refusal

-- the arguments say a command, which is refused for this
pub record IsRefusedCommand (words : List (List ℕ)) (old new : FolderSeen) (refusal : Refusal) : Type 0 where
  pub command : Command
  pub says : SaysCommand words command
  pub refused : IsRefusedAs command old new refusal

-- the arguments say no command, and the directory was asked for nothing
pub record IsUsage (words : List (List ℕ)) (old new : FolderSeen) (refusal : Refusal) : Type 0 where
  pub is : refusal ≡ Usage
  pub says_none : (command : Command) → SaysCommand words command → ⊥
  pub unasked : new ≡ old

-- memory ran out before anything was asked
pub record RunsOutFirst (old new : FolderSeen) (refusal : Refusal) : Type 0 where
  pub is : refusal ≡ Load fault.NoMemory
  pub unasked : new ≡ old

-- why nothing but an error line is printed
abbrev pub IsRightRefusal : List (List ℕ) → FolderSeen → FolderSeen → Refusal → Type 0
IsRightRefusal words old new refusal =
    IsUsage words old new refusal ⊎ RunsOutFirst old new refusal ⊎ IsRefusedCommand words old new refusal
