-- From what is read and asked to what a command results in.
use Rattle.std.proofs.Common.{◌≡◌, ◌≢◌, ◌∷◌, inr, ℕ, List, [], Option, Result, Ok, Err, IfErr, IfOk, subst, sym}
use Rattle.cli_ask.specs.declared.end.ClientEnd.{ClientEnd}
use Rattle.cli_ask.specs.declared.question.Asked.{Asked}
use Rattle.cli_replay.specs.Inputs.Inputs.{IsMessageRefusal, IsRefusedFor, ReadsInputs}
use Rattle.cli_replay.proofs.InputsLemmas.InputsLemmas.{message_refused}
use Rattle.cli_replay.specs.declared.inputs.refusal.Refusal.{Refusal}
use Rattle.cli_replay.specs.declared.inputs.refusal.Refusal.TheVariants.{Load}
use Rattle.cli_words.specs.Words.{SaysCommand}
use Rattle.cli_words.specs.declared.command.Command.{Command}
use Rattle.cli_words.specs.declared.command.Command.TheVariants as commands
use Rattle.lc_io.specs.Folder.{FolderSeen}
use Rattle.lc_io.specs.declared.file.File.{File}
use Rattle.lc_world.proofs.GoneOnLemmas.{no_gets, no_passes}
use Rattle.lc_world.specs.GoneOn.{HasGoneOn}
use Rattle.lc_world.specs.Link.{LinkSeen}
use Rattle.timetable.specs.declared.fault.LoadFault.TheVariants.{NoMemory as OutOfMemory}
use Rattle.timetable.specs.declared.scope.Scope.{Scope}
use Rattle.timetable.specs.declared.timetable.Timetable.{Timetable}
use Rattle.version_store.specs.declared.message_fault.MessageFault.{MessageFault}
use Rattle.version_store.specs.declared.message_fault.MessageFault.TheVariants as messages
use Rattle.lc_cli.specs.Command.{IsQuestionBlock, IsRefusedAs, IsRightRefusal, IsRightWork, LeavesLink, Prints, ResultsIn}
use Rattle.lc_cli.specs.Question.{IsAskedSo, IsEndBlock, IsUnasked}
use Rattle.lc_cli.specs.declared.block.Block.{Block}
use Rattle.lc_cli.specs.declared.work.Work.{Work}
use Rattle.lc_cli.specs.Scope.{scope_of}
use Rattle.cli_words.specs.declared.command.Published.{Published}
use Rattle.lc_cli.specs.declared.question.Asking.{Asking}
use Rattle.lc_cli.specs.declared.work.Work.TheVariants as works

-- what is printed of a question
pub question_block_of : (published : Published) (asking : Asking) (old new : FolderSeen) (before after : LinkSeen) (made : Timetable) (file : Option File) → ReadsInputs (scope_of published.window) published.update old new made file
    → (text : _) (end : ClientEnd) (block : Block) → block.text ≡ text → block.ends.items ≡ end ∷ [] → IsAskedSo asking made published.publishing file before after text.items end
    → IsQuestionBlock published asking old new before after block
question_block_of published asking old new before after made file inputs text end block is client asked = record {
  made = made;
  file = file;
  inputs = inputs;
  end = end;
  asked = subst (λ t. IsAskedSo asking made published.publishing file before after t.items end) (sym is) asked;
  client = client;
}

-- what is printed of a question that ended so
pub ended_printed : (published : Published) (asking : Asking) (old new : FolderSeen) (before after : LinkSeen) (made : Timetable) (file : Option File) → ReadsInputs (scope_of published.window) published.update old new made file
    → (ended : Result Asked MessageFault) (result : Result Block Refusal) → IfOk result (IsEndBlock ended)
    → IfOk ended (λ asked. IsAskedSo asking made published.publishing file before after asked.text.items asked.end) → IfOk result (IsQuestionBlock published asking old new before after)
ended_printed published asking old new before after made file inputs (Ok asked) (Ok block) is so = question_block_of published asking old new before after made file inputs asked.text asked.end block is.0 is.1 so
ended_printed published asking old new before after made file inputs (Err fault) (Ok block) is so = absurd is
ended_printed published asking old new before after made file inputs ended (Err refusal) is so = tt

-- why it is refused
pub ended_refused : (scope : Scope) (update : Option (List ℕ)) (old new : FolderSeen) (made : Timetable) (file : Option File) → ReadsInputs scope update old new made file
    → (result : Result Block Refusal) → IfErr result (IsMessageRefusal file) → IfErr result (IsRefusedFor scope update old new)
ended_refused scope update old new made file inputs (Ok block) is = tt
ended_refused scope update old new made file inputs (Err refusal) is = message_refused scope update old new made file refusal inputs is

-- a link over which nothing was asked is left as it was
pub ended_unasked : {X : Type 0} (link left : X) (ended : Result Asked MessageFault) (result : Result Block Refusal)
    → IfErr result (λ refusal. refusal ≢ Load OutOfMemory → IsUnasked ended) → IfErr ended (λ fault. fault ≢ messages.NoMemory → left ≡ link)
    → IfErr result (λ refusal. refusal ≢ Load OutOfMemory → left ≡ link)
ended_unasked link left ended (Ok block) is kept = tt
ended_unasked link left (Ok asked) (Err refusal) is kept = λ other. absurd (is other)
ended_unasked link left (Err fault) (Err refusal) is kept = λ other. kept (is other)

-- a block that a command prints, and a refusal of it, as what it results in
pub results_printed : (old new : FolderSeen) (before after : LinkSeen) (command : Command) (block : Result Block Refusal) (result : Result Work Refusal)
    → IfOk block (Prints command old new before after) → IfOk block (λ b. result ≡ Ok (works.Print b)) → IfErr block (λ r. result ≡ Err r) → IfOk result (ResultsIn command old new before after)
results_printed old new before after command (Ok block) result prints work refused =
    subst (λ (r : Result Work Refusal). IfOk r (ResultsIn command old new before after)) (sym work) prints
results_printed old new before after command (Err refusal) result prints work refused =
    subst (λ (r : Result Work Refusal). IfOk r (ResultsIn command old new before after)) (sym refused) tt

pub refused_printed : (old new : FolderSeen) (command : Command) (block : Result Block Refusal) (result : Result Work Refusal) → IfErr block (IsRefusedAs command old new)
    → IfOk block (λ b. result ≡ Ok (works.Print b)) → IfErr block (λ r. result ≡ Err r) → IfErr result (IsRefusedAs command old new)
refused_printed old new command (Ok block) result is work refused = subst (λ (r : Result Work Refusal). IfErr r (IsRefusedAs command old new)) (sym work) tt
refused_printed old new command (Err refusal) result is work refused = subst (λ (r : Result Work Refusal). IfErr r (IsRefusedAs command old new)) (sym refused) is

-- what arguments that say a command result in
pub said_works : (words : List (List ℕ)) (old new : FolderSeen) (before after : LinkSeen) (command : Command) (result : Result Work Refusal) → SaysCommand words command
    → IfOk result (ResultsIn command old new before after) → IfOk result (IsRightWork words old new before after)
said_works words old new before after command (Ok (works.Print block)) says is = record { command = command; says = says; prints = is }
said_works words old new before after (commands.Check check) (Ok (works.Serve server)) says is = absurd is
said_works words old new before after (commands.Ask ask) (Ok (works.Serve server)) says is = absurd is
said_works words old new before after (commands.Replay replay) (Ok (works.Serve server)) says is = absurd is
said_works words old new before after (commands.Serve serve) (Ok (works.Serve server)) says is = record { serve = serve; says = says; is = is }
said_works words old new before after (commands.Plan plan) (Ok (works.Serve server)) says is = absurd is
said_works words old new before after (commands.Drill drill) (Ok (works.Serve server)) says is = absurd is
said_works words old new before after (commands.Fewest fewest) (Ok (works.Serve server)) says is = absurd is
said_works words old new before after (commands.Arrive arrive) (Ok (works.Serve server)) says is = absurd is
said_works words old new before after (commands.Relay relay) (Ok (works.Serve server)) says is = absurd is
said_works words old new before after command (Err refusal) says is = tt

pub said_refusals : (words : List (List ℕ)) (old new : FolderSeen) (command : Command) (result : Result Work Refusal) → SaysCommand words command
    → IfErr result (IsRefusedAs command old new) → IfErr result (IsRightRefusal words old new)
said_refusals words old new command (Ok work) says is = tt
said_refusals words old new command (Err refusal) says is = inr (inr (record { command = command; says = says; refused = is }))

-- a command that does nothing with the link leaves it so
pub leaves_alone : (command : Command) (link : LinkSeen) → LeavesLink command link link
leaves_alone (commands.Check check) link = no_passes link
leaves_alone (commands.Ask ask) link = no_passes link
leaves_alone (commands.Replay replay) link = no_passes link
leaves_alone (commands.Serve serve) link = no_passes link
leaves_alone (commands.Plan plan) link = no_gets link
leaves_alone (commands.Drill drill) link = no_passes link
leaves_alone (commands.Fewest fewest) link = no_passes link
leaves_alone (commands.Arrive arrive) link = no_passes link
leaves_alone (commands.Relay relay) link = no_gets link

-- the link has gone on, whatever the command
pub has_gone_on : (command : Command) (before after : LinkSeen) → LeavesLink command before after → HasGoneOn before after
has_gone_on (commands.Check check) before after left = left.gone_on
has_gone_on (commands.Ask ask) before after left = left.gone_on
has_gone_on (commands.Replay replay) before after left = left.gone_on
has_gone_on (commands.Serve serve) before after left = left.gone_on
has_gone_on (commands.Plan plan) before after left = left.gone_on
has_gone_on (commands.Drill drill) before after left = left.gone_on
has_gone_on (commands.Fewest fewest) before after left = left.gone_on
has_gone_on (commands.Arrive arrive) before after left = left.gone_on
has_gone_on (commands.Relay relay) before after left = left.gone_on
