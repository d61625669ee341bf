-- From what is read and played to the block of a replay, and to that of a drill.
use Rattle.std.proofs.Common.{◌≡◌, ◌∙◌, ◌++◌, ℕ, List, Result, Ok, Err, ap, sym, subst}
use Rattle.std.specs.Prelude.{IfOk}
use Rattle.cli_replay.specs.Summary.{leaves_in, summary_of}
use Rattle.cli_replay.specs.declared.playing.Replayed.{Replayed}
use Rattle.cli_replay.specs.Inputs.Script.{IsReplayRefused}
use Rattle.cli_replay.specs.declared.inputs.refusal.Refusal.{Refusal}
use Rattle.cli_words.specs.declared.command.Drill.{Drill}
use Rattle.cli_words.specs.declared.command.Publishing.{Publishing}
use Rattle.cli_words.specs.declared.command.Replay.{Replay}
use Rattle.cli_replay.specs.ReplayLaws.Events.{messages_in}
use Rattle.cli_replay.specs.ReplayLaws.Replayed.{IsReplayed}
use Rattle.cli_replay.specs.ReplayLaws.Versions.{HaveAdmitted}
use Rattle.lc_io.specs.Folder.{FolderSeen}
use Rattle.lc_io.specs.SureFolder.{SureFolderState}
use Rattle.lc_world.specs.Link.{LinkSeen}
use Rattle.lc_cli.specs.Drill.{IsDrillBlock, IsDrilled, IsRefusedReplay, IsSummary, IsSummed, drill_folder, drill_line_of, sure_seen}
use Rattle.lc_cli.specs.Replay.{IsCourse, IsPlayedBy, IsReplayBlock}
use Rattle.lc_cli.specs.Scope.{scope_of}
use Rattle.lc_cli.specs.declared.block.Block.{Block}
use Rattle.lc_cli.specs.declared.course.Course.{Course}
use Rattle.lc_cli.specs.declared.drill.Opening.{Opening}

-- an event sequence that was read and played
pub played_by : (replay : Replay) (old new : FolderSeen) (before after : LinkSeen) (course : Course) (text : List ℕ) (ends : _) → IsCourse replay old new course
    → IsReplayed course.made course.publishing course.events.items course.cache before after text ends → IsPlayedBy replay old new before after text ends
played_by replay old new before after course text ends is played = record {
  made = course.made;
  all = course.events.items;
  inputs = is.read;
  replayed =
      subst (λ (cache : ℕ). IsReplayed course.made replay.publishing course.events.items cache before after text ends) is.cache_is
      (subst (λ (publishing : Publishing). IsReplayed course.made publishing course.events.items course.cache before after text ends) is.publishing_is played);
}

-- the block of it
pub replay_block_of : (replay : Replay) (old new : FolderSeen) (before after : LinkSeen) (course : Course) (text ends : _) (block : Block) → IsCourse replay old new course
    → block.text ≡ text → block.ends ≡ ends → IsReplayed course.made course.publishing course.events.items course.cache before after text.items ends.items
    → IsReplayBlock replay old new before after block
replay_block_of replay old new before after course text ends block is text_is ends_is played =
    subst (λ t. IsPlayedBy replay old new before after t.items block.ends.items) (sym text_is)
    (subst (λ e. IsPlayedBy replay old new before after text.items e.items) (sym ends_is) (played_by replay old new before after course text.items ends.items is played))

-- the block of a drill
pub drill_block_of : (drill : Drill) (replay : Replay) (folder read : SureFolderState) (before after : LinkSeen) (course : Course) (block : Block) → folder ≡ drill_folder drill → IsDrilled drill replay
    → IsCourse replay (sure_seen folder) (sure_seen read) course → IsSummed drill.seed course before after block → IsDrillBlock drill before after block
unfolding played_by
drill_block_of drill replay folder read before after course block first drilled is summed =
    let from = subst (λ (f : SureFolderState). IsCourse replay (sure_seen f) (sure_seen read) course) first is in
    record {
      replay = replay;
      drilled = drilled;
      read = read;
      text = summed.text;
      played = played_by replay (sure_seen (drill_folder drill)) (sure_seen read) before after course summed.text block.ends.items from summed.replayed;
      summary = subst (λ (publishing : Publishing). IsSummary drill.seed course.made publishing course.events.items block.ends.items block.text.items) is.publishing_is summed.summary;
    }

-- a drill that is refused as its replay
pub refused_replay : (drill : Drill) (replay : Replay) (folder read : SureFolderState) (refusal : Refusal) → folder ≡ drill_folder drill → IsDrilled drill replay
    → IsReplayRefused (scope_of replay.window) replay.script (sure_seen folder) (sure_seen read) refusal → IsRefusedReplay drill refusal
refused_replay drill replay folder read refusal first drilled refused = record {
  replay = replay;
  drilled = drilled;
  read = read;
  refused = subst (λ (f : SureFolderState). IsReplayRefused (scope_of replay.window) replay.script (sure_seen f) (sure_seen read) refusal) first refused;
}

-- the summary of an event sequence that was played
pub summed_of : {E : Type 0} (seed : ℕ) (course : Course) (before after : LinkSeen) (opening : Opening) (replayed : Replayed) (block : Result Block E) → opening.line.items ≡ drill_line_of seed course.made
    → opening.measures.messages ≡ messages_in course.events.items → opening.measures.leaves.items ≡ leaves_in course.events.items
    → IfOk block (λ b. b.text.items ≡ opening.line.items ++ summary_of replayed.admitted opening.measures.messages opening.measures.leaves.items replayed.ends.items)
    → IfOk block (λ b. b.ends ≡ replayed.ends)
    → IsReplayed course.made course.publishing course.events.items course.cache before after replayed.text.items replayed.ends.items
    → HaveAdmitted course.made course.publishing course.events.items replayed.admitted → IfOk block (IsSummed seed course before after)
summed_of seed course before after opening replayed (Err fault) line messages leaves text ends played admitted = tt
summed_of seed course before after opening replayed (Ok block) line messages leaves text ends played admitted = record {
  text = replayed.text.items;
  replayed = subst (λ e. IsReplayed course.made course.publishing course.events.items course.cache before after replayed.text.items e.items) (sym ends) played;
  summary = record {
    admitted = replayed.admitted;
    have_admitted = admitted;
    is =
        text ∙ ap (λ (l : List ℕ). l ++ summary_of replayed.admitted opening.measures.messages opening.measures.leaves.items replayed.ends.items) line
        ∙ ap (λ (n : ℕ). drill_line_of seed course.made ++ summary_of replayed.admitted n opening.measures.leaves.items replayed.ends.items) messages
        ∙ ap (λ (l : List ℕ). drill_line_of seed course.made ++ summary_of replayed.admitted (messages_in course.events.items) l replayed.ends.items) leaves
        ∙ ap (λ e. drill_line_of seed course.made ++ summary_of replayed.admitted (messages_in course.events.items) (leaves_in course.events.items) e.items) (sym ends);
  };
}
