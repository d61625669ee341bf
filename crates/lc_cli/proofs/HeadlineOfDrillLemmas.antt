-- Where `drill` ended with status Done, its sums are over best journeys.
use Rattle.std.proofs.Common.{◌≡◌, ◌⊎◌, ◌+◌, inl, inr, refl, subst}
use Rattle.cli_drill.specs.Files.{drill_files}
use Rattle.cli_words.specs.Laws.{OneCommand}
use Rattle.cli_words.specs.Words.{SaysCommand}
use Rattle.cli_words.specs.declared.command.Command.{Command}
use Rattle.cli_words.specs.declared.command.Command.TheVariants as commands
use Rattle.cli_words.specs.declared.command.Drill.{Drill}
use Rattle.cli_words.specs.declared.command.Replay.{Replay}
use Rattle.lc_world.specs.Link.{LinkSeen}
use Rattle.timetable.specs.Laws.{LoadsRecorded}
use Rattle.version_store.specs.Laws.{OneOutcome}
use Rattle.lc_cli.specs.Block.{IsBlockEnd}
use Rattle.lc_cli.specs.Command.{Prints}
use Rattle.lc_cli.specs.Drill.{IsDrillBlock, IsDrilled, drill_folder, sure_seen}
use Rattle.lc_cli.specs.Headline.{StaysShortThroughout}
use Rattle.lc_cli.specs.HeadlineOfDrill.{DrilledEachBest, HeadlineOfDrill}
use Rattle.lc_cli.specs.Top.{HasPrinted, HasServed, Past}
use Rattle.lc_cli.specs.declared.block.Block.{Block}
use Rattle.lc_cli.specs.declared.status.Status.TheVariants.{Done}
use Rattle.lc_cli.proofs.HeadlineLemmas.{answer_at, is_whole, no_link_faults}
use Rattle.lc_cli.proofs.HeadlineOfReplayLemmas.{best_then}
use Rattle.lc_cli.proofs.OneStatusLemmas.{done_is_printed}
use Rattle.lc_cli.proofs.ReplayLemmas.{course_recorded}

module _ (loads_recorded : LoadsRecorded) (one_outcome : OneOutcome) {X : Type 0} (seen : X → LinkSeen) (p : Past X) (drill : Drill) (clear : (seen p.link_before).clear)
    (short : (replay : Replay) → IsDrilled drill replay → StaysShortThroughout (drill_files drill.seed drill.days) replay) where
  drilled_each_best : (block : Block) → IsDrillBlock drill (seen p.link_before) (seen p.link_after) block → IsBlockEnd block p.sink_before p.sink_after Done → DrilledEachBest p drill
  drilled_each_best block x end =
      let y = x.played in
      let course = course_recorded loads_recorded (drill_files drill.seed drill.days) x.replay (sure_seen (drill_folder drill)) (sure_seen x.read) y.made y.all refl y.inputs in
      let right = y.replayed.right clear (short x.replay x.drilled y.made y.all course) in
      let whole = is_whole block p.sink_before p.sink_after end in
      record {
        replay = x.replay;
        drilled = x.drilled;
        made = y.made;
        all = y.all;
        recorded = course;
        lines = y.replayed.lines;
        ends = block.ends.items;
        played = record {
          recorded = (seen p.link_before).recorded;
          now_recorded = (seen p.link_after).recorded;
          faults = (seen p.link_before).faults;
          now_faults = (seen p.link_after).faults;
          met = y.replayed.caused.met;
          right = right;
          one_each = y.replayed.one_each;
          no_fault = no_link_faults 1 block.ends.items whole.status_is;
        };
        best = λ place query own asks is.
            best_then one_outcome y.made x.replay.publishing y.all right.store y.replayed.lines right.heard (place + 1) query _ own (right.clients place query own asks is)
            (answer_at 1 block.ends.items place own whole.status_is is);
        summary = block.text.items;
        is_summary = x.summary;
        wrote = whole.wrote;
      }

  by_printed : OneCommand → SaysCommand p.words (commands.Drill drill) → HasPrinted seen p Done → DrilledEachBest p drill
  by_printed one_command says x =
      let prints = subst (λ (c : Command). Prints c p.folder_before p.folder_after (seen p.link_before) (seen p.link_after) x.block)
      (one_command p.words x.right.command (commands.Drill drill) x.right.says says) x.right.prints in
      drilled_each_best x.block prints.1 x.end

pub headline_of_drill : {X : Type 0} (seen : X → LinkSeen) → OneCommand → LoadsRecorded → OneOutcome → HeadlineOfDrill seen
headline_of_drill seen one_command loads_recorded one_outcome p drill says clear short right =
    by (done_is_printed seen p right) where
      by : HasPrinted seen p Done ⊎ HasServed p Done → DrilledEachBest p drill
      by (inl x) = by_printed loads_recorded one_outcome seen p drill clear short one_command says x
      by (inr x) = let other : commands.Serve x.right.serve ≡ commands.Drill drill = one_command p.words (commands.Serve x.right.serve) (commands.Drill drill) x.right.says says in absurd (cc)
