-- Where `replay` ended with status Done, it wrote a best journey for each client, or that there is none.
use Rattle.std.proofs.Common.{◌≡◌, ◌⊎◌, ◌+◌, ℕ, inl, inr, List, Some, subst}
use Rattle.cli_ask.specs.Client.{shown_of}
use Rattle.cli_ask.specs.Publishing.{side_with, store_of}
use Rattle.cli_ask.specs.declared.end.ClientEnd.{ClientEnd}
use Rattle.cli_words.specs.Laws.{OneCommand}
use Rattle.cli_words.specs.Words.{SaysCommand}
use Rattle.cli_words.specs.declared.command.Command.{Command}
use Rattle.cli_words.specs.declared.command.Command.TheVariants as commands
use Rattle.cli_words.specs.declared.command.Publishing.{Publishing}
use Rattle.cli_words.specs.declared.command.Replay.{Replay}
use Rattle.convoy.specs.ClientLaws.Answered.{AnswersAt}
use Rattle.convoy.specs.ClientLaws.Fits.{HasAnswered}
use Rattle.cli_replay.specs.ReplayLaws.Right.{EndsSo}
use Rattle.cli_replay.specs.ReplayLaws.Turns.{given_in}
use Rattle.cli_replay.specs.ReplayLaws.Versions.{HasHeard}
use Rattle.cli_replay.specs.declared.replay_laws.event.Event.{Event}
use Rattle.lc_io.specs.declared.file.File.{File}
use Rattle.lc_model.specs.declared.query.Query.{Query}
use Rattle.lc_world.specs.Link.{LinkSeen}
use Rattle.timetable.specs.Laws.{LoadsRecorded}
use Rattle.timetable.specs.declared.timetable.Timetable.{Timetable}
use Rattle.version_store.specs.Laws.{OneOutcome}
use Rattle.version_store.specs.Store.{Stored}
use Rattle.lc_cli.specs.Block.{IsBlockEnd}
use Rattle.lc_cli.specs.Command.{IsReplayBlock, Prints}
use Rattle.lc_cli.specs.Headline.{EndsBestThen, HeadlineOfReplay, StaysShortThroughout, WroteEachBest, version_meant}
use Rattle.lc_cli.specs.Top.{HasPrinted, HasServed, Past}
use Rattle.cli_serve.specs.Written.{Wrote}
use Rattle.lc_cli.specs.declared.block.Block.{Block}
use Rattle.lc_cli.specs.declared.status.Status.TheVariants.{Done}
use Rattle.lc_cli.proofs.EarlierSideLemmas.{HasMore, Rises, answers_before, more_since, rises_first, rises_heard}
use Rattle.lc_cli.proofs.HeadlineLemmas.{HasAnswer, answer_at, has_answered, is_whole, no_link_faults, own_version}
use Rattle.lc_cli.proofs.OneStatusLemmas.{done_is_printed}
use Rattle.lc_cli.proofs.ReplayLemmas.{course_recorded}

-- a client that ended rightly with an answer ended best by the messages before its first turn
module _ (one_outcome : OneOutcome) (made : Timetable) (publishing : Publishing) (all : List Event) (store : Stored) (lines : List ℕ) (heard : HasHeard all (store_of made publishing.base_moment) store lines)
    (client : ℕ) (query : Query) (rounds : _) (end : ClientEnd) (so : EndsSo made publishing all (side_with made publishing store) client query rounds end) (found : HasAnswer end.outcome) where
  has : HasAnswered (side_with made publishing store) (shown_of query end) (given_in rounds) found.answer
  has = has_answered (side_with made publishing store) (shown_of query end) (given_in rounds) end.outcome found so.ended

  version_is : end.version ≡ Some (version_meant (side_with made publishing so.meant.store) query)
  version_is = let version = rw has.given at so.meant.is in version

  own : has.version ≡ version_meant (side_with made publishing so.meant.store) query
  own = own_version (side_with made publishing store) query end (given_in rounds) found.answer (version_meant (side_with made publishing so.meant.store) query) has version_is

  since : HasMore so.meant.store store
  since = more_since one_outcome client all (store_of made publishing.base_moment) so.meant.store store so.meant.lines lines so.meant.heard heard

  rises : Rises store
  rises = rises_heard all (store_of made publishing.base_moment) store lines heard (rises_first publishing.base_moment)

  pub best_then : EndsBestThen made publishing all client query end
  best_then = record {
    store = so.meant.store;
    lines = so.meant.lines;
    heard = so.meant.heard;
    best = record {
      version_is = version_is;
      answer = found.answer;
      is_best =
          answers_before made publishing so.meant.store store since rises query found.answer
          (subst (λ (v : ℕ). AnswersAt (side_with made publishing store) v query found.answer) own has.answers);
      outcome_is = found.is;
    };
  }

module _ (loads_recorded : LoadsRecorded) (one_outcome : OneOutcome) {X : Type 0} (seen : X → LinkSeen) (p : Past X) (replay : Replay) (files : List File) (tells : p.folder_before.files ≡ Some files)
    (clear : (seen p.link_before).clear) (short : StaysShortThroughout files replay) where
  -- what was written are the blocks of best journeys
  wrote_each_best : (block : Block) → IsReplayBlock replay p.folder_before p.folder_after (seen p.link_before) (seen p.link_after) block → IsBlockEnd block p.sink_before p.sink_after Done
      → WroteEachBest p replay files
  wrote_each_best block x end =
      let course = course_recorded loads_recorded files replay p.folder_before p.folder_after x.made x.all tells x.inputs in
      let right = x.replayed.right clear (short x.made x.all course) in
      let whole = is_whole block p.sink_before p.sink_after end in
      record {
        made = x.made;
        all = x.all;
        recorded = course;
        lines = x.replayed.lines;
        ends = block.ends.items;
        played = record {
          recorded = (seen p.link_before).recorded;
          now_recorded = (seen p.link_after).recorded;
          faults = (seen p.link_before).faults;
          now_faults = (seen p.link_after).faults;
          met = x.replayed.caused.met;
          right = right;
          one_each = x.replayed.one_each;
          no_fault = no_link_faults 1 block.ends.items whole.status_is;
        };
        best = λ place query own asks is.
            best_then one_outcome x.made replay.publishing x.all right.store x.replayed.lines right.heard (place + 1) query _ own (right.clients place query own asks is)
            (answer_at 1 block.ends.items place own whole.status_is is);
        wrote = subst (Wrote p.sink_before p.sink_after) x.replayed.text_is whole.wrote;
      }

  pub by_printed : OneCommand → SaysCommand p.words (commands.Replay replay) → HasPrinted seen p Done → WroteEachBest p replay files
  by_printed one_command says x =
      wrote_each_best x.block
      (subst (λ (c : Command). Prints c p.folder_before p.folder_after (seen p.link_before) (seen p.link_after) x.block)
      (one_command p.words x.right.command (commands.Replay replay) x.right.says says) x.right.prints) x.end

pub headline_of_replay : {X : Type 0} (seen : X → LinkSeen) → OneCommand → LoadsRecorded → OneOutcome → HeadlineOfReplay seen
headline_of_replay seen one_command loads_recorded one_outcome p replay files says tells clear short right =
    by (done_is_printed seen p right) where
      by : HasPrinted seen p Done ⊎ HasServed p Done → WroteEachBest p replay files
      by (inl x) = by_printed loads_recorded one_outcome seen p replay files tells clear short one_command says x
      by (inr x) = let other : commands.Serve x.right.serve ≡ commands.Replay replay = one_command p.words (commands.Serve x.right.serve) (commands.Replay replay) x.right.says says in absurd (cc)
