-- Where `fewest` ended with status Done, it wrote a best journey of the fewest rides, or that there is none.
use Rattle.std.proofs.Common.{◌≡◌, ◌⊎◌, inl, inr, List, None, Some, ap, subst}
use Rattle.std.specs.List.{slice_get}
use Rattle.cli_ask.specs.Publishing.{side_with}
use Rattle.cli_ask.specs.declared.end.ClientEnd.{ClientEnd}
use Rattle.cli_ask.specs.FewestRides.Client.{HasFewestRides}
use Rattle.cli_serve.specs.Written.{Wrote}
use Rattle.cli_words.specs.Laws.{OneCommand}
use Rattle.cli_words.specs.Words.{SaysCommand}
use Rattle.cli_words.specs.declared.command.Command.{Command}
use Rattle.cli_words.specs.declared.command.Command.TheVariants as commands
use Rattle.cli_words.specs.declared.command.Fewest.{Fewest}
use Rattle.convoy.specs.ClientLaws.Answered.{AnswersAt}
use Rattle.lc_io.specs.declared.file.File.{File}
use Rattle.lc_model.specs.declared.answer.Answer.{Answer}
use Rattle.lc_model.specs.declared.answer.Answer.TheVariants as answers
use Rattle.lc_model.specs.declared.query.Query.{Query}
use Rattle.lc_world.specs.Link.{LinkSeen}
use Rattle.page_client.specs.declared.outcome.Outcome.{Outcome}
use Rattle.lc_world.specs.Sides.Short.{IsShort}
use Rattle.lc_world.specs.Sides.Side.{Side}
use Rattle.timetable.specs.Laws.{LoadsRecorded}
use Rattle.lc_cli.specs.Block.{IsBlockEnd}
use Rattle.lc_cli.specs.Clear.{IsAskedSide}
use Rattle.lc_cli.specs.Command.{IsFewestBlock, Prints}
use Rattle.lc_cli.specs.Headline.{EndsBest, outcome_of, version_meant}
use Rattle.lc_cli.specs.HeadlineOfFewest.{EndsFewest, HeadlineOfFewest, WroteFewest}
use Rattle.lc_cli.specs.Top.{HasPrinted, HasServed, Past}
use Rattle.lc_cli.specs.declared.block.Block.{Block}
use Rattle.lc_cli.specs.declared.status.Status.TheVariants.{Done}
use Rattle.lc_cli.proofs.HeadlineLemmas.{answer_at, ends_best, exchanges, has, is_whole, needed}
use Rattle.lc_cli.proofs.OneStatusLemmas.{done_is_printed}
use Rattle.lc_cli.specs.declared.question.Asking.TheVariants as askings
use Rattle.lc_cli.proofs.TopLemmas.{side_asked}

-- a client that ended best, with a journey of the fewest rides
ends_fewest : (side : Side) (query : Query) (end : ClientEnd) → EndsBest side query end → HasFewestRides side query end.outcome → EndsFewest side query end
ends_fewest side query end best rides =
    by best.answer best.is_best best.outcome_is where
      by : (answer : Answer) → AnswersAt side (version_meant side query) query answer → end.outcome ≡ outcome_of answer → EndsFewest side query end
      by (answers.Journey journey) is outcome =
          record { version_is = best.version_is; answer = Some journey; is_fewest = subst (λ (o : Outcome). HasFewestRides side query o) outcome rides; outcome_is = outcome }
      by answers.NoJourney is outcome =
          record { version_is = best.version_is; answer = None; is_fewest = record { live = is.live; are_live = is.are_live; is_fewest = is.is_answer }; outcome_is = outcome }

module _ (loads_recorded : LoadsRecorded) {X : Type 0} (seen : X → LinkSeen) (p : Past X) (fewest : Fewest) (files : List File) (tells : p.folder_before.files ≡ Some files) (clear : (seen p.link_before).clear)
    (short : (side : Side) → IsAskedSide files fewest.published side → IsShort side) where
  -- what was written is the block of such a journey
  wrote_fewest : (block : Block) → IsFewestBlock fewest p.folder_before p.folder_after (seen p.link_before) (seen p.link_after) block → IsBlockEnd block p.sink_before p.sink_after Done → WroteFewest p fewest files
  wrote_fewest block x end =
      let side = side_with x.made fewest.published.publishing x.asked.asked.store in
      let asked : IsAskedSide files fewest.published side =
      side_asked loads_recorded files fewest.published (askings.Fewest fewest.query) p.folder_before p.folder_after (seen p.link_before) (seen p.link_after) block x tells in
      let is_short = short side asked in
      let right = x.asked.asked.right clear is_short in
      let whole = is_whole block p.sink_before p.sink_after end in
      let found = answer_at 1 block.ends.items 0 x.end whole.status_is (ap (λ (l : List ClientEnd). slice_get l 0) x.client) in
      let best = ends_best side fewest.published.publishing.base fewest.query (seen p.link_before).recorded (seen p.link_after).recorded x.end right found in
      record {
        side = side;
        asked = asked;
        end = x.end;
        best = ends_fewest side fewest.query x.end best (x.asked.fewest clear is_short);
        pages = (has side fewest.published.publishing.base fewest.query (seen p.link_before).recorded (seen p.link_after).recorded x.end right found).names;
        are_needed = needed side fewest.published.publishing.base fewest.query (seen p.link_before).recorded (seen p.link_after).recorded x.end right found;
        exchanges = exchanges side fewest.published.publishing.base fewest.query (seen p.link_before).recorded (seen p.link_after).recorded x.end right found;
        wrote = subst (Wrote p.sink_before p.sink_after) x.asked.asked.text_is whole.wrote;
      }

  by_printed : OneCommand → SaysCommand p.words (commands.Fewest fewest) → HasPrinted seen p Done → WroteFewest p fewest files
  by_printed one_command says x =
      wrote_fewest x.block
      (subst (λ (c : Command). Prints c p.folder_before p.folder_after (seen p.link_before) (seen p.link_after) x.block)
      (one_command p.words x.right.command (commands.Fewest fewest) x.right.says says) x.right.prints) x.end

pub headline_of_fewest : {X : Type 0} (seen : X → LinkSeen) → OneCommand → LoadsRecorded → HeadlineOfFewest seen
headline_of_fewest seen one_command loads_recorded p fewest files says tells clear short right =
    by (done_is_printed seen p right) where
      by : HasPrinted seen p Done ⊎ HasServed p Done → WroteFewest p fewest files
      by (inl x) = by_printed loads_recorded seen p fewest files tells clear short one_command says x
      by (inr x) =
          let other : commands.Serve x.right.serve ≡ commands.Fewest fewest = one_command p.words (commands.Serve x.right.serve) (commands.Fewest fewest) x.right.says says in absurd (cc)
