-- Where `arrive` ended with status Done, it wrote a journey of the latest departure, or that there is none.
use Rattle.std.proofs.Common.{◌≡◌, ◌∙◌, ◌⊎◌, ◌+◌, ◌≤◌, ℕ, inl, inr, List, None, Some, Option, ap, arith, length, map, subst}
use Rattle.std.proofs.lemmas.List.{length-map}
use Rattle.std.specs.List.{slice_get}
use Rattle.std.specs.Option.{IfSome}
use Rattle.back_scan.specs.Forward.{forward_query}
use Rattle.back_scan.specs.declared.arrive_query.ArriveQuery.{ArriveQuery}
use Rattle.cli_ask.specs.LatestDeparture.Client.{EndsRightLatest}
use Rattle.cli_ask.specs.Publishing.{side_with}
use Rattle.cli_ask.specs.declared.end.ClientEnd.{ClientEnd}
use Rattle.cli_serve.specs.Written.{Wrote}
use Rattle.cli_words.specs.Laws.{OneCommand}
use Rattle.cli_words.specs.Words.{SaysCommand}
use Rattle.cli_words.specs.declared.command.Arrive.{Arrive}
use Rattle.cli_words.specs.declared.command.Command.{Command}
use Rattle.cli_words.specs.declared.command.Command.TheVariants as commands
use Rattle.connection_uri.specs.Base.{BaseParts}
use Rattle.back_client.specs.Ends.Latest.{LatestAt, NeededBackAt}
use Rattle.back_client.specs.Ends.Requests.{page_request, requests_of}
use Rattle.back_client.specs.Ends.Right.{EndsAt, HasLatest}
use Rattle.back_client.specs.Ends.Ends.{EndsBackBy}
use Rattle.convoy.specs.Replies.Made.{Made}
use Rattle.convoy.specs.ClientLaws.Stated.{version_at}
use Rattle.lc_io.specs.declared.file.File.{File}
use Rattle.lc_model.specs.Journey.{arrives_at}
use Rattle.lc_model.specs.declared.answer.Answer.{Answer}
use Rattle.lc_model.specs.declared.answer.Answer.TheVariants as answers
use Rattle.lc_model.specs.declared.journey.Journey.{Journey}
use Rattle.lc_model.specs.declared.page.PageName.{PageName}
use Rattle.lc_world.specs.Link.{LinkSeen}
use Rattle.lc_world.specs.declared.entry.Entry.{Entry}
use Rattle.page_client.specs.Shown.{answered}
use Rattle.page_client.specs.declared.outcome.Outcome.{Outcome}
use Rattle.lc_world.specs.Sides.Short.{IsShort}
use Rattle.lc_world.specs.Sides.Side.{Side}
use Rattle.timetable.specs.Laws.{LoadsRecorded}
use Rattle.lc_cli.specs.Block.{IsBlockEnd}
use Rattle.lc_cli.specs.Clear.{IsAskedSide}
use Rattle.lc_cli.specs.Command.{IsArriveBlock, Prints}
use Rattle.lc_cli.specs.Headline.{outcome_of}
use Rattle.lc_cli.specs.HeadlineOfArrive.{EndsLatest, HeadlineOfArrive, WroteLatest}
use Rattle.lc_cli.specs.Top.{HasPrinted, HasServed, Past}
use Rattle.lc_cli.specs.declared.block.Block.{Block}
use Rattle.lc_cli.specs.declared.status.Status.TheVariants.{Done}
use Rattle.lc_cli.proofs.HeadlineLemmas.{HasAnswer, answer_at, is_whole}
use Rattle.lc_cli.proofs.OneStatusLemmas.{done_is_printed}
use Rattle.lc_cli.specs.declared.question.Asking.TheVariants as askings
use Rattle.lc_cli.proofs.TopLemmas.{side_asked}

-- the time gate, the stops document and the pages
count_requests : (base : BaseParts) (asked : ArriveQuery) (names : List PageName) → length (requests_of base asked names) ≡ 2 + length names
count_requests base asked names =
    let pages : length (map (page_request base) names) ≡ length names = length-map names (page_request base) in
    omega (arith, pages)

-- a question that was answered so ended with a latest departure
of_latest : (base : BaseParts) (side : Side) (asked : ArriveQuery) (end : ClientEnd) (requests : List (List ℕ)) (answer : Option Journey) → end.exchanges ≡ length requests
    → IfSome end.version (λ (version : ℕ). version ≡ version_at side asked.known) → end.outcome ≡ answered answer → IfSome answer (λ (j : Journey). arrives_at j ≤ asked.arrive)
    → HasLatest base side asked end.version requests answer → EndsLatest side asked end
of_latest base side asked end requests answer counted meant outcome in_time has =
    let number : has.number ≡ version_at side asked.known =
    subst (λ (v : Option ℕ). IfSome v (λ (version : ℕ). version ≡ version_at side asked.known)) has.at_version meant in
    record {
      version_is = has.at_version ∙ ap (λ (v : ℕ). Some v) number;
      answer = answer;
      is_latest = subst (λ (v : ℕ). LatestAt side v (forward_query asked) answer) number has.is_latest;
      in_time = in_time;
      outcome_is = outcome;
      pages = has.names;
      are_needed = subst (λ (v : ℕ). NeededBackAt side v (forward_query asked) has.names) number has.are_needed;
      exchanges = counted ∙ ap (λ (l : List (List ℕ)). length l) has.requests_are ∙ count_requests base asked has.names;
    }

-- a question that ended rightly, with an answer, ended with a latest departure
ends_latest : (base : BaseParts) (side : Side) (asked : ArriveQuery) (recorded now_recorded : Option (List Entry)) (faults now_faults : ℕ) (end : ClientEnd) (made : List Made)
    → EndsRightLatest side base asked recorded now_recorded faults now_faults end → EndsBackBy base asked faults now_faults end.version made end.outcome → HasAnswer end.outcome
    → EndsLatest side asked end
ends_latest base side asked recorded now_recorded faults now_faults end made right by_replies found =
    by found.answer found.is where
      by : (answer : Answer) → end.outcome ≡ outcome_of answer → EndsLatest side asked end
      by (answers.Journey journey) is =
          of_latest base side asked end right.requests (Some journey) right.exchanges right.version_is is
          (subst (λ (o : Outcome). EndsBackBy base asked faults now_faults end.version made o) is by_replies).in_time
          (subst (λ (o : Outcome). EndsAt base side asked end.version right.requests faults now_faults o) is right.ends)
      by answers.NoJourney is =
          of_latest base side asked end right.requests None right.exchanges right.version_is is tt
          (subst (λ (o : Outcome). EndsAt base side asked end.version right.requests faults now_faults o) is right.ends)

module _ (loads_recorded : LoadsRecorded) {X : Type 0} (seen : X → LinkSeen) (p : Past X) (arrive : Arrive) (files : List File) (tells : p.folder_before.files ≡ Some files) (clear : (seen p.link_before).clear)
    (short : (side : Side) → IsAskedSide files arrive.published side → IsShort side) where
  -- what was written is the block of such a question
  wrote_latest : (block : Block) → IsArriveBlock arrive p.folder_before p.folder_after (seen p.link_before) (seen p.link_after) block → IsBlockEnd block p.sink_before p.sink_after Done → WroteLatest p arrive files
  wrote_latest block x end =
      let side = side_with x.made arrive.published.publishing x.asked.store in
      let asked : IsAskedSide files arrive.published side =
      side_asked loads_recorded files arrive.published (askings.Latest arrive.query) p.folder_before p.folder_after (seen p.link_before) (seen p.link_after) block x tells in
      let right = x.asked.right clear (short side asked) in
      let whole = is_whole block p.sink_before p.sink_after end in
      let found = answer_at 1 block.ends.items 0 x.end whole.status_is (ap (λ (l : List ClientEnd). slice_get l 0) x.client) in
      record {
        side = side;
        asked = asked;
        end = x.end;
        latest = ends_latest arrive.published.publishing.base side arrive.query (seen p.link_before).recorded (seen p.link_after).recorded (seen p.link_before).faults (seen p.link_after).faults x.end
            x.asked.asks.made right x.asked.asks.ends found;
        wrote = subst (Wrote p.sink_before p.sink_after) x.asked.text_is whole.wrote;
      }

  by_printed : OneCommand → SaysCommand p.words (commands.Arrive arrive) → HasPrinted seen p Done → WroteLatest p arrive files
  by_printed one_command says x =
      wrote_latest x.block
      (subst (λ (c : Command). Prints c p.folder_before p.folder_after (seen p.link_before) (seen p.link_after) x.block)
      (one_command p.words x.right.command (commands.Arrive arrive) x.right.says says) x.right.prints) x.end

pub headline_of_arrive : {X : Type 0} (seen : X → LinkSeen) → OneCommand → LoadsRecorded → HeadlineOfArrive seen
headline_of_arrive seen one_command loads_recorded p arrive files says tells clear short right =
    by (done_is_printed seen p right) where
      by : HasPrinted seen p Done ⊎ HasServed p Done → WroteLatest p arrive files
      by (inl x) = by_printed loads_recorded seen p arrive files tells clear short one_command says x
      by (inr x) =
          let other : commands.Serve x.right.serve ≡ commands.Arrive arrive = one_command p.words (commands.Serve x.right.serve) (commands.Arrive arrive) x.right.says says in absurd (cc)
