-- Where `ask` ended with status Done, it wrote a best journey, or that there is none.
use Rattle.std.proofs.Common.{◌≡◌, ◌∙◌, ◌⊎◌, ◌+◌, ◌∷◌, ℕ, zero, suc, inl, inr, List, [], Some, Option, ap, arith, length, map, refl, subst, sym}
use Rattle.std.proofs.lemmas.List.{length-map}
use Rattle.std.proofs.lemmas.List.Elements.{All-cons, All-nil}
use Rattle.std.specs.List.{All, slice_get}
use Rattle.std.specs.Option.{unwrap_or}
use Rattle.cli_ask.specs.Client.{AsksFor, EndsRight, shown_of}
use Rattle.cli_ask.specs.Laws.{IsNoLinkFault}
use Rattle.cli_ask.specs.Publishing.{side_with}
use Rattle.cli_ask.specs.declared.end.ClientEnd.{ClientEnd}
use Rattle.cli_words.specs.Laws.{OneCommand}
use Rattle.cli_words.specs.Words.{SaysCommand}
use Rattle.cli_words.specs.declared.command.Ask.{Ask}
use Rattle.cli_words.specs.declared.command.Command.{Command}
use Rattle.cli_words.specs.declared.command.Command.TheVariants as commands
use Rattle.convoy.specs.ClientLaws.Answered.{AnswersAt, NeededAt}
use Rattle.convoy.specs.ClientLaws.Fits.{HasAnswered, HasEnded}
use Rattle.convoy.specs.ClientLaws.Wants.{wants_of}
use Rattle.lc_io.specs.Sink.{SinkSeen}
use Rattle.lc_io.specs.declared.file.File.{File}
use Rattle.lc_model.specs.declared.answer.Answer.{Answer}
use Rattle.lc_model.specs.declared.answer.Answer.TheVariants as answers
use Rattle.lc_model.specs.declared.page.PageName.{PageName}
use Rattle.lc_model.specs.declared.query.Query.{Query}
use Rattle.lc_world.specs.Link.{LinkSeen}
use Rattle.lc_world.specs.declared.entry.Entry.{Entry}
use Rattle.page_client.specs.Shown.{Shown}
use Rattle.page_client.specs.declared.outcome.Outcome.{Outcome}
use Rattle.page_client.specs.declared.outcome.Outcome.TheVariants as outcomes
use Rattle.page_client.specs.declared.want.Want.{Want}
use Rattle.page_client.specs.declared.want.Want.TheVariants as wants
use Rattle.lc_world.specs.Sides.Side.{Side}
use Rattle.timetable.specs.Laws.{LoadsRecorded}
use Rattle.lc_cli.specs.Block.{IsBlockEnd, IsWrittenWhole, client_status_of, failed_status_of}
use Rattle.lc_cli.specs.Clear.{IsAskedSide}
use Rattle.lc_cli.specs.Command.{IsAskBlock, Prints}
use Rattle.lc_cli.specs.Headline.{EndsBest, Headline, StaysShort, WroteBest, outcome_of, version_meant}
use Rattle.lc_cli.specs.Top.{HasPrinted, HasServed, Past}
use Rattle.cli_serve.specs.Written.{Wrote}
use Rattle.lc_cli.specs.declared.block.Block.{Block}
use Rattle.lc_cli.specs.declared.status.Status.{Status}
use Rattle.lc_cli.specs.declared.status.Status.TheVariants.{Done, NoMemory, SinkFault}
use Rattle.lc_cli.proofs.OneStatusLemmas.{done_is_printed}
use Rattle.lc_cli.specs.declared.question.Asking.TheVariants as askings
use Rattle.lc_cli.proofs.TopLemmas.{side_asked}

-- the outcome is that of an answer
pub record HasAnswer (outcome : Outcome) : Type 0 where
  pub answer : Answer
  pub is : outcome ≡ outcome_of answer

-- a client that leaves the status at Done has an answer, and leaves it to those after it
answer_of_done : (k : ℕ) (outcome : Outcome) (rest : Status) → Done ≡ unwrap_or (failed_status_of k outcome) rest → HasAnswer outcome × (Done ≡ rest)
answer_of_done k (outcomes.Found journey) rest done = (record { answer = answers.Journey journey; is = refl }, done)
answer_of_done k outcomes.NoJourney rest done = (record { answer = answers.NoJourney; is = refl }, done)
answer_of_done k (outcomes.Refused fault) rest done = absurd (cc)
answer_of_done k (outcomes.LinkFault before after) rest done = absurd (cc)
answer_of_done k (outcomes.PeerWrong reply fault) rest done = absurd (cc)

-- where the status is Done, each client has an answer
pub answer_at : (k : ℕ) (ends : List ClientEnd) (place : ℕ) (end : ClientEnd) → Done ≡ client_status_of k ends → slice_get ends place ≡ Some end → HasAnswer end.outcome
answer_at k [] place end done is = absurd (cc)
answer_at k (first ∷ ends) zero end done is =
    let same : first ≡ end = cc in
    subst (λ (e : ClientEnd). HasAnswer e.outcome) same (answer_of_done k first.outcome (client_status_of (k + 1) ends) done).0
answer_at k (first ∷ ends) (suc place) end done is =
    answer_at (k + 1) ends place end (answer_of_done k first.outcome (client_status_of (k + 1) ends) done).1 is

-- an answer is no fault of the link
no_link_fault : (outcome : Outcome) → HasAnswer outcome → IsNoLinkFault outcome
no_link_fault outcome found = subst IsNoLinkFault (sym found.is) (by found.answer) where
  by : (answer : Answer) → IsNoLinkFault (outcome_of answer)
  by (answers.Journey journey) = tt
  by answers.NoJourney = tt

pub no_link_faults : (k : ℕ) (ends : List ClientEnd) → Done ≡ client_status_of k ends → All (λ (end : ClientEnd). IsNoLinkFault end.outcome) ends
no_link_faults k [] done = All-nil (λ (end : ClientEnd). IsNoLinkFault end.outcome)
no_link_faults k (end ∷ ends) done =
    let both = answer_of_done k end.outcome (client_status_of (k + 1) ends) done in
    All-cons (λ (e : ClientEnd). IsNoLinkFault e.outcome) end ends (no_link_fault end.outcome both.0) (no_link_faults (k + 1) ends both.1)

-- where the status is Done, the block was written whole
pub is_whole : (block : Block) (before after : SinkSeen) → IsBlockEnd block before after Done → IsWrittenWhole block before after Done
is_whole block before after (inl whole) = whole
is_whole block before after (inr (inl cut)) = absurd (let e : Done ≡ SinkFault before.faults after.faults = cut.status_is in cc)
is_whole block before after (inr (inr cut)) = absurd (let e : Done ≡ NoMemory = cut.status_is in cc)

-- a client with an answer ended with it
pub has_answered : (side : Side) (s : Shown) (given : List Want) (outcome : Outcome) (found : HasAnswer outcome) → HasEnded side s given (Some outcome) → HasAnswered side s given found.answer
has_answered side s given outcome found ended = by found.answer (subst (λ (o : Outcome). HasEnded side s given (Some o)) found.is ended) where
  by : (answer : Answer) → HasEnded side s given (Some (outcome_of answer)) → HasAnswered side s given answer
  by (answers.Journey journey) is = is
  by answers.NoJourney is = is

-- the client asked for exactly what it received
all_asked : (side : Side) (query : Query) (given asked : List Want) (outcome : Outcome) → HasAnswer outcome → AsksFor side query given asked outcome → asked ≡ given
all_asked side query given asked outcome found asks = by found.answer (subst (AsksFor side query given asked) found.is asks) where
  by : (answer : Answer) → AsksFor side query given asked (outcome_of answer) → asked ≡ given
  by (answers.Journey journey) is = is
  by answers.NoJourney is = is

-- the time gate, the stops document and the pages
count_wants : (names : List PageName) → length (wants_of names) ≡ 2 + length names
count_wants names = let pages : length (map wants.Page names) ≡ length names = length-map names wants.Page in omega (arith, pages)

-- its answer is one at the version that its question means
pub own_version : (side : Side) (query : Query) (end : ClientEnd) (given : List Want) (answer : Answer) (version : ℕ) (x : HasAnswered side (shown_of query end) given answer) → end.version ≡ Some version
    → x.version ≡ version
own_version side query end given answer version x at =
    let same : Some x.version ≡ Some version = sym x.at_version ∙ at in
    cc

-- a client that ended rightly with an answer ended best
module _ (side : Side) (base : _) (query : Query) (recorded now_recorded : Option (List Entry)) (end : ClientEnd) (right : EndsRight side base query recorded now_recorded end) (found : HasAnswer end.outcome) where
  pub has : HasAnswered side (shown_of query end) right.given found.answer
  has = has_answered side (shown_of query end) right.given end.outcome found right.ended

  version_is : end.version ≡ Some (version_meant side query)
  version_is = let version = rw has.given at right.version_is in version

  own : has.version ≡ version_meant side query
  own = own_version side query end right.given found.answer (version_meant side query) has version_is

  pub ends_best : EndsBest side query end
  ends_best = record {
    version_is = version_is;
    answer = found.answer;
    is_best = subst (λ (v : ℕ). AnswersAt side v query found.answer) own has.answers;
    outcome_is = found.is;
  }

  pub needed : NeededAt side (version_meant side query) query has.names
  needed = subst (λ (v : ℕ). NeededAt side v query has.names) own has.are_needed

  pub exchanges : end.exchanges ≡ 2 + length has.names
  exchanges =
      right.exchanges ∙ ap (λ (l : List Want). length l) (all_asked side query right.given right.asked end.outcome found right.asks ∙ has.given)
      ∙ count_wants has.names

module _ (loads_recorded : LoadsRecorded) {X : Type 0} (seen : X → LinkSeen) (p : Past X) (ask : Ask) (files : List File) (tells : p.folder_before.files ≡ Some files) (clear : (seen p.link_before).clear) (short : StaysShort files ask) where
  -- what was written is the block of a best journey
  wrote_best : (block : Block) → IsAskBlock ask p.folder_before p.folder_after (seen p.link_before) (seen p.link_after) block → IsBlockEnd block p.sink_before p.sink_after Done → WroteBest p ask files
  wrote_best block x end =
      let side = side_with x.made ask.published.publishing x.asked.store in
      let asked : IsAskedSide files ask.published side =
      side_asked loads_recorded files ask.published (askings.Earliest ask.query ask.cache) p.folder_before p.folder_after (seen p.link_before) (seen p.link_after) block x tells in
      let right = x.asked.right clear (short side asked) in
      let whole = is_whole block p.sink_before p.sink_after end in
      let found = answer_at 1 block.ends.items 0 x.end whole.status_is (ap (λ (l : List ClientEnd). slice_get l 0) x.client) in
      record {
        side = side;
        asked = asked;
        end = x.end;
        best = ends_best side ask.published.publishing.base ask.query (seen p.link_before).recorded (seen p.link_after).recorded x.end right found;
        pages = (has side ask.published.publishing.base ask.query (seen p.link_before).recorded (seen p.link_after).recorded x.end right found).names;
        are_needed = needed side ask.published.publishing.base ask.query (seen p.link_before).recorded (seen p.link_after).recorded x.end right found;
        exchanges = exchanges side ask.published.publishing.base ask.query (seen p.link_before).recorded (seen p.link_after).recorded x.end right found;
        wrote = subst (Wrote p.sink_before p.sink_after) x.asked.text_is whole.wrote;
      }

  pub by_printed : OneCommand → SaysCommand p.words (commands.Ask ask) → HasPrinted seen p Done → WroteBest p ask files
  by_printed one_command says x =
      wrote_best x.block
      (subst (λ (c : Command). Prints c p.folder_before p.folder_after (seen p.link_before) (seen p.link_after) x.block)
      (one_command p.words x.right.command (commands.Ask ask) x.right.says says) x.right.prints) x.end

pub headline : {X : Type 0} (seen : X → LinkSeen) → OneCommand → LoadsRecorded → Headline seen
headline seen one_command loads_recorded p ask files says tells clear short right =
    by (done_is_printed seen p right) where
      by : HasPrinted seen p Done ⊎ HasServed p Done → WroteBest p ask files
      by (inl x) = by_printed loads_recorded seen p ask files tells clear short one_command says x
      by (inr x) = let other : commands.Serve x.right.serve ≡ commands.Ask ask = one_command p.words (commands.Serve x.right.serve) (commands.Ask ask) x.right.says says in absurd (cc)
