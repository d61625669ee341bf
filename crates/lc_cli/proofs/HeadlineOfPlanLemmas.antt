-- Where `plan` ended with status Done over an honest link, it wrote a best journey for each client, or that there is none.
use Rattle.std.proofs.Common.{◌≡◌, ◌∙◌, ◌⊎◌, ◌∷◌, ℕ, suc, inl, inr, List, [], None, Some, Option, refl, subst, sym}
use Rattle.cli_ask.specs.Client.{shown_of}
use Rattle.cli_ask.specs.declared.end.ClientEnd.{ClientEnd}
use Rattle.cli_words.specs.Laws.{OneCommand}
use Rattle.cli_words.specs.Words.{SaysCommand}
use Rattle.cli_words.specs.declared.command.Command.{Command}
use Rattle.cli_words.specs.declared.command.Command.TheVariants as commands
use Rattle.cli_words.specs.declared.command.Plan.{Plan}
use Rattle.convoy.specs.ClientLaws.Answered.{AnswersAt}
use Rattle.convoy.specs.ClientLaws.Fits.{HasAnswered}
use Rattle.convoy.specs.Agreement.Names.{Round}
use Rattle.connection_uri.specs.Base.{BaseParts}
use Rattle.cli_replay.specs.PlanLaws.Planned.{ArePlanned, EndsAt, IsPlanned}
use Rattle.cli_replay.specs.PlanLaws.Replied.{TellsAlong}
use Rattle.cli_replay.specs.PlanLaws.Sides.{version_after, version_with}
use Rattle.cli_replay.specs.ReplayLaws.Turns.{given_in}
use Rattle.cli_replay.specs.declared.replay_laws.event.Event.{Event}
use Rattle.convoy.specs.ClientLaws.Stated.{version_at}
use Rattle.lc_io.specs.declared.file.File.{File}
use Rattle.lc_model.specs.declared.query.Query.{Query}
use Rattle.lc_world.specs.Link.{IsHonestWith, LinkSeen}
use Rattle.page_client.specs.declared.want.Want.{Want}
use Rattle.page_client.specs.declared.want.Want.TheVariants as wants
use Rattle.lc_world.specs.Sides.Side.{Side}
use Rattle.lc_cli.specs.Block.{IsBlockEnd, client_status_of}
use Rattle.lc_cli.specs.Command.{IsPlanBlock, Prints}
use Rattle.lc_cli.specs.Headline.{EachEndsBest, EndsBestAt, HeadlineOfPlan, IsGateSide, PlannedEachBest}
use Rattle.lc_cli.specs.Top.{HasPrinted, HasServed, Past}
use Rattle.lc_cli.specs.declared.block.Block.{Block}
use Rattle.lc_cli.specs.declared.status.Status.TheVariants.{Done}
use Rattle.lc_cli.proofs.HeadlineLemmas.{HasAnswer, answer_at, has_answered, is_whole}
use Rattle.lc_cli.proofs.OneStatusLemmas.{done_is_printed}
use Rattle.lc_cli.proofs.PlanLemmas.{asks_recorded}

-- the side of a turn that the time gate began, which names this version
record NamedAt (known : Option ℕ) (rounds : List Round) (sides : List Side) (version : ℕ) : Type 0 where
  side : Side
  is_gate_side : IsGateSide rounds sides side
  version_is : version ≡ version_at side known

-- a later turn is one of all
named_later : (known : Option ℕ) (round : Round) (rounds : List Round) (side : Side) (sides : List Side) (version : ℕ) → NamedAt known rounds sides version → NamedAt known (round ∷ rounds) (side ∷ sides) version
named_later known round rounds side sides version x = record {
  side = x.side;
  is_gate_side = record {
    turn = suc x.is_gate_side.turn;
    round = x.is_gate_side.round;
    round_is = x.is_gate_side.round_is;
    more = x.is_gate_side.more;
    gate = x.is_gate_side.gate;
    side_is = x.is_gate_side.side_is;
  };
  version_is = x.version_is;
}

-- the first turn names the version, or it was named before
named_first : (known : Option ℕ) (round : Round) (rounds : List Round) (side : Side) (sides : List Side) (before : Option ℕ) (version : ℕ) (given : List Want) → round.given ≡ given
    → version_with side known given before ≡ Some version → (before ≡ Some version) ⊎ NamedAt known (round ∷ rounds) (side ∷ sides) version
named_first known round rounds side sides before version [] is named = inl named
named_first known round rounds side sides before version (wants.Gate ∷ more) is named =
    let same : version ≡ version_at side known = cc in
    inr (record { side = side; is_gate_side = record { turn = 0; round = round; round_is = refl; more = more; gate = is; side_is = refl }; version_is = same })
named_first known round rounds side sides before version (wants.Stops ∷ more) is named = inl named
named_first known round rounds side sides before version (wants.Page name ∷ more) is named = inl named
named_first known round rounds side sides before version (wants.Finished ∷ more) is named = inl named

-- the version after turns was named in one of them, or before
named_in : (known : Option ℕ) (rounds : List Round) (sides : List Side) (before : Option ℕ) (version : ℕ) → version_after known rounds sides before ≡ Some version
    → (before ≡ Some version) ⊎ NamedAt known rounds sides version
named_in known [] sides before version named = inl named
named_in known (round ∷ rounds) [] before version named = inl named
named_in known (round ∷ rounds) (side ∷ sides) before version named = by (named_in known rounds sides (version_with side known round.given before) version named) where
  by : (version_with side known round.given before ≡ Some version) ⊎ NamedAt known rounds sides version → (before ≡ Some version) ⊎ NamedAt known (round ∷ rounds) (side ∷ sides) version
  by (inl first) = named_first known round rounds side sides before version round.given refl first
  by (inr later) = inr (named_later known round rounds side sides version later)

named_by : (known : Option ℕ) (rounds : List Round) (sides : List Side) (version : ℕ) → version_after known rounds sides None ≡ Some version → NamedAt known rounds sides version
named_by known rounds sides version named = by (named_in known rounds sides None version named) where
  by : (None ≡ Some version) ⊎ NamedAt known rounds sides version → NamedAt known rounds sides version
  by (inl none) = absurd (cc)
  by (inr x) = x

-- a client that ended rightly with an answer ended best at the version that its time gate exchange named
module _ (last : Side) (query : Query) (rounds : List Round) (sides : List Side) (end : ClientEnd) (so : EndsAt last query rounds sides end) (found : HasAnswer end.outcome) where
  has : HasAnswered last (shown_of query end) (given_in rounds) found.answer
  has = has_answered last (shown_of query end) (given_in rounds) end.outcome found so.ended

  named : NamedAt query.known rounds sides has.version
  named = named_by query.known rounds sides has.version (sym so.version ∙ has.at_version)

  pub best_at : EndsBestAt rounds sides last query end
  best_at = record {
    side = named.side;
    is_gate_side = named.is_gate_side;
    version_is = subst (λ (v : ℕ). end.version ≡ Some v) named.version_is has.at_version;
    answer = found.answer;
    is_best = subst (λ (v : ℕ). AnswersAt last v query found.answer) named.version_is has.answers;
    outcome_is = found.is;
  }

-- clients that ended rightly, each with an answer, ended best
abbrev pub each_best : (base : BaseParts) (first : Side) (all : List Event) (cache : ℕ) (before after : LinkSeen) (text : List ℕ) (ends : List ClientEnd) (x : IsPlanned base all cache before after text ends)
    → ArePlanned base first all cache before after ends x.caused.met → TellsAlong first before after → Done ≡ client_status_of 1 ends
    → EachEndsBest base first all cache before after text ends x
each_best base first all cache before after text ends x planned replies done = record {
  planned = planned;
  replies = replies;
  best = λ place query own asks is. best_at planned.last query _ _ own (planned.clients place query own asks is) (answer_at 1 ends place own done is);
}

module _ {X : Type 0} (seen : X → LinkSeen) (p : Past X) (plan : Plan) (files : List File) (first : Side) (tells : p.folder_before.files ≡ Some files)
    (honest : IsHonestWith (seen p.link_before) plan.base first) where
  -- what was written are the blocks of best journeys
  planned_each_best : (block : Block) → IsPlanBlock plan p.folder_before p.folder_after (seen p.link_before) (seen p.link_after) block → IsBlockEnd block p.sink_before p.sink_after Done
      → PlannedEachBest seen p plan files first
  planned_each_best block x end =
      let whole = is_whole block p.sink_before p.sink_after end in
      record {
        all = x.all;
        recorded = asks_recorded files plan.asks p.folder_before p.folder_after x.all tells x.inputs;
        text = block.text.items;
        ends = block.ends.items;
        planned = x.planned;
        each =
            each_best plan.base first x.all plan.cache (seen p.link_before) (seen p.link_after) block.text.items block.ends.items x.planned
            (x.planned.right first honest) (x.planned.replies first honest) whole.status_is;
        wrote = whole.wrote;
      }

  pub by_printed : OneCommand → SaysCommand p.words (commands.Plan plan) → HasPrinted seen p Done → PlannedEachBest seen p plan files first
  by_printed one_command says x =
      planned_each_best x.block
      (subst (λ (c : Command). Prints c p.folder_before p.folder_after (seen p.link_before) (seen p.link_after) x.block)
      (one_command p.words x.right.command (commands.Plan plan) x.right.says says) x.right.prints) x.end

pub headline_of_plan : {X : Type 0} (seen : X → LinkSeen) → OneCommand → HeadlineOfPlan seen
headline_of_plan seen one_command p plan files first says tells honest right = by (done_is_printed seen p right) where
  by : HasPrinted seen p Done ⊎ HasServed p Done → PlannedEachBest seen p plan files first
  by (inl x) = by_printed seen p plan files first tells honest one_command says x
  by (inr x) = let other : commands.Serve x.right.serve ≡ commands.Plan plan = one_command p.words (commands.Serve x.right.serve) (commands.Plan plan) x.right.says says in absurd (cc)
