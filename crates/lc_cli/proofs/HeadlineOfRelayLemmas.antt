-- Where `relay` ended with status Done over an honest link, it wrote a best journey for each client, or that there is none.
use Rattle.std.proofs.Common.{◌≡◌, ◌∙◌, ◌⊎◌, ◌++◌, ℕ, inl, inr, List, Some, ap, subst}
use Rattle.cli_replay.specs.Planning.Laws.{RelaysPlanRight}
use Rattle.cli_replay.specs.Planning.Relayed.{counts_line_of}
use Rattle.cli_words.specs.Laws.{OneCommand}
use Rattle.cli_words.specs.Words.{SaysCommand}
use Rattle.cli_words.specs.declared.command.Command.{Command}
use Rattle.cli_words.specs.declared.command.Command.TheVariants as commands
use Rattle.cli_words.specs.declared.command.Relay.{Relay}
use Rattle.lc_io.specs.declared.file.File.{File}
use Rattle.lc_world.specs.Link.{IsHonestWith, LinkSeen}
use Rattle.lc_world.specs.Sides.Side.{Side}
use Rattle.lc_cli.specs.Block.{IsBlockEnd}
use Rattle.lc_cli.specs.Command.{IsRelayBlock, Prints}
use Rattle.lc_cli.specs.HeadlineOfRelay.{HeadlineOfRelay, RelayedEachBest}
use Rattle.lc_cli.specs.Top.{HasPrinted, HasServed, Past}
use Rattle.lc_cli.specs.declared.block.Block.{Block}
use Rattle.lc_cli.specs.declared.status.Status.TheVariants.{Done}
use Rattle.lc_cli.proofs.HeadlineLemmas.{is_whole}
use Rattle.lc_cli.proofs.HeadlineOfPlanLemmas.{each_best}
use Rattle.lc_cli.proofs.OneStatusLemmas.{done_is_printed}
use Rattle.lc_cli.proofs.PlanLemmas.{asks_recorded}

module _ {X : Type 0} (seen : X → LinkSeen) (relays_plan_right : RelaysPlanRight seen) (p : Past X) (relay : Relay) (files : List File) (first : Side) (tells : p.folder_before.files ≡ Some files)
    (honest : IsHonestWith (seen p.link_before) relay.base first) where
  -- what was written are the blocks of best journeys and the counts
  relayed_each_best : (block : Block) → IsRelayBlock relay p.folder_before p.folder_after (seen p.link_before) (seen p.link_after) block → IsBlockEnd block p.sink_before p.sink_after Done
      → RelayedEachBest seen p relay files first
  relayed_each_best block x end =
      let whole = is_whole block p.sink_before p.sink_after end in
      let right = relays_plan_right relay.base first x.all relay.cache relay.entries p.link_before p.link_after block.text.items block.ends.items x.relayed honest in
      record {
        all = x.all;
        recorded = asks_recorded files relay.asks p.folder_before p.folder_after x.all tells x.inputs;
        text = block.text.items;
        ends = block.ends.items;
        relayed = x.relayed;
        each = each_best relay.base first x.all relay.cache _ _ x.relayed.blocks block.ends.items x.relayed.planned right.planned right.replies whole.status_is;
        honest = right.honest;
        text_is = x.relayed.text_is ∙ ap (λ (blocks : List ℕ). blocks ++ counts_line_of x.relayed.relayed x.relayed.forwarded) x.relayed.planned.text_is;
        wrote = whole.wrote;
      }

  pub by_printed : OneCommand → SaysCommand p.words (commands.Relay relay) → HasPrinted seen p Done → RelayedEachBest seen p relay files first
  by_printed one_command says x =
      relayed_each_best x.block
      (subst (λ (c : Command). Prints c p.folder_before p.folder_after (seen p.link_before) (seen p.link_after) x.block)
      (one_command p.words x.right.command (commands.Relay relay) x.right.says says) x.right.prints) x.end

pub headline_of_relay : {X : Type 0} (seen : X → LinkSeen) → OneCommand → RelaysPlanRight seen → HeadlineOfRelay seen
headline_of_relay seen one_command relays_plan_right p relay files first says tells honest right = by (done_is_printed seen p right) where
  by : HasPrinted seen p Done ⊎ HasServed p Done → RelayedEachBest seen p relay files first
  by (inl x) = by_printed seen relays_plan_right p relay files first tells honest one_command says x
  by (inr x) = let other : commands.Serve x.right.serve ≡ commands.Relay relay = one_command p.words (commands.Serve x.right.serve) (commands.Relay relay) x.right.says says in absurd (cc)
