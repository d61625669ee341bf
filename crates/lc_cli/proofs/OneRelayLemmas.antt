-- Two runs of `relay` over the same files print one output, but for how many exchanges were handed on.
use Rattle.std.proofs.Common.{◌≡◌, ◌∙◌, ◌+◌, ◌-◌, ◌^◌, ◌++◌, ◌∷◌, ℕ, true, List, [], ap, ap₂, min, refl, sym}
use Rattle.std.proofs.lemmas.List.Sums.{sum_by-cons}
use Rattle.std.specs.List.{AllZip}
use Rattle.cli_ask.specs.Laws.{AreOneEnd}
use Rattle.cli_ask.specs.declared.end.ClientEnd.{ClientEnd}
use Rattle.cli_replay.specs.Planning.Laws.{RelaysPlanRight}
use Rattle.cli_replay.specs.Planning.Relayed.{IsRelayed, counts_line_of, exchanges_in, relay_after, relay_over}
use Rattle.cli_words.specs.Laws.{OneCommand}
use Rattle.cli_words.specs.declared.command.Command.TheVariants as commands
use Rattle.cli_words.specs.declared.command.Relay.{Relay}
use Rattle.connection_uri.specs.Base.{BaseParts}
use Rattle.cli_replay.specs.PlanLaws.OneGrowing.{OneGrowingPlan}
use Rattle.cli_replay.specs.PlanLaws.OnePlan.{OnePlan}
use Rattle.cli_replay.specs.ReplayLaws.Replayed.{clients_text_of}
use Rattle.cli_replay.specs.declared.replay_laws.event.Event.{Event}
use Rattle.lc_io.specs.Counts.{Rose}
use Rattle.lc_io.specs.declared.file.File.{File}
use Rattle.lc_world.specs.Link.{IsHonestWith, LinkSeen}
use Rattle.lc_world.specs.declared.entry.Entry.{Entry}
use Rattle.page_relay.specs.Kept.{Kept}
use Rattle.page_relay.specs.Relay.{RelayState, new_relay, relay_seen}
use Rattle.lc_world.specs.Sides.Side.{Side}
use Rattle.journey_text.specs.ScriptLaws.{OneScript}
use Rattle.lc_cli.specs.Command.{IsRelayBlock}
use Rattle.lc_cli.specs.OnePlan.{PlanTheSame}
use Rattle.lc_cli.specs.OneRelay.{OneNamedRelay, OneQuietRelay, PrintOneRelay}
use Rattle.lc_cli.specs.Top.{HasPrinted, Past}
use Rattle.lc_cli.specs.declared.block.Block.{Block}
use Rattle.lc_cli.specs.declared.status.Status.{Status}
use Rattle.lc_cli.proofs.OnePlanLemmas.{PlannedFine, ReadOneList, block_said, one_named, one_quiet, read_one_list, says_too}

-- a relay over a link after exchanges of its own, when it keeps these replies and has left the link so
abbrev relay_left : {X : Type 0} → BaseParts → ℕ → X → List Entry → List Kept → X → RelayState X
relay_left base entries before own kept after = record {
  exchanger = record { inner = after; base = base; memory = record { entries = entries; kept = kept }; forwarded = 0 };
  made = before;
  recorded = own;
  relayed = 0;
  exact = true;
}

-- clients whose ends are one made as many exchanges
as_many : (a b : List ClientEnd) → AllZip AreOneEnd a b → exchanges_in a ≡ exchanges_in b
as_many [] [] one = refl
as_many [] (e ∷ b) one = absurd one
as_many (d ∷ a) [] one = absurd one
as_many (d ∷ a) (e ∷ b) one =
    sum_by-cons (λ (end : ClientEnd). end.exchanges) d a
    ∙ ap₂ (λ (m n : ℕ). m + n) one.0.exchanges (as_many a b one.1)
    ∙ sym (sum_by-cons (λ (end : ClientEnd). end.exchanges) e b)

-- what clients ended with that planned over a relay of an honest link
planned_over : {X : Type 0} (seen : X → LinkSeen) → RelaysPlanRight seen → (base : BaseParts) (first : Side) (all : List Event) (cache entries : ℕ) (before after : X) (text : List ℕ)
    (ends : List ClientEnd) (x : IsRelayed base all cache entries (seen before) (seen after) text ends) → IsHonestWith (seen before) base first → (Rose (seen before).faults (seen after).faults → ⊥)
    → PlannedFine base first all cache (relay_over base entries (seen before)) (relay_after base entries (seen before) x.own x.kept (seen after)) ends
planned_over seen relays_plan_right base first all cache entries before after text ends x honest no_fault = record {
  text = x.blocks;
  is = x.planned;
  right = (relays_plan_right base first all cache entries before after text ends x honest).planned;
  no_fault = no_fault;
}

module _ (one_command : OneCommand) (one_script : OneScript) {X Y : Type 0} (seen : X → LinkSeen) (saw : Y → LinkSeen) (relays_plan_right : RelaysPlanRight seen)
    (others_plan_right : RelaysPlanRight saw) where
  -- what two runs printed, by their words and files
  record Both (p : Past X) (q : Past Y) (relay : Relay) (a b : Block) : Type 0 where
    first : IsRelayBlock relay p.folder_before p.folder_after (seen p.link_before) (seen p.link_after) a
    second : IsRelayBlock relay q.folder_before q.folder_after (saw q.link_before) (saw q.link_after) b
    list : ReadOneList first.all second.all

  both : (p : Past X) (q : Past Y) (relay : Relay) (recorded : List File) → PlanTheSame p q (commands.Relay relay) recorded → (s t : Status) (x : HasPrinted seen p s) (y : HasPrinted saw q t)
      → Both p q relay x.block y.block
  both p q relay recorded same s t x y =
      let first = block_said one_command seen p (commands.Relay relay) s x same.says in
      let second = block_said one_command saw q (commands.Relay relay) t y (says_too p q (commands.Relay relay) recorded same) in
      record {
        first = first;
        second = second;
        list = read_one_list one_script recorded relay.asks p.folder_before p.folder_after q.folder_before q.folder_after first.all second.all same.tells same.tell first.inputs second.inputs;
      }

  -- the outputs, where the ends are one
  printed : (p : Past X) (q : Past Y) (relay : Relay) (a b : Block) (x : Both p q relay a b) → AllZip AreOneEnd a.ends.items b.ends.items → PrintOneRelay a b
  printed p q relay a b x ends =
      let one = x.first.relayed in
      let two = x.second.relayed in
      let relayed : two.relayed ≡ one.relayed = two.relayed_is ∙ ap (λ (n : ℕ). min n (2 ^ 64 - 1)) (sym (as_many a.ends.items b.ends.items ends)) ∙ sym one.relayed_is in
      record {
        relayed = one.relayed;
        forwarded = one.forwarded;
        other_forwarded = two.forwarded;
        first_is = one.text_is ∙ ap (λ (blocks : List ℕ). blocks ++ counts_line_of one.relayed one.forwarded) one.planned.text_is;
        second_is =
            two.text_is ∙ ap (λ (blocks : List ℕ). blocks ++ counts_line_of two.relayed two.forwarded) two.planned.text_is
            ∙ ap (λ (n : ℕ). clients_text_of 1 b.ends.items ++ counts_line_of n two.forwarded) relayed;
        one_each = ends;
      }

  pub one_quiet_relay : OnePlan (relay_seen seen) (relay_seen saw) → OneQuietRelay seen saw
  one_quiet_relay one_plan p q relay recorded side same fair other_fair s t x y =
      let b : Both p q relay x.block y.block = both p q relay recorded same s t x y in
      let one = b.first.relayed in
      let two = b.second.relayed in
      printed p q relay x.block y.block b
      (one_quiet (relay_seen seen) (relay_seen saw) relay.base relay.cache (new_relay p.link_before relay.base relay.entries)
      (relay_left relay.base relay.entries p.link_before one.own one.kept p.link_after) (new_relay q.link_before relay.base relay.entries)
      (relay_left relay.base relay.entries q.link_before two.own two.kept q.link_after) b.first.all b.second.all b.list x.block.ends.items y.block.ends.items one_plan side
      fair.was_quiet.quiet other_fair.was_quiet.quiet
      (planned_over seen relays_plan_right relay.base side b.first.all relay.cache relay.entries p.link_before p.link_after x.block.text.items x.block.ends.items one fair.was_quiet.as_honest fair.no_fault)
      (planned_over saw others_plan_right relay.base side b.second.all relay.cache relay.entries q.link_before q.link_after y.block.text.items y.block.ends.items two other_fair.was_quiet.as_honest
      other_fair.no_fault))

  pub one_named_relay : OneGrowingPlan (relay_seen seen) (relay_seen saw) → OneNamedRelay seen saw
  one_named_relay one_plan p q relay recorded last end whole same valid grew other_grew fair other_fair s t x y named =
      let b : Both p q relay x.block y.block = both p q relay recorded same s t x y in
      let one = b.first.relayed in
      let two = b.second.relayed in
      printed p q relay x.block y.block b
      (one_named (relay_seen seen) (relay_seen saw) relay.base relay.cache (new_relay p.link_before relay.base relay.entries)
      (relay_left relay.base relay.entries p.link_before one.own one.kept p.link_after) (new_relay q.link_before relay.base relay.entries)
      (relay_left relay.base relay.entries q.link_before two.own two.kept q.link_after) b.first.all b.second.all b.list x.block.ends.items y.block.ends.items one_plan fair.first last
      other_fair.first end whole fair.last_is other_fair.last_is valid grew other_grew
      (planned_over seen relays_plan_right relay.base fair.first b.first.all relay.cache relay.entries p.link_before p.link_after x.block.text.items x.block.ends.items one fair.was_honest fair.no_fault)
      (planned_over saw others_plan_right relay.base other_fair.first b.second.all relay.cache relay.entries q.link_before q.link_after y.block.text.items y.block.ends.items two other_fair.was_honest
      other_fair.no_fault) named)
