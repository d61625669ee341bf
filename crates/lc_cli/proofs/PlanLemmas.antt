-- What `plan` and `relay` read and result in over recorded files that nothing hinders.
use Rattle.std.proofs.Common.{◌≡◌, ◌∙◌, ◌⊎◌, ℕ, false, inl, inr, List, Some, refl, subst, sym}
use Rattle.cli_replay.specs.Inputs.Plan.{ReadsPlan}
use Rattle.cli_replay.specs.Inputs.Script.{IsScriptRefused}
use Rattle.cli_replay.specs.declared.inputs.refusal.Refusal.{Refusal}
use Rattle.cli_replay.specs.declared.inputs.refusal.Refusal.TheVariants as refused
use Rattle.cli_ask.specs.declared.end.ClientEnd.{ClientEnd}
use Rattle.cli_replay.specs.Planning.Laws.{RelaysPlanRight}
use Rattle.cli_words.specs.declared.command.Plan.{Plan}
use Rattle.cli_words.specs.declared.command.Relay.{Relay}
use Rattle.connection_uri.specs.Base.{BaseParts}
use Rattle.cli_replay.specs.PlanLaws.Planned.{ArePlanned, IsPlanned}
use Rattle.cli_replay.specs.ReplayLaws.Events.{questions_in}
use Rattle.cli_replay.specs.declared.replay_laws.event.Event.{Event}
use Rattle.lc_io.specs.Counts.{Rose}
use Rattle.lc_io.specs.Folder.{FolderSeen}
use Rattle.lc_io.specs.declared.file.File.{File}
use Rattle.lc_world.specs.Link.{LinkSeen}
use Rattle.lc_world.specs.Sides.Side.{Side}
use Rattle.journey_text.specs.ScriptLaws.{NeverBoth}
use Rattle.journey_text.specs.ScriptReading.{HasFault}
use Rattle.journey_text.specs.declared.script_fault.ScriptFault.TheVariants.{Wrong}
use Rattle.timetable.specs.declared.fault.LoadFault.TheVariants as fault
use Rattle.lc_cli.specs.Clear.{AreRecordedAsks, HasHonestLink}
use Rattle.lc_cli.specs.Command.{IsPlanBlock, IsRelayBlock}
use Rattle.lc_cli.specs.Refusal.{status_of}
use Rattle.lc_cli.specs.declared.block.Block.{Block}
use Rattle.lc_cli.specs.declared.status.Status.TheVariants.{NoMemory}
use Rattle.lc_cli.proofs.InputsLemmas.{absent_recorded, bytes_recorded}
use Rattle.lc_cli.proofs.ReplayLemmas.{no_fault_of, no_faults_at, some_at}
use Rattle.lc_cli.proofs.TopLemmas.{AreNoFaults}

-- the questions and turns that were read are those of the recorded files
pub asks_recorded : (recorded : List File) (name : List ℕ) (old new : FolderSeen) (all : List Event) → old.files ≡ Some recorded → ReadsPlan name old new all → AreRecordedAsks recorded name all
asks_recorded recorded name old new all tells x = record {
  script = x.script;
  is_recorded = record { bytes = x.read.bytes; is_recorded = bytes_recorded recorded old new name x.read.bytes tells x.read.read; says = x.read.says };
  say = x.say;
}

-- where clients ended rightly and no exchange failed, no reply did
pub planned_fine : (base : BaseParts) (first : Side) (all : List Event) (cache : ℕ) (before after : LinkSeen) (text : List ℕ) (ends : List ClientEnd) (x : IsPlanned base all cache before after text ends)
    → ArePlanned base first all cache before after ends x.caused.met → (Rose before.faults after.faults → ⊥) → AreNoFaults ends
planned_fine base first all cache before after text ends x right no_fault =
    no_faults_at ends (λ place end is.
    let query = some_at ends (questions_in all) place end x.one_each is in
    let ended = right.clients place query.0 end query.1 is in
    no_fault_of _ _ query.0 end base before.faults after.faults end.version _ end.outcome (x.caused.clients place query.0 end query.1 is).ends ended.ended no_fault)

-- over an honest link no exchange of `plan` failed and no reply
pub plan_fine : (plan : Plan) (old new : FolderSeen) (before after : LinkSeen) (block : Block) → IsPlanBlock plan old new before after block → HasHonestLink plan.base before after
    → AreNoFaults block.ends.items
plan_fine plan old new before after block x fair =
    planned_fine plan.base fair.first x.all plan.cache before after block.text.items block.ends.items x.planned (x.planned.right fair.first fair.was_honest) fair.no_fault

-- nor of `relay`
pub relay_fine : {X : Type 0} (seen : X → LinkSeen) → RelaysPlanRight seen → (relay : Relay) (old new : FolderSeen) (before after : X) (block : Block) → IsRelayBlock relay old new (seen before) (seen after) block
    → HasHonestLink relay.base (seen before) (seen after) → AreNoFaults block.ends.items
relay_fine seen relays_plan_right relay old new before after block x fair =
    planned_fine relay.base fair.first x.all relay.cache _ _ x.relayed.blocks block.ends.items x.relayed.planned
    (relays_plan_right relay.base fair.first x.all relay.cache relay.entries before after block.text.items block.ends.items x.relayed fair.was_honest).planned fair.no_fault

-- recorded questions and turns are refused for no cause but memory
module _ (never_both : NeverBoth) (recorded : List File) (name : List ℕ) (old new : FolderSeen) (tells : old.files ≡ Some recorded) (all : List Event) (asks : AreRecordedAsks recorded name all)
    (no_fault : Rose old.faults new.faults → ⊥) where
  pub plan_never_refused : (refusal : Refusal) → IsScriptRefused false name old new refusal → (status_of refusal ≡ NoMemory) ⊎ ⊥
  plan_never_refused refused.Usage is = inr is
  plan_never_refused (refused.Load (fault.Broken rule file row)) is = inr is
  plan_never_refused (refused.Load (fault.TooLarge what count)) is = inr is
  plan_never_refused (refused.Load (fault.Folder before after)) is = inr is
  plan_never_refused (refused.Load fault.NoMemory) is = inl refl
  plan_never_refused (refused.Script row) (inl lacks) = inr (let e = sym (absent_recorded recorded old new name tells lacks.read) ∙ asks.is_recorded.is_recorded in cc)
  plan_never_refused (refused.Script row) (inr wrong) =
      let same : Some wrong.bytes ≡ Some asks.is_recorded.bytes = sym (bytes_recorded recorded old new name wrong.bytes tells wrong.read) ∙ asks.is_recorded.is_recorded in
      let bytes : wrong.bytes ≡ asks.is_recorded.bytes = cc in
      inr (never_both asks.is_recorded.bytes false asks.script (Wrong row) asks.is_recorded.says (subst (λ (b : List ℕ). HasFault b false (Wrong row)) bytes wrong.wrong))
  plan_never_refused (refused.Folder before after) is = inr (no_fault (subst (λ count. Rose count new.faults) is.0.before_is (subst (λ count. Rose before count) is.0.after_is is.0.rose)))
  plan_never_refused (refused.LongUpdate count) is = inr is
  plan_never_refused (refused.BrokenUpdate broken found) is = inr is
