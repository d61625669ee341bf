-- Nothing but memory keeps the output from being printed, where nothing hinders a command.
use Rattle.std.proofs.Common.{◌≡◌, ◌∙◌, ◌⊎◌, ◌∷◌, ℕ, inl, inr, false, List, None, Option, Some, ap, arith, codes, refl, subst, sym}
use Rattle.cli_ask.specs.Publishing.{store_of}
use Rattle.cli_drill.specs.Files.{drill_files}
use Rattle.cli_replay.specs.Inputs.Inputs.{IsRefusedFor}
use Rattle.cli_replay.specs.Inputs.Script.{IsReplayRefused}
use Rattle.cli_replay.specs.declared.inputs.refusal.Refusal.{Refusal}
use Rattle.cli_replay.specs.declared.inputs.refusal.Refusal.TheVariants as refused
use Rattle.cli_replay.specs.Planning.Laws.{RelaysPlanRight}
use Rattle.cli_words.specs.Drill.{drilled_words}
use Rattle.cli_words.specs.Laws.{OneCommand}
use Rattle.cli_words.specs.Words.{SaysCommand}
use Rattle.cli_words.specs.declared.command.Command.{Command}
use Rattle.cli_words.specs.declared.command.Command.TheVariants as commands
use Rattle.cli_words.specs.declared.command.Replay.{Replay}
use Rattle.lc_io.specs.Counts.{Rose}
use Rattle.lc_io.specs.Folder.{FolderSeen}
use Rattle.lc_io.specs.declared.file.File.{File}
use Rattle.lc_world.specs.Link.{LinkSeen}
use Rattle.journey_text.specs.ScriptLaws.{NeverBoth, OneScript}
use Rattle.timetable.specs.Recorded.{IsSound}
use Rattle.timetable.specs.Laws.{LoadsRecorded, NotBroken, NotTooLarge}
use Rattle.timetable.specs.declared.fault.LoadFault.TheVariants as fault
use Rattle.timetable.specs.declared.scope.Scope.{Scope}
use Rattle.timetable.specs.declared.timetable.Timetable.{Timetable}
use Rattle.version_store.specs.Laws.{OneOutcome}
use Rattle.lc_cli.specs.Block.{IsBlockEnd, client_status_of}
use Rattle.lc_cli.specs.Clear.{IsAnswered, IsClear, IsFed, IsHeard}
use Rattle.lc_cli.specs.Command.{IsRefusedAs, IsRightRefusal, Prints}
use Rattle.lc_cli.specs.Scope.{scope_of}
use Rattle.lc_cli.specs.Drill.{IsDrillRefused, drill_folder, sure_seen}
use Rattle.lc_cli.specs.Refusal.{IsRefusalEnd, status_of}
use Rattle.lc_cli.specs.Top.{IsRight, Past}
use Rattle.lc_cli.specs.declared.status.Status.{Status}
use Rattle.lc_cli.specs.declared.status.Status.TheVariants.{NoMemory}
use Rattle.lc_cli.proofs.PlanLemmas.{plan_fine, plan_never_refused, relay_fine}
use Rattle.lc_cli.proofs.ReplayLemmas.{course_fine, never_refused}
use Rattle.lc_cli.proofs.ServingLemmas.{served_answered}
use Rattle.lc_cli.specs.declared.question.Asking.TheVariants as askings
use Rattle.lc_cli.proofs.TopLemmas.{AreNoFaults, IsHeardBy, answered, heard, heard_nothing, no_fault, not_absent, not_broken_update, not_long}

-- a command without a script whose feed and message are fine is refused for memory alone
module _ (not_broken : NotBroken) (not_too_large : NotTooLarge) (one_outcome : OneOutcome) (recorded : List File) (scope : Scope) (update : Option (List ℕ)) (old new : FolderSeen)
    (made : Timetable) (tells : old.files ≡ Some recorded) (sound : IsSound recorded scope made) (heard_is : IsHeardBy recorded update) (no_fault_is : Rose old.faults new.faults → ⊥) where
  never : (refusal : Refusal) → IsRefusedFor scope update old new refusal → (status_of refusal ≡ NoMemory) ⊎ ⊥
  never refused.Usage is = inr is
  never (refused.Load (fault.Broken rule file row)) is = inr (not_broken recorded scope old new made rule file row tells sound is)
  never (refused.Load (fault.TooLarge what count)) is = inr (not_too_large recorded scope old new made what count tells sound is)
  never (refused.Load (fault.Folder before after)) is = inr (no_fault_is (subst (λ count. Rose count new.faults) is.0 (subst (λ count. Rose before count) is.1 is.2)))
  never (refused.Load fault.NoMemory) is = inl refl
  never (refused.Script row) is = inr (not_absent one_outcome recorded scope update old new tells heard_is is.asks)
  never (refused.Folder before after) is = inr (no_fault_is (subst (λ count. Rose count new.faults) is.before_is (subst (λ count. Rose before count) is.after_is is.rose)))
  never (refused.LongUpdate count) is = inr (not_long one_outcome recorded scope update old new tells heard_is count is)
  never (refused.BrokenUpdate name found) is = inr (not_broken_update one_outcome recorded scope update old new tells heard_is name found is)

-- the run ended with what is answered, or out of memory
by_status : (status other : Status) → status ≡ other → IsAnswered other → IsAnswered status
by_status status other is fine = subst IsAnswered (sym is) fine

module _ (one_command : OneCommand) (loads_recorded : LoadsRecorded) (not_broken : NotBroken) (not_too_large : NotTooLarge) (one_outcome : OneOutcome) (one_script : OneScript)
    (never_both : NeverBoth) where
  -- nothing but memory keeps the output from being printed
  pub complete : {X : Type 0} (seen : X → LinkSeen) → RelaysPlanRight seen → (p : Past X) (status : Status) → IsRight seen p status → IsClear seen p → IsAnswered status
  complete seen relays_plan_right p status (inl x) clear = by x.end where
    same : x.right.command ≡ clear.command
    same = one_command p.words x.right.command clear.command x.right.says clear.says

    fine : (command : Command) → SaysCommand p.words command → Prints command p.folder_before p.folder_after (seen p.link_before) (seen p.link_after) x.block → AreNoFaults x.block.ends.items
    fine (commands.Check check) says prints = subst AreNoFaults (sym prints.no_client) tt
    fine (commands.Ask ask) says prints =
        no_fault loads_recorded clear.recorded ask.published (askings.Earliest ask.query ask.cache) p.folder_before p.folder_after (seen p.link_before) (seen p.link_after) x.block prints clear.unhindered.tells
        (clear.unhindered.fair ask says)
    fine (commands.Fewest fewest) says prints =
        no_fault loads_recorded clear.recorded fewest.published (askings.Fewest fewest.query) p.folder_before p.folder_after (seen p.link_before) (seen p.link_after) x.block prints clear.unhindered.tells
        (clear.unhindered.fair_fewest fewest says)
    fine (commands.Arrive arrive) says prints =
        no_fault loads_recorded clear.recorded arrive.published (askings.Latest arrive.query) p.folder_before p.folder_after (seen p.link_before) (seen p.link_after) x.block prints clear.unhindered.tells
        (clear.unhindered.fair_arrive arrive says)
    fine (commands.Replay replay) says prints =
        course_fine loads_recorded clear.recorded replay p.folder_before p.folder_after (seen p.link_before) (seen p.link_after) x.block.text.items x.block.ends.items prints clear.unhindered.tells
        (clear.unhindered.fair_course replay says)
    fine (commands.Serve serve) says prints = absurd prints
    fine (commands.Drill drill) says prints =
        let x = prints.1 in
        course_fine loads_recorded (drill_files drill.seed drill.days) x.replay (sure_seen (drill_folder drill)) (sure_seen x.read) (seen p.link_before) (seen p.link_after) x.text _ x.played refl
        (clear.unhindered.fair_drill drill says x.replay x.drilled)
    fine (commands.Plan plan) says prints =
        plan_fine plan p.folder_before p.folder_after (seen p.link_before) (seen p.link_after) x.block prints (clear.unhindered.fair_plan plan says)
    fine (commands.Relay relay) says prints =
        relay_fine seen relays_plan_right relay p.folder_before p.folder_after p.link_before p.link_after x.block prints (clear.unhindered.fair_relay relay says)

    by : IsBlockEnd x.block p.sink_before p.sink_after status → IsAnswered status
    by (inl whole) = by_status status (client_status_of 1 x.block.ends.items) whole.status_is (answered 1 x.block.ends.items (fine x.right.command x.right.says x.right.prints))
    by (inr (inl cut)) = absurd (clear.unhindered.no_sink_fault cut.rose)
    by (inr (inr cut)) = by_status status NoMemory cut.status_is tt
  complete seen relays_plan_right p status (inr (inr x)) clear =
      served_answered x.server p.door_before p.door_after p.sink_before p.sink_after status x.end clear.unhindered.no_door_fault clear.unhindered.no_sink_fault
  complete seen relays_plan_right p status (inr (inl x)) clear = by x.right x.end where
    memory : (refusal : Refusal) → status_of refusal ≡ NoMemory → IsRefusalEnd refusal p.sink_before p.sink_after status → IsAnswered status
    memory refusal is (inl said) = by_status status NoMemory (said.status_is ∙ is) tt
    memory refusal is (inr lacks) = by_status status NoMemory lacks.status_is tt

    -- whatever the command is, it is refused for memory alone
    never_as : (command : Command) → IsFed clear.recorded command → IsHeard clear.recorded command → IsRefusedAs command p.folder_before p.folder_after x.refusal
        → (status_of x.refusal ≡ NoMemory) ⊎ ⊥
    never_as (commands.Check check) fed is refused_is =
        never not_broken not_too_large one_outcome clear.recorded (scope_of check.window) None p.folder_before p.folder_after fed.made clear.unhindered.tells fed.sound
        (heard_nothing clear.recorded (store_of fed.made 0)) clear.unhindered.no_folder_fault x.refusal refused_is
    never_as (commands.Ask ask) fed is refused_is =
        never not_broken not_too_large one_outcome clear.recorded (scope_of ask.published.window) ask.published.update p.folder_before p.folder_after fed.made clear.unhindered.tells fed.sound
        (heard clear.recorded ask.published false is.0 is.1) clear.unhindered.no_folder_fault x.refusal refused_is
    never_as (commands.Fewest fewest) fed is refused_is =
        never not_broken not_too_large one_outcome clear.recorded (scope_of fewest.published.window) fewest.published.update p.folder_before p.folder_after fed.made clear.unhindered.tells fed.sound
        (heard clear.recorded fewest.published false is.0 is.1) clear.unhindered.no_folder_fault x.refusal refused_is
    never_as (commands.Arrive arrive) fed is refused_is =
        never not_broken not_too_large one_outcome clear.recorded (scope_of arrive.published.window) arrive.published.update p.folder_before p.folder_after fed.made clear.unhindered.tells fed.sound
        (heard clear.recorded arrive.published false is.0 is.1) clear.unhindered.no_folder_fault x.refusal refused_is
    never_as (commands.Replay replay) fed (made, all, course) refused_is =
        never_refused one_script never_both not_broken not_too_large clear.recorded replay p.folder_before p.folder_after clear.unhindered.tells made all course
        clear.unhindered.no_folder_fault x.refusal refused_is
    never_as (commands.Serve serve) fed is refused_is =
        never not_broken not_too_large one_outcome clear.recorded (scope_of serve.published.window) serve.published.update p.folder_before p.folder_after fed.made clear.unhindered.tells fed.sound
        (heard clear.recorded serve.published serve.accept_updates is.0 is.1) clear.unhindered.no_folder_fault x.refusal refused_is
    never_as (commands.Plan plan) fed (all, asks) refused_is =
        plan_never_refused never_both clear.recorded plan.asks p.folder_before p.folder_after clear.unhindered.tells all asks clear.unhindered.no_folder_fault x.refusal refused_is
    never_as (commands.Relay relay) fed (all, asks) refused_is =
        plan_never_refused never_both clear.recorded relay.asks p.folder_before p.folder_after clear.unhindered.tells all asks clear.unhindered.no_folder_fault x.refusal refused_is
    never_as (commands.Drill drill) fed (replay, made, all, drilled, course) refused_is = by_cause refused_is.1 where
      by_cause : IsDrillRefused drill x.refusal → (status_of x.refusal ≡ NoMemory) ⊎ ⊥
      by_cause (inl memory) = inl (ap status_of memory)
      by_cause (inr is) =
          let other : commands.Replay is.replay ≡ commands.Replay replay =
          one_command (codes "replay" ∷ drilled_words drill.days) (commands.Replay is.replay) (commands.Replay replay) is.drilled drilled in
          let same : is.replay ≡ replay = cc in
          let refused_so = subst (λ (r : Replay). IsReplayRefused (scope_of r.window) r.script (sure_seen (drill_folder drill)) (sure_seen is.read) x.refusal) same is.refused in
          never_refused one_script never_both not_broken not_too_large (drill_files drill.seed drill.days) replay (sure_seen (drill_folder drill)) (sure_seen is.read) refl made all course
          (λ rose. omega (arith, rose)) x.refusal refused_so

    by : IsRightRefusal p.words p.folder_before p.folder_after x.refusal → IsRefusalEnd x.refusal p.sink_before p.sink_after status → IsAnswered status
    by (inl usage) end = absurd (usage.says_none clear.command clear.says)
    by (inr (inl first)) end = memory x.refusal (ap status_of first.is) end
    by (inr (inr is)) end =
        either (never_as clear.command clear.fed clear.heard (subst (λ (c : Command). IsRefusedAs c p.folder_before p.folder_after x.refusal) same is.refused)) where
          same : is.command ≡ clear.command
          same = one_command p.words is.command clear.command is.says clear.says

          either : (status_of x.refusal ≡ NoMemory) ⊎ ⊥ → IsAnswered status
          either (inl e) = memory x.refusal e end
          either (inr contrary) = absurd contrary
