-- Two runs of one command over the same files end with one status, memory apart.
use Rattle.std.proofs.Common.{◌≡◌, ◌∙◌, ◌⊎◌, ◌+◌, ◌∷◌, ℕ, arith, codes, inl, inr, List, [], None, Some, Option, Result, Ok, Err, ap, ap₂, refl, subst, sym}
use Rattle.std.specs.List.{AllZip}
use Rattle.std.specs.Option.{unwrap_or}
use Rattle.cli_ask.specs.Publishing.{side_for, side_with, store_of}
use Rattle.cli_ask.specs.LatestDeparture.Laws.{OneLatestOutput}
use Rattle.cli_ask.specs.Laws.{AreOneEnd, OneOutput}
use Rattle.cli_ask.specs.declared.end.ClientEnd.{ClientEnd}
use Rattle.cli_ask.specs.FewestRides.Laws.{OneFewestOutput}
use Rattle.back_client.specs.Ends.ReplyLaws.{SayOneLatest}
use Rattle.convoy.specs.Replies.Laws.{SayTheSame}
use Rattle.cli_words.specs.Laws.{OneCommand}
use Rattle.cli_words.specs.Words.{SaysCommand}
use Rattle.cli_words.specs.declared.command.Command.{Command}
use Rattle.cli_words.specs.declared.command.Command.TheVariants as commands
use Rattle.cli_words.specs.declared.command.Drill.{Drill}
use Rattle.cli_words.specs.declared.command.Replay.{Replay}
use Rattle.cli_words.specs.Drill.{drilled_words}
use Rattle.lc_io.specs.Counts.{Rose}
use Rattle.lc_io.specs.Folder.{FolderSeen}
use Rattle.lc_io.specs.declared.file.File.{File}
use Rattle.lc_io.specs.declared.folder.FolderFail.{FolderFail}
use Rattle.lc_io.specs.declared.folder.FolderFail.TheVariants.{Absent}
use Rattle.lc_world.specs.Link.{LinkSeen}
use Rattle.page_client.specs.declared.fault.QueryFault.{QueryFault}
use Rattle.page_client.specs.declared.outcome.Outcome.{Outcome}
use Rattle.page_client.specs.declared.outcome.Outcome.TheVariants as outcomes
use Rattle.cli_replay.specs.ReplayLaws.OneCourse.{OneCourse}
use Rattle.cli_replay.specs.declared.replay_laws.event.Event.{Event}
use Rattle.journey_text.specs.ScriptLaws.{NeverBoth, OneFault, OneScript}
use Rattle.timetable.specs.Laws.{AreSameEnds, IsOfFiles, LoadsRecorded, OneEnd, OneTimetable}
use Rattle.timetable.specs.Loading.{Loads, LoadsSo}
use Rattle.timetable.specs.declared.fault.LoadFault.{LoadFault}
use Rattle.timetable.specs.declared.fault.LoadFault.TheVariants as fault
use Rattle.timetable.specs.declared.scope.Scope.{Scope}
use Rattle.timetable.specs.declared.timetable.Timetable.{Timetable}
use Rattle.version_store.specs.Laws.{OneOutcome}
use Rattle.version_store.specs.declared.admission.AdmitFault.{AdmitFault}
use Rattle.version_store.specs.declared.admission.AdmitFault.TheVariants as faults
use Rattle.lc_cli.specs.Block.{IsBlockEnd, client_status_of, failed_status_of}
use Rattle.lc_cli.specs.Clear.{HasFairLink, HasTimetable, IsClear, IsRecordedCourse, IsRecordedFile, IsUnhindered}
use Rattle.lc_cli.specs.Command.{IsQuestionBlock, IsRefusedAs, IsRightBlock, IsRightRefusal, Prints}
use Rattle.lc_cli.specs.Scope.{scope_of}
use Rattle.lc_cli.specs.Drill.{IsDrillRefused, IsDrilled, drill_folder, sure_seen}
use Rattle.cli_drill.specs.Files.{drill_files}
use Rattle.cli_replay.specs.Inputs.Inputs.{AsksForUpdate, IsRefusedFor}
use Rattle.lc_cli.specs.Laws.{AreInProcess, DoneIsClear, DoneIsPrinted, IsInProcess, OneStatus}
use Rattle.lc_cli.specs.Refusal.{IsRefusalEnd, status_of}
use Rattle.lc_cli.specs.Top.{HasPrinted, HasServed, IsRight, Past}
use Rattle.lc_cli.specs.declared.block.Block.{Block}
use Rattle.lc_cli.specs.declared.question.Asking.{Asking}
use Rattle.lc_cli.specs.declared.question.Asking.TheVariants as askings
use Rattle.cli_replay.specs.declared.inputs.refusal.Refusal.{Refusal}
use Rattle.cli_replay.specs.declared.inputs.refusal.Refusal.TheVariants as refused
use Rattle.lc_cli.specs.declared.status.Status.{Status}
use Rattle.lc_cli.specs.declared.status.Status.TheVariants.{Done, NoMemory, ScriptWrong, UpdateBroken, Usage}
use Rattle.lc_cli.proofs.CourseRefusalLemmas.{HasLoaded, IsCourseRefused, IsRecordedCause, course_refused, not_refused, one_course_refusal, one_wrong, status_by, status_in}
use Rattle.lc_cli.proofs.InputsLemmas.{absent_recorded, bytes_recorded, inputs_recorded, still_recorded}
use Rattle.lc_cli.proofs.OneDrillLemmas.{summed_alike, summed_out}
use Rattle.lc_cli.proofs.OneReplayLemmas.{one_replay}
use Rattle.lc_cli.proofs.OneRunLemmas.{PrintOneSo, one_client}
use Rattle.lc_cli.proofs.PlanLemmas.{asks_recorded}
use Rattle.lc_cli.proofs.ReplayLemmas.{course_fine, course_recorded}
use Rattle.cli_words.specs.declared.command.Published.{Published}
use Rattle.lc_cli.proofs.TopLemmas.{AreNoFaults, IsHeardBy, IsNoFault, first_heard, heard_fine, heard_nothing, no_fault, side_asked, side_served}

-- the block was printed whole
record Whole {X : Type 0} (seen : X → LinkSeen) (p : Past X) (s : Status) : Type 0 where
  block : Block
  right : IsRightBlock p.words p.folder_before p.folder_after (seen p.link_before) (seen p.link_after) block
  status_is : s ≡ client_status_of 1 block.ends.items

-- the arguments say no command
record NoCommand {X : Type 0} (p : Past X) (s : Status) : Type 0 where
  says_none : (command : Command) → SaysCommand p.words command → ⊥
  status_is : s ≡ Usage

-- the loading ended with this fault of the files
record LoadFails {X : Type 0} (scope : Scope) (p : Past X) (s : Status) : Type 0 where
  found : LoadFault
  of_files : IsOfFiles (Err found)
  loads : LoadsSo scope p.folder_before p.folder_after (Err found)
  status_is : s ≡ status_in found

-- the timetable was loaded, and the message is wrong
record UpdateFails {X : Type 0} (scope : Scope) (update : Option (List ℕ)) (recorded : List File) (p : Past X) (s : Status) : Type 0 where
  between : FolderSeen
  made : Timetable
  loaded : Loads scope p.folder_before between made
  name : List ℕ
  named : update ≡ Some name
  cause : Option AdmitFault
  is : IsRecordedCause recorded name cause
  status_is : s ≡ status_by 0 name cause

-- the files refuse the feed or the message
abbrev Fails : {X : Type 0} → Scope → Option (List ℕ) → List File → Past X → Status → Type 0
Fails scope update recorded p s = LoadFails scope p s ⊎ UpdateFails scope update recorded p s

-- the generated files refuse the event sequence of a drill
record DrillFails (drill : Drill) (s : Status) : Type 0 where
  replay : Replay
  drilled : IsDrilled drill replay
  refused : IsCourseRefused (drill_files drill.seed drill.days) replay s

-- what the files refuse: the feed or the message of a command, or its event sequence
abbrev IsRefusedSo : {X : Type 0} → List File → Past X → Status → Command → Type 0
IsRefusedSo recorded p s (commands.Check check) = Fails (scope_of check.window) None recorded p s
IsRefusedSo recorded p s (commands.Ask ask) = Fails (scope_of ask.published.window) ask.published.update recorded p s
IsRefusedSo recorded p s (commands.Replay replay) = IsCourseRefused recorded replay s
IsRefusedSo recorded p s (commands.Serve serve) = Unit {0}
IsRefusedSo recorded p s (commands.Plan plan) = Unit {0}
IsRefusedSo recorded p s (commands.Relay relay) = Unit {0}
IsRefusedSo recorded p s (commands.Drill drill) = DrillFails drill s
IsRefusedSo recorded p s (commands.Fewest fewest) = Fails (scope_of fewest.published.window) fewest.published.update recorded p s
IsRefusedSo recorded p s (commands.Arrive arrive) = Fails (scope_of arrive.published.window) arrive.published.update recorded p s

-- a command is refused by its files
record IsRefusedByFiles {X : Type 0} (recorded : List File) (p : Past X) (s : Status) : Type 0 where
  command : Command
  says : SaysCommand p.words command
  by : IsRefusedSo recorded p s command

-- how a run ended that nothing hindered, memory apart
abbrev Ended : {X : Type 0} → (X → LinkSeen) → List File → Past X → Status → Type 0
Ended seen recorded p s = Whole seen p s ⊎ NoCommand p s ⊎ IsRefusedByFiles recorded p s

module _ {X : Type 0} (seen : X → LinkSeen) (p : Past X) (recorded : List File) (at : IsUnhindered seen p recorded) (s : Status) where
  -- what was asked for of the message, and answered so
  by_update : (scope : Scope) (update : Option (List ℕ)) (result : Result (List ℕ) FolderFail) (x : AsksForUpdate scope update p.folder_before p.folder_after result)
      (cause : Option AdmitFault) → IsRecordedCause recorded x.name cause → s ≡ status_by 0 x.name cause → UpdateFails scope update recorded p s
  by_update scope update result x cause is status = record {
    between = x.between;
    made = x.made;
    loaded = x.loaded;
    name = x.name;
    named = x.named;
    cause = cause;
    is = is;
    status_is = status;
  }

  still : (scope : Scope) (update : Option (List ℕ)) (result : Result (List ℕ) FolderFail) (x : AsksForUpdate scope update p.folder_before p.folder_after result) → x.between.files ≡ Some recorded
  still scope update result x = still_recorded recorded p.folder_before x.between at.tells x.kept

  by_refusal : (scope : Scope) (update : Option (List ℕ)) (refusal : Refusal) → s ≡ status_of refusal → IsRefusedFor scope update p.folder_before p.folder_after refusal
      → (s ≡ NoMemory) ⊎ Fails scope update recorded p s
  by_refusal scope update refused.Usage status is = absurd is
  by_refusal scope update (refused.Load (fault.Broken rule file row)) status is = inr (inl (record { found = fault.Broken rule file row; of_files = tt; loads = is; status_is = status }))
  by_refusal scope update (refused.Load (fault.TooLarge kind count)) status is = inr (inl (record { found = fault.TooLarge kind count; of_files = tt; loads = is; status_is = status }))
  by_refusal scope update (refused.Load (fault.Folder before after)) status is =
      absurd (at.no_folder_fault (subst (λ count. Rose count p.folder_after.faults) is.0 (subst (λ count. Rose before count) is.1 is.2)))
  by_refusal scope update (refused.Load fault.NoMemory) status is = inl status
  by_refusal scope update (refused.Script row) status is =
      inr (inr (by_update scope update (Err Absent) is.asks None (absent_recorded recorded is.asks.between p.folder_after is.asks.name (still scope update (Err Absent) is.asks) is.asks.read)
      (status ∙ ap (λ r. ScriptWrong r) is.row_is)))
  by_refusal scope update (refused.Folder before after) status is =
      absurd (at.no_folder_fault (subst (λ count. Rose count p.folder_after.faults) is.before_is (subst (λ count. Rose before count) is.after_is is.rose)))
  by_refusal scope update (refused.LongUpdate count) status is =
      let bytes = bytes_recorded recorded is.asks.between p.folder_after is.asks.name is.bytes (still scope update (Ok is.bytes) is.asks) is.asks.read in
      inr (inr (by_update scope update (Ok is.bytes) is.asks (Some (faults.TooLong count)) (is.bytes, bytes, (λ store. (is.long, is.counted)), (λ ignored. ignored)) status))
  by_refusal scope update (refused.BrokenUpdate name found) status is =
      let bytes = bytes_recorded recorded is.asks.between p.folder_after is.asks.name is.bytes (still scope update (Ok is.bytes) is.asks) is.asks.read in
      let same : name ≡ is.asks.name = let e : Some name ≡ Some is.asks.name = sym is.named ∙ is.asks.named in cc in
      inr (inr (by_update scope update (Ok is.bytes) is.asks (Some (faults.Broken found)) (is.bytes, bytes, (λ store. is.broken), (λ ignored. ignored))
      (status ∙ ap (λ n. UpdateBroken n found) same)))

  drill_refused : (drill : Drill) (refusal : Refusal) → s ≡ status_of refusal → IsDrillRefused drill refusal → (s ≡ NoMemory) ⊎ DrillFails drill s
  drill_refused drill refusal status (inl memory) = inl (status ∙ ap status_of memory)
  drill_refused drill refusal status (inr is) =
      of (course_refused (drill_files drill.seed drill.days) is.replay (sure_seen (drill_folder drill)) (sure_seen is.read) refl (λ rose. omega (arith, rose)) s refusal is.refused status) where
        of : (s ≡ NoMemory) ⊎ IsCourseRefused (drill_files drill.seed drill.days) is.replay s → (s ≡ NoMemory) ⊎ DrillFails drill s
        of (inl memory) = inl memory
        of (inr refused_is) = inr (record { replay = is.replay; drilled = is.drilled; refused = refused_is })

  refused_so : (command : Command) (refusal : Refusal) → s ≡ status_of refusal → IsRefusedAs command p.folder_before p.folder_after refusal → (s ≡ NoMemory) ⊎ IsRefusedSo recorded p s command
  refused_so (commands.Check check) refusal status is = by_refusal (scope_of check.window) None refusal status is
  refused_so (commands.Ask ask) refusal status is = by_refusal (scope_of ask.published.window) ask.published.update refusal status is
  refused_so (commands.Replay replay) refusal status is = course_refused recorded replay p.folder_before p.folder_after at.tells at.no_folder_fault s refusal is status
  refused_so (commands.Serve serve) refusal status is = inr tt
  refused_so (commands.Plan plan) refusal status is = inr tt
  refused_so (commands.Relay relay) refusal status is = inr tt
  refused_so (commands.Drill drill) refusal status is = drill_refused drill refusal status is.1
  refused_so (commands.Fewest fewest) refusal status is = by_refusal (scope_of fewest.published.window) fewest.published.update refusal status is
  refused_so (commands.Arrive arrive) refusal status is = by_refusal (scope_of arrive.published.window) arrive.published.update refusal status is

  by_command : (command : Command) → SaysCommand p.words command → (s ≡ NoMemory) ⊎ IsRefusedSo recorded p s command → (s ≡ NoMemory) ⊎ Ended seen recorded p s
  by_command command says (inl memory) = inl memory
  by_command command says (inr by) = inr (inr (inr (record { command = command; says = says; by = by })))

  ended : AreInProcess p.words → IsRight seen p s → (s ≡ NoMemory) ⊎ Ended seen recorded p s
  ended home (inl x) = by x.end where
    by : IsBlockEnd x.block p.sink_before p.sink_after s → (s ≡ NoMemory) ⊎ Ended seen recorded p s
    by (inl whole) = inr (inl (record { block = x.block; right = x.right; status_is = whole.status_is }))
    by (inr (inl cut)) = absurd (at.no_sink_fault cut.rose)
    by (inr (inr cut)) = inl cut.status_is
  ended home (inr (inr x)) = absurd (home (commands.Serve x.right.serve) x.right.says)
  ended home (inr (inl x)) = by x.end where
    by : IsRefusalEnd x.refusal p.sink_before p.sink_after s → (s ≡ NoMemory) ⊎ Ended seen recorded p s
    by (inr lacks) = inl lacks.status_is
    by (inl said) = cause x.right where
      cause : IsRightRefusal p.words p.folder_before p.folder_after x.refusal → (s ≡ NoMemory) ⊎ Ended seen recorded p s
      cause (inl usage) = inr (inr (inl (record { says_none = usage.says_none; status_is = said.status_is ∙ ap status_of usage.is })))
      cause (inr (inl first)) = inl (said.status_is ∙ ap status_of first.is)
      cause (inr (inr is)) = by_command is.command is.says (refused_so is.command x.refusal said.status_is is.refused)

-- outcomes that say the same have one status, where no exchange failed
one_client_status : (client : ℕ) (o p : Outcome) → SayTheSame o p → IsNoFault o → failed_status_of client o ≡ failed_status_of client p
one_client_status client (outcomes.Found a) (outcomes.Found b) one fine = refl
one_client_status client (outcomes.Found a) outcomes.NoJourney one fine = absurd one
one_client_status client (outcomes.Found a) (outcomes.Refused g) one fine = absurd one
one_client_status client (outcomes.Found a) (outcomes.LinkFault m n) one fine = absurd one
one_client_status client (outcomes.Found a) (outcomes.PeerWrong r g) one fine = absurd one
one_client_status client outcomes.NoJourney (outcomes.Found b) one fine = absurd one
one_client_status client outcomes.NoJourney outcomes.NoJourney one fine = refl
one_client_status client outcomes.NoJourney (outcomes.Refused g) one fine = absurd one
one_client_status client outcomes.NoJourney (outcomes.LinkFault m n) one fine = absurd one
one_client_status client outcomes.NoJourney (outcomes.PeerWrong r g) one fine = absurd one
one_client_status client (outcomes.Refused f) (outcomes.Found b) one fine = absurd one
one_client_status client (outcomes.Refused f) outcomes.NoJourney one fine = absurd one
one_client_status client (outcomes.Refused f) (outcomes.Refused g) one fine = ap (λ (c : QueryFault). failed_status_of client (outcomes.Refused c)) one
one_client_status client (outcomes.Refused f) (outcomes.LinkFault m n) one fine = absurd one
one_client_status client (outcomes.Refused f) (outcomes.PeerWrong r g) one fine = absurd one
one_client_status client (outcomes.LinkFault k l) p one fine = absurd fine
one_client_status client (outcomes.PeerWrong r f) p one fine = absurd fine

-- and so have those of questions for the latest departure
one_latest_status : (client : ℕ) (o p : Outcome) → SayOneLatest o p → IsNoFault o → failed_status_of client o ≡ failed_status_of client p
one_latest_status client (outcomes.Found a) (outcomes.Found b) one fine = refl
one_latest_status client (outcomes.Found a) outcomes.NoJourney one fine = absurd one
one_latest_status client (outcomes.Found a) (outcomes.Refused g) one fine = absurd one
one_latest_status client (outcomes.Found a) (outcomes.LinkFault m n) one fine = absurd one
one_latest_status client (outcomes.Found a) (outcomes.PeerWrong r g) one fine = absurd one
one_latest_status client outcomes.NoJourney (outcomes.Found b) one fine = absurd one
one_latest_status client outcomes.NoJourney outcomes.NoJourney one fine = refl
one_latest_status client outcomes.NoJourney (outcomes.Refused g) one fine = absurd one
one_latest_status client outcomes.NoJourney (outcomes.LinkFault m n) one fine = absurd one
one_latest_status client outcomes.NoJourney (outcomes.PeerWrong r g) one fine = absurd one
one_latest_status client (outcomes.Refused f) (outcomes.Found b) one fine = absurd one
one_latest_status client (outcomes.Refused f) outcomes.NoJourney one fine = absurd one
one_latest_status client (outcomes.Refused f) (outcomes.Refused g) one fine = ap (λ (c : QueryFault). failed_status_of client (outcomes.Refused c)) one
one_latest_status client (outcomes.Refused f) (outcomes.LinkFault m n) one fine = absurd one
one_latest_status client (outcomes.Refused f) (outcomes.PeerWrong r g) one fine = absurd one
one_latest_status client (outcomes.LinkFault k l) p one fine = absurd fine
one_latest_status client (outcomes.PeerWrong r f) p one fine = absurd fine

-- outcomes of clients that print one output have one status
one_asking_status : (asking : Asking) (x y : List ℕ) (d e : ClientEnd) → PrintOneSo asking x y d e → IsNoFault d.outcome → failed_status_of 1 d.outcome ≡ failed_status_of 1 e.outcome
one_asking_status (askings.Earliest query cache) x y d e one fine = one_client_status 1 d.outcome e.outcome one.one.outcome fine
one_asking_status (askings.Fewest query) x y d e one fine = one_client_status 1 d.outcome e.outcome one.client.one.outcome fine
one_asking_status (askings.Latest query) x y d e one fine = one_latest_status 1 d.outcome e.outcome one.one.outcome fine

-- clients whose ends are one have one status
one_clients_status : (k : ℕ) (a b : List ClientEnd) → AllZip AreOneEnd a b → AreNoFaults a → client_status_of k a ≡ client_status_of k b
one_clients_status k [] [] one fine = refl
one_clients_status k [] (e ∷ b) one fine = absurd one
one_clients_status k (d ∷ a) [] one fine = absurd one
one_clients_status k (d ∷ a) (e ∷ b) one fine =
    ap₂ (λ (first : Option Status) (rest : Status). unwrap_or first rest) (one_client_status k d.outcome e.outcome one.0.outcome fine.0) (one_clients_status (k + 1) a b one.1 fine.1)

module _ {X Y : Type 0} (seen : X → LinkSeen) (saw : Y → LinkSeen) (one_command : OneCommand) (one_timetable : OneTimetable) (one_end : OneEnd) (loads_recorded : LoadsRecorded)
    (one_outcome : OneOutcome) (one_output : OneOutput seen saw) (one_fewest_output : OneFewestOutput seen saw) (one_latest_output : OneLatestOutput seen saw) (one_script : OneScript) (one_fault : OneFault) (never_both : NeverBoth) (one_course : OneCourse) (p : Past X) (q : Past Y)
    (recorded : List File) (words : p.words ≡ q.words) (home : AreInProcess p.words) (at : IsUnhindered seen p recorded) (to : IsUnhindered saw q recorded) (s t : Status) where
  same_command : (a b : Command) → SaysCommand p.words a → SaysCommand q.words b → b ≡ a
  same_command a b x y = one_command p.words b a (subst (λ w. SaysCommand w b) (sym words) y) x

  -- the ends of the loading of one feed
  one_load : (scope : Scope) (x y : Result Timetable LoadFault) (new later : FolderSeen) → IsOfFiles x → IsOfFiles y → LoadsSo scope p.folder_before new x
      → LoadsSo scope q.folder_before later y → AreSameEnds x y
  one_load scope x y new later f g a b = one_end recorded scope p.folder_before new q.folder_before later x y at.tells to.tells f g a b

  -- what a block was loaded from
  record Loaded {Z : Type 0} (scope : Scope) (update : Option (List ℕ)) (r : Past Z) : Type 0 where
    between : FolderSeen
    made : Timetable
    loads : Loads scope r.folder_before between made
    heard : IsHeardBy recorded update

  -- an event sequence that was played over the recorded files
  record PlayedRecorded (replay : Replay) : Type 0 where
    made : Timetable
    all : List Event
    course : IsRecordedCourse recorded replay made all
    loaded : HasLoaded recorded replay

  -- that of a drill was played over the generated files
  record PlayedDrill (drill : Drill) : Type 0 where
    replay : Replay
    drilled : IsDrilled drill replay
    made : Timetable
    all : List Event
    course : IsRecordedCourse (drill_files drill.seed drill.days) replay made all
    loaded : HasLoaded (drill_files drill.seed drill.days) replay

  abbrev LoadedSo : {Z : Type 0} → Past Z → Command → Type 0
  LoadedSo r (commands.Check check) = Loaded (scope_of check.window) None r
  LoadedSo r (commands.Ask ask) = Loaded (scope_of ask.published.window) ask.published.update r
  LoadedSo r (commands.Replay replay) = PlayedRecorded replay
  LoadedSo r (commands.Serve serve) = Unit {0}
  LoadedSo r (commands.Plan plan) = Unit {0}
  LoadedSo r (commands.Relay relay) = Unit {0}
  LoadedSo r (commands.Drill drill) = PlayedDrill drill
  LoadedSo r (commands.Fewest fewest) = Loaded (scope_of fewest.published.window) fewest.published.update r
  LoadedSo r (commands.Arrive arrive) = Loaded (scope_of arrive.published.window) arrive.published.update r

  -- that of a question
  loaded_question : {Z : Type 0} (look : Z → LinkSeen) (r : Past Z) (published : Published) (asking : Asking) (block : Block)
      → IsQuestionBlock published asking r.folder_before r.folder_after (look r.link_before) (look r.link_after) block → r.folder_before.files ≡ Some recorded → Loaded (scope_of published.window) published.update r
  loaded_question look r published asking block prints tells =
      let first = first_heard loads_recorded recorded published asking r.folder_before r.folder_after (look r.link_before) (look r.link_after) block prints tells in
      record {
        between = prints.inputs.between;
        made = prints.made;
        loads = prints.inputs.loaded;
        heard = record {
          file = prints.file;
          is_recorded = inputs_recorded recorded (scope_of published.window) published.update r.folder_before r.folder_after prints.made prints.file tells prints.inputs;
          old = store_of prints.made published.publishing.base_moment;
          new = first.store;
          line = first.line;
          behind = first.behind;
        };
      }

  loaded : {Z : Type 0} (look : Z → LinkSeen) (r : Past Z) (block : Block) → r.folder_before.files ≡ Some recorded → (command : Command)
      → Prints command r.folder_before r.folder_after (look r.link_before) (look r.link_after) block → LoadedSo r command
  loaded look r block tells (commands.Replay replay) prints = record {
    made = prints.made;
    all = prints.all;
    course = course_recorded loads_recorded recorded replay r.folder_before r.folder_after prints.made prints.all tells prints.inputs;
    loaded = record {
      old = prints.inputs.has.between;
      new = prints.inputs.between;
      tells = still_recorded recorded r.folder_before prints.inputs.has.between tells prints.inputs.has.script.kept;
      made = prints.inputs.has.made;
      loads = prints.inputs.has.loaded;
    };
  }
  loaded look r block tells (commands.Serve serve) prints = tt
  loaded look r block tells (commands.Plan plan) prints = tt
  loaded look r block tells (commands.Relay relay) prints = tt
  loaded look r block tells (commands.Drill drill) prints =
      let x = prints.1 in
      let files = drill_files drill.seed drill.days in
      let inputs = x.played.inputs in
      record {
        replay = x.replay;
        drilled = x.drilled;
        made = x.played.made;
        all = x.played.all;
        course = course_recorded loads_recorded files x.replay (sure_seen (drill_folder drill)) (sure_seen x.read) x.played.made x.played.all refl inputs;
        loaded = record {
          old = inputs.has.between;
          new = inputs.between;
          tells = still_recorded files (sure_seen (drill_folder drill)) inputs.has.between refl inputs.has.script.kept;
          made = inputs.has.made;
          loads = inputs.has.loaded;
        };
      }
  loaded look r block tells (commands.Fewest fewest) prints = loaded_question look r fewest.published (askings.Fewest fewest.query) block prints tells
  loaded look r block tells (commands.Arrive arrive) prints = loaded_question look r arrive.published (askings.Latest arrive.query) block prints tells
  loaded look r block tells (commands.Check check) prints =
      record { between = r.folder_after; made = prints.made; loads = prints.loaded; heard = heard_nothing recorded (record { runs = prints.made.runs; stops = prints.made.doc.stops; zone = prints.made.zone; base = 0; history = [] }) }
  loaded look r block tells (commands.Ask ask) prints = loaded_question look r ask.published (askings.Earliest ask.query ask.cache) block prints tells

  -- a recorded message that was heard is not wrong
  heard_or_wrong : (name : List ℕ) (cause : Option AdmitFault) → IsHeardBy recorded (Some name) → IsRecordedCause recorded name cause → ⊥
  heard_or_wrong name None is none = there is.file is.is_recorded where
    there : (file : Option File) → IsRecordedFile recorded (Some name) file → ⊥
    there None recorded_is = recorded_is
    there (Some file) recorded_is = let e = sym none ∙ recorded_is.1 in cc
  heard_or_wrong name (Some found) is (bytes, same, wrong, other) = heard_fine one_outcome recorded name bytes found is same wrong other

  -- questions that print one client have one status
  one_question : (published : Published) (asking : Asking) (x y : Block) (a : IsQuestionBlock published asking p.folder_before p.folder_after (seen p.link_before) (seen p.link_after) x)
      (b : IsQuestionBlock published asking q.folder_before q.folder_after (saw q.link_before) (saw q.link_after) y)
      → HasFairLink recorded published (seen p.link_before).clear (seen p.link_before).faults (seen p.link_after).faults
      → HasFairLink recorded published (saw q.link_before).clear (saw q.link_before).faults (saw q.link_after).faults
      → client_status_of 1 x.ends.items ≡ client_status_of 1 y.ends.items
  one_question published asking x y a b fair other_fair =
      let one = one_client seen saw one_timetable loads_recorded one_output one_fewest_output one_latest_output recorded published asking p.folder_before p.folder_after q.folder_before q.folder_after p.link_before
      p.link_after q.link_before q.link_after x y a b at.tells to.tells fair other_fair in
      let fine = subst AreNoFaults a.client (no_fault loads_recorded recorded published asking p.folder_before p.folder_after (seen p.link_before) (seen p.link_after) x a at.tells fair) in
      ap (client_status_of 1) a.client
      ∙ ap (λ (f : Option Status). unwrap_or f Done) (one_asking_status asking x.text.items y.text.items a.end b.end one fine.0)
      ∙ sym (ap (client_status_of 1) b.client)

  -- blocks that were printed whole
  both_whole : Whole seen p s → Whole saw q t → s ≡ t
  both_whole x y = x.status_is ∙ by x.right.command x.right.says x.right.prints other ∙ sym y.status_is where
    other : Prints x.right.command q.folder_before q.folder_after (saw q.link_before) (saw q.link_after) y.block
    other = subst (λ (c : Command). Prints c q.folder_before q.folder_after (saw q.link_before) (saw q.link_after) y.block) (same_command x.right.command y.right.command x.right.says y.right.says) y.right.prints

    by : (command : Command) → SaysCommand p.words command → Prints command p.folder_before p.folder_after (seen p.link_before) (seen p.link_after) x.block
        → Prints command q.folder_before q.folder_after (saw q.link_before) (saw q.link_after) y.block → client_status_of 1 x.block.ends.items ≡ client_status_of 1 y.block.ends.items
    by (commands.Check check) says a b = ap (client_status_of 1) (a.no_client ∙ sym b.no_client)
    by (commands.Serve serve) says a b = absurd a
    by (commands.Plan plan) says a b = absurd (home (commands.Plan plan) says)
    by (commands.Relay relay) says a b = absurd (home (commands.Relay relay) says)
    by (commands.Drill drill) says a b =
        let x' = a.1 in
        let y' = b.1 in
        let fair = at.fair_drill drill says x'.replay x'.drilled in
        let other_fair = to.fair_drill drill (subst (λ w. SaysCommand w (commands.Drill drill)) words says) y'.replay y'.drilled in
        let alike = summed_alike one_command one_timetable one_script one_course one_outcome drill _ _ _ _ (summed_out loads_recorded drill _ _ _ x' fair) (summed_out loads_recorded drill _ _ _ y' other_fair) in
        one_clients_status 1 x.block.ends.items y.block.ends.items alike.one_each
        (course_fine loads_recorded (drill_files drill.seed drill.days) x'.replay (sure_seen (drill_folder drill)) (sure_seen x'.read) (seen p.link_before) (seen p.link_after) x'.text x.block.ends.items x'.played refl fair)
    by (commands.Replay replay) says a b =
        let fair = at.fair_course replay says in
        let one = one_replay loads_recorded one_timetable one_script one_course recorded replay p.folder_before p.folder_after q.folder_before q.folder_after (seen p.link_before) (seen p.link_after)
        (saw q.link_before) (saw q.link_after) x.block y.block a b at.tells to.tells fair (to.fair_course replay (subst (λ w. SaysCommand w (commands.Replay replay)) words says)) in
        one_clients_status 1 x.block.ends.items y.block.ends.items one.one_each
        (course_fine loads_recorded recorded replay p.folder_before p.folder_after (seen p.link_before) (seen p.link_after) x.block.text.items x.block.ends.items a at.tells fair)
    by (commands.Ask ask) says a b =
        one_question ask.published (askings.Earliest ask.query ask.cache) x.block y.block a b (at.fair ask says) (to.fair ask (subst (λ w. SaysCommand w (commands.Ask ask)) words says))
    by (commands.Fewest fewest) says a b =
        one_question fewest.published (askings.Fewest fewest.query) x.block y.block a b (at.fair_fewest fewest says) (to.fair_fewest fewest (subst (λ w. SaysCommand w (commands.Fewest fewest)) words says))
    by (commands.Arrive arrive) says a b =
        one_question arrive.published (askings.Latest arrive.query) x.block y.block a b (at.fair_arrive arrive says) (to.fair_arrive arrive (subst (λ w. SaysCommand w (commands.Arrive arrive)) words says))

  -- a block and a refusal by the files are no ends of one command
  clash_loaded : {Z W : Type 0} (r : Past Z) (u : Past W) (v : Status) → r.folder_before.files ≡ Some recorded → u.folder_before.files ≡ Some recorded → (scope : Scope) (update : Option (List ℕ))
      → Loaded scope update r → Fails scope update recorded u v → ⊥
  clash_loaded r u v tells tell scope update x (inl y) =
      one_end recorded scope r.folder_before x.between u.folder_before u.folder_after (Ok x.made) (Err y.found) tells tell tt y.of_files x.loads y.loads
  clash_loaded r u v tells tell scope update x (inr y) = heard_or_wrong y.name y.cause (subst (IsHeardBy recorded) y.named x.heard) y.is

  -- the replay of a drill is one
  same_replay : (drill : Drill) (a b : Replay) → IsDrilled drill a → IsDrilled drill b → b ≡ a
  same_replay drill a b x y =
      let other : commands.Replay b ≡ commands.Replay a = one_command (codes "replay" ∷ drilled_words drill.days) (commands.Replay b) (commands.Replay a) y x in
      cc

  clash : {Z W : Type 0} (r : Past Z) (u : Past W) (v : Status) → r.folder_before.files ≡ Some recorded → u.folder_before.files ≡ Some recorded → (command : Command) → IsInProcess command
      → LoadedSo r command → IsRefusedSo recorded u v command → ⊥
  clash r u v tells tell (commands.Check check) here x y = clash_loaded r u v tells tell (scope_of check.window) None x y
  clash r u v tells tell (commands.Ask ask) here x y = clash_loaded r u v tells tell (scope_of ask.published.window) ask.published.update x y
  clash r u v tells tell (commands.Replay replay) here x y =
      not_refused one_outcome one_end one_script one_fault never_both recorded replay x.made x.all v x.course x.loaded y
  clash r u v tells tell (commands.Serve serve) here x y = here
  clash r u v tells tell (commands.Plan plan) here x y = here
  clash r u v tells tell (commands.Relay relay) here x y = here
  clash r u v tells tell (commands.Drill drill) here x y =
      let files = drill_files drill.seed drill.days in
      not_refused one_outcome one_end one_script one_fault never_both files x.replay x.made x.all v x.course x.loaded
      (subst (λ (r : Replay). IsCourseRefused files r v) (same_replay drill x.replay y.replay x.drilled y.drilled) y.refused)
  clash r u v tells tell (commands.Fewest fewest) here x y = clash_loaded r u v tells tell (scope_of fewest.published.window) fewest.published.update x y
  clash r u v tells tell (commands.Arrive arrive) here x y = clash_loaded r u v tells tell (scope_of arrive.published.window) arrive.published.update x y

  whole_refused : (x : Whole seen p s) → IsRefusedByFiles recorded q t → ⊥
  whole_refused x y =
      clash p q t at.tells to.tells x.right.command (home x.right.command x.right.says) (loaded seen p x.block at.tells x.right.command x.right.prints)
      (subst (IsRefusedSo recorded q t) (same_command x.right.command y.command x.right.says y.says) y.by)

  refused_whole : IsRefusedByFiles recorded p s → Whole saw q t → ⊥
  refused_whole x y =
      clash q p s to.tells at.tells x.command (home x.command x.says)
      (subst (λ (c : Command). LoadedSo q c) (same_command x.command y.right.command x.says y.right.says) (loaded saw q y.block to.tells y.right.command y.right.prints)) x.by

  -- refusals by the files have one status
  both_fail : (scope : Scope) (update : Option (List ℕ)) → Fails scope update recorded p s → Fails scope update recorded q t → s ≡ t
  both_fail scope update (inl x) (inl y) =
      x.status_is
      ∙ ap status_in (one_load scope (Err x.found) (Err y.found) p.folder_after q.folder_after x.of_files y.of_files x.loads y.loads)
      ∙ sym y.status_is
  both_fail scope update (inl x) (inr y) =
      absurd (one_end recorded scope p.folder_before p.folder_after q.folder_before y.between (Err x.found) (Ok y.made) at.tells to.tells x.of_files tt x.loads y.loaded)
  both_fail scope update (inr x) (inl y) =
      absurd (one_end recorded scope p.folder_before x.between q.folder_before q.folder_after (Ok x.made) (Err y.found) at.tells to.tells tt y.of_files x.loaded y.loads)
  both_fail scope update (inr x) (inr y) =
      let name : x.name ≡ y.name = let e : Some x.name ≡ Some y.name = sym x.named ∙ y.named in cc in
      let cause = one_wrong one_outcome recorded y.name (store_of x.made 0) x.cause y.cause (subst (λ n. IsRecordedCause recorded n x.cause) name x.is) y.is in
      x.status_is ∙ ap (λ n. status_by 0 n x.cause) name ∙ ap (status_by 0 y.name) cause ∙ sym y.status_is

  both_refused : (command : Command) → IsInProcess command → IsRefusedSo recorded p s command → IsRefusedSo recorded q t command → s ≡ t
  both_refused (commands.Check check) here x y = both_fail (scope_of check.window) None x y
  both_refused (commands.Ask ask) here x y = both_fail (scope_of ask.published.window) ask.published.update x y
  both_refused (commands.Replay replay) here x y = one_course_refusal one_outcome one_end one_script one_fault never_both recorded replay s t x y
  both_refused (commands.Serve serve) here x y = absurd here
  both_refused (commands.Plan plan) here x y = absurd here
  both_refused (commands.Relay relay) here x y = absurd here
  both_refused (commands.Drill drill) here x y =
      let files = drill_files drill.seed drill.days in
      one_course_refusal one_outcome one_end one_script one_fault never_both files x.replay s t x.refused
      (subst (λ (r : Replay). IsCourseRefused files r t) (same_replay drill x.replay y.replay x.drilled y.drilled) y.refused)
  both_refused (commands.Fewest fewest) here x y = both_fail (scope_of fewest.published.window) fewest.published.update x y
  both_refused (commands.Arrive arrive) here x y = both_fail (scope_of arrive.published.window) arrive.published.update x y

  one_ended : Ended seen recorded p s → Ended saw recorded q t → s ≡ t
  one_ended (inl x) (inl y) = both_whole x y
  one_ended (inl x) (inr (inl y)) = absurd (y.says_none x.right.command (subst (λ w. SaysCommand w x.right.command) words x.right.says))
  one_ended (inl x) (inr (inr y)) = absurd (whole_refused x y)
  one_ended (inr (inl x)) (inl y) = absurd (x.says_none y.right.command (subst (λ w. SaysCommand w y.right.command) (sym words) y.right.says))
  one_ended (inr (inl x)) (inr (inl y)) = x.status_is ∙ sym y.status_is
  one_ended (inr (inl x)) (inr (inr y)) = absurd (x.says_none y.command (subst (λ w. SaysCommand w y.command) (sym words) y.says))
  one_ended (inr (inr x)) (inl y) = absurd (refused_whole x y)
  one_ended (inr (inr x)) (inr (inl y)) = absurd (y.says_none x.command (subst (λ w. SaysCommand w x.command) words x.says))
  one_ended (inr (inr x)) (inr (inr y)) =
      both_refused x.command (home x.command x.says) x.by (subst (IsRefusedSo recorded q t) (same_command x.command y.command x.says y.says) y.by)

  one : IsRight seen p s → IsRight saw q t → (s ≡ t) ⊎ ((s ≡ NoMemory) ⊎ (t ≡ NoMemory))
  one x y = by (ended seen p recorded at s home x) (ended saw q recorded to t (subst AreInProcess words home) y) where
    by : (s ≡ NoMemory) ⊎ Ended seen recorded p s → (t ≡ NoMemory) ⊎ Ended saw recorded q t → (s ≡ t) ⊎ ((s ≡ NoMemory) ⊎ (t ≡ NoMemory))
    by (inl e) other = inr (inl e)
    by (inr a) (inl e) = inr (inr e)
    by (inr a) (inr b) = inl (one_ended a b)

pub one_status : {X Y : Type 0} (seen : X → LinkSeen) (saw : Y → LinkSeen) → OneCommand → OneTimetable → OneEnd → LoadsRecorded → OneOutcome → OneOutput seen saw → OneFewestOutput seen saw → OneLatestOutput seen saw → OneScript → OneFault → NeverBoth
    → OneCourse → OneStatus seen saw
one_status seen saw one_command one_timetable one_end loads_recorded one_outcome one_output one_fewest_output one_latest_output one_script one_fault never_both one_course p q recorded words home at to s t x y =
    one seen saw one_command one_timetable one_end loads_recorded one_outcome one_output one_fewest_output one_latest_output one_script one_fault never_both one_course p q recorded words home at to s t x y

-- a run that is done was no refusal
pub done_is_printed : {X : Type 0} (seen : X → LinkSeen) → DoneIsPrinted seen
done_is_printed seen p (inl x) = inl x
done_is_printed seen p (inr (inr x)) = inr x
done_is_printed seen p (inr (inl x)) = absurd (by x.end) where
  never : (refusal : Refusal) → Done ≡ status_of refusal → ⊥
  never refused.Usage e = cc
  never (refused.Load (fault.Broken rule file row)) e = cc
  never (refused.Load (fault.TooLarge kind count)) e = cc
  never (refused.Load (fault.Folder before after)) e = cc
  never (refused.Load fault.NoMemory) e = cc
  never (refused.Script row) e = cc
  never (refused.Folder before after) e = cc
  never (refused.LongUpdate count) e = cc
  never (refused.BrokenUpdate name found) e = cc

  by : IsRefusalEnd x.refusal p.sink_before p.sink_after Done → ⊥
  by (inl said) = never x.refusal said.status_is
  by (inr lacks) = let e : Done ≡ NoMemory = lacks.status_is in cc

-- a feed that was loaded has a timetable by the recorded files
has_timetable : LoadsRecorded → (recorded : List File) (scope : Scope) (old between : FolderSeen) (made : Timetable) → old.files ≡ Some recorded → Loads scope old between made → HasTimetable recorded scope
has_timetable loads_recorded recorded scope old between made tells loaded = record { made = made; sound = loads_recorded recorded scope old between made tells loaded }

pub done_is_clear : {X : Type 0} (seen : X → LinkSeen) → LoadsRecorded → DoneIsClear seen
done_is_clear seen loads_recorded p recorded at right = by (done_is_printed seen p right) where
  of : (command : Command) (block : Block) → SaysCommand p.words command → Prints command p.folder_before p.folder_after (seen p.link_before) (seen p.link_after) block → IsClear seen p
  of (commands.Check check) block says prints = record {
    command = commands.Check check;
    says = says;
    recorded = recorded;
    unhindered = at;
    fed = has_timetable loads_recorded recorded (scope_of check.window) p.folder_before p.folder_after prints.made at.tells prints.loaded;
    heard = tt;
  }
  of (commands.Replay replay) block says prints =
      let course = course_recorded loads_recorded recorded replay p.folder_before p.folder_after prints.made prints.all at.tells prints.inputs in
      record {
        command = commands.Replay replay;
        says = says;
        recorded = recorded;
        unhindered = at;
        fed = record { made = prints.made; sound = course.sound };
        heard = (prints.made, prints.all, course);
      }
  of (commands.Ask ask) block says prints = record {
    command = commands.Ask ask;
    says = says;
    recorded = recorded;
    unhindered = at;
    fed = has_timetable loads_recorded recorded (scope_of ask.published.window) p.folder_before prints.inputs.between prints.made at.tells prints.inputs.loaded;
    heard = (
      side_with prints.made ask.published.publishing prints.asked.store,
      side_asked loads_recorded recorded ask.published (askings.Earliest ask.query ask.cache) p.folder_before p.folder_after (seen p.link_before) (seen p.link_after) block prints at.tells,
    );
  }
  of (commands.Fewest fewest) block says prints = record {
    command = commands.Fewest fewest;
    says = says;
    recorded = recorded;
    unhindered = at;
    fed = has_timetable loads_recorded recorded (scope_of fewest.published.window) p.folder_before prints.inputs.between prints.made at.tells prints.inputs.loaded;
    heard = (
      side_with prints.made fewest.published.publishing prints.asked.asked.store,
      side_asked loads_recorded recorded fewest.published (askings.Fewest fewest.query) p.folder_before p.folder_after (seen p.link_before) (seen p.link_after) block prints at.tells,
    );
  }
  of (commands.Arrive arrive) block says prints = record {
    command = commands.Arrive arrive;
    says = says;
    recorded = recorded;
    unhindered = at;
    fed = has_timetable loads_recorded recorded (scope_of arrive.published.window) p.folder_before prints.inputs.between prints.made at.tells prints.inputs.loaded;
    heard = (
      side_with prints.made arrive.published.publishing prints.asked.store,
      side_asked loads_recorded recorded arrive.published (askings.Latest arrive.query) p.folder_before p.folder_after (seen p.link_before) (seen p.link_after) block prints at.tells,
    );
  }
  of (commands.Serve serve) block says prints = absurd prints
  of (commands.Plan plan) block says prints = record {
    command = commands.Plan plan;
    says = says;
    recorded = recorded;
    unhindered = at;
    fed = tt;
    heard = (prints.all, asks_recorded recorded plan.asks p.folder_before p.folder_after prints.all at.tells prints.inputs);
  }
  of (commands.Relay relay) block says prints = record {
    command = commands.Relay relay;
    says = says;
    recorded = recorded;
    unhindered = at;
    fed = tt;
    heard = (prints.all, asks_recorded recorded relay.asks p.folder_before p.folder_after prints.all at.tells prints.inputs);
  }
  of (commands.Drill drill) block says prints =
      let x = prints.1 in
      record {
        command = commands.Drill drill;
        says = says;
        recorded = recorded;
        unhindered = at;
        fed = tt;
        heard = (
          x.replay,
          x.played.made,
          x.played.all,
          x.drilled,
          course_recorded loads_recorded (drill_files drill.seed drill.days) x.replay (sure_seen (drill_folder drill)) (sure_seen x.read) x.played.made x.played.all refl x.played.inputs,
        );
      }

  by : HasPrinted seen p Done ⊎ HasServed p Done → IsClear seen p
  by (inl x) = of x.right.command x.block x.right.says x.right.prints
  by (inr x) =
      let is = x.right.is in
      record {
        command = commands.Serve x.right.serve;
        says = x.right.says;
        recorded = recorded;
        unhindered = at;
        fed = has_timetable loads_recorded recorded (scope_of x.right.serve.published.window) p.folder_before is.inputs.between is.made at.tells is.inputs.loaded;
        heard = (
          side_for is.made x.right.serve.published.publishing is.publishes.store x.right.serve.accept_updates,
          side_served loads_recorded recorded x.right.serve p.folder_before p.folder_after x.server at.tells is,
        );
      }
