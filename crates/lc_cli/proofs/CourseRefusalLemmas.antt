-- The recorded files refuse an event sequence for one cause.
use Rattle.std.proofs.Common.{◌≡◌, ◌∙◌, ◌⊎◌, ◌<◌, ◌+◌, ◌++◌, ◌∷◌, ℕ, true, inl, inr, List, [], None, Some, Option, Ok, Err, ap, arith, length, refl, subst, sym}
use Rattle.cli_ask.specs.Admission.{IsIgnored}
use Rattle.cli_ask.specs.Publishing.{store_of}
use Rattle.cli_replay.specs.Inputs.Script.{IsReplayRefused, StopsAtRecord}
use Rattle.cli_replay.specs.declared.inputs.refusal.Refusal.{Refusal}
use Rattle.cli_replay.specs.declared.inputs.refusal.Refusal.TheVariants as refused
use Rattle.cli_words.specs.declared.command.Replay.{Replay}
use Rattle.gtfs_tables.specs.declared.what.What.TheVariants as what
use Rattle.lc_io.specs.Counts.{Rose}
use Rattle.lc_io.specs.Folder.{FolderSeen, bytes_named}
use Rattle.lc_io.specs.declared.file.File.{File}
use Rattle.cli_replay.specs.declared.replay_laws.event.Event.{Event}
use Rattle.cli_replay.specs.declared.replay_laws.message.Message.{Message}
use Rattle.journey_text.specs.ScriptLaws.{NeverBoth, OneFault, OneScript}
use Rattle.journey_text.specs.ScriptReading.{HasFault}
use Rattle.journey_text.specs.declared.script_fault.ScriptFault.TheVariants.{Wrong}
use Rattle.journey_text.specs.declared.script.Record.{Record}
use Rattle.journey_text.specs.declared.script.Record.TheVariants as records
use Rattle.timetable.specs.Laws.{IsOfFiles, OneEnd}
use Rattle.timetable.specs.Loading.{Loads, LoadsSo}
use Rattle.timetable.specs.declared.fault.LoadFault.{LoadFault}
use Rattle.timetable.specs.declared.fault.LoadFault.TheVariants as fault
use Rattle.timetable.specs.declared.timetable.Timetable.{Timetable}
use Rattle.trip_updates.specs.Faults.{fault_of}
use Rattle.version_store.specs.Admission.{IsRefused}
use Rattle.version_store.specs.Laws.{OneOutcome}
use Rattle.version_store.specs.Store.{Stored}
use Rattle.version_store.specs.declared.admission.AdmitFault.{AdmitFault}
use Rattle.version_store.specs.declared.admission.AdmitFault.TheVariants as faults
use Rattle.lc_cli.specs.Clear.{AreRecordedEvents, IsRecordedCourse, IsRecordedEvent, IsRecordedScript}
use Rattle.lc_cli.specs.Scope.{scope_of}
use Rattle.lc_cli.specs.Refusal.{status_of}
use Rattle.lc_cli.specs.declared.status.Status.{Status}
use Rattle.lc_cli.specs.declared.status.Status.TheVariants.{Done, FeedBroken, FolderFault, NoMemory, ScriptWrong, TooLarge, UpdateBroken}
use Rattle.lc_cli.proofs.InputsLemmas.{absent_recorded, bytes_recorded, still_recorded}
use Rattle.lc_cli.proofs.OneReplayLemmas.{one_recorded_script}
use Rattle.lc_cli.proofs.ReplayLemmas.{recorded_at, recorded_events, recorded_message}

-- the status of a fault of loading
abbrev pub status_in : LoadFault → Status
status_in (fault.Broken rule file row) = FeedBroken rule file row
status_in (fault.TooLarge kind count) = TooLarge kind count
status_in (fault.Folder before after) = FolderFault before after
status_in fault.NoMemory = NoMemory

-- what is wrong with the recorded file of a message: it is absent, or refused for this cause
abbrev pub IsRecordedCause : List File → List ℕ → Option AdmitFault → Type 0
IsRecordedCause recorded name None = bytes_named recorded name ≡ None
IsRecordedCause recorded name (Some found) =
    (bytes : List ℕ) × (bytes_named recorded name ≡ Some bytes) × ((store : Stored) → IsRefused store bytes found) × (IsIgnored found → ⊥)

-- its status, where this row names it
abbrev pub status_by : ℕ → List ℕ → Option AdmitFault → Status
status_by row name None = ScriptWrong row
status_by row name (Some (faults.TooLong count)) = TooLarge what.Update count
status_by row name (Some (faults.Broken found)) = UpdateBroken name found
status_by row name (Some (faults.NotNewer newest)) = Done
status_by row name (Some (faults.Full messages bytes)) = Done
status_by row name (Some faults.NoMemory) = NoMemory

-- a recorded message is wrong for one cause
pub one_wrong : OneOutcome → (recorded : List File) (name : List ℕ) (store : Stored) (a b : Option AdmitFault) → IsRecordedCause recorded name a → IsRecordedCause recorded name b → a ≡ b
one_wrong one_outcome recorded name store None None x y = refl
one_wrong one_outcome recorded name store None (Some g) x (bytes, same, wrong, other) = let e = sym x ∙ same in absurd (cc)
one_wrong one_outcome recorded name store (Some f) None (bytes, same, wrong, other) y = let e = sym y ∙ same in absurd (cc)
one_wrong one_outcome recorded name store (Some f) (Some g) (bytes, same, wrong, other) (bytes', same', wrong', other') =
    let e : Some bytes ≡ Some bytes' = sym same ∙ same' in
    let bytes_are : bytes ≡ bytes' = cc in
    ap (λ (c : AdmitFault). Some c) (one_outcome.one_cause store bytes' f g (subst (λ b. IsRefused store b f) bytes_are (wrong store)) (wrong' store))

-- a recorded message that is one is not wrong
is_long_none : (message : Message) (bytes : List ℕ) → message.file.bytes ≡ bytes → 16_777_216 < length bytes → ⊥
is_long_none message bytes is long = let short = message.short in omega (arith, subst (λ b. 16_777_216 < length b) (sym is) long, short)

not_wrong : (recorded : List File) (name : List ℕ) (store : Stored) (message : Message) (cause : Option AdmitFault) → bytes_named recorded name ≡ Some message.file.bytes → IsRecordedCause recorded name cause → ⊥
not_wrong recorded name store message None is none = let e = sym none ∙ is in absurd (cc)
not_wrong recorded name store message (Some found) is (bytes, same, wrong, other) = by found (wrong store) other where
  bytes_are : message.file.bytes ≡ bytes
  bytes_are = let e : Some message.file.bytes ≡ Some bytes = sym is ∙ same in cc

  by : (found : AdmitFault) → IsRefused store bytes found → (IsIgnored found → ⊥) → ⊥
  by (faults.TooLong count) refused_is none = is_long_none message bytes bytes_are refused_is.0
  by (faults.Broken found) refused_is none =
      let whole = message.whole in
      let e : fault_of message.file.bytes ≡ Some found = ap fault_of bytes_are ∙ refused_is.first in
      absurd (cc)
  by (faults.NotNewer newest) refused_is none = none tt
  by (faults.Full messages kept) refused_is none = none tt
  by faults.NoMemory refused_is none = refused_is

-- the records of the script before this one are events by the recorded files, and this one names a message that is wrong
pub record StopsRecorded (recorded : List File) (script : List Record) (s : Status) : Type 0 where
  before : List Record
  said : Record
  behind : List Record
  parts : script ≡ before ++ said ∷ behind
  done : List Event
  are : AreRecordedEvents recorded before done
  name : List ℕ
  names : said ≡ records.Update name
  cause : Option AdmitFault
  is : IsRecordedCause recorded name cause
  status_is : s ≡ status_by (length before + 1) name cause

-- the script is recorded
pub record HasRecordedScript (recorded : List File) (replay : Replay) : Type 0 where
  script : List Record
  is_recorded : IsRecordedScript recorded replay.script true script

-- the script is recorded and wrong in this row
pub record IsWrongRecorded (recorded : List File) (replay : Replay) (s : Status) : Type 0 where
  bytes : List ℕ
  is_recorded : bytes_named recorded replay.script ≡ Some bytes
  row : ℕ
  wrong : HasFault bytes true (Wrong row)
  status_is : s ≡ ScriptWrong row

-- the script is recorded, and the loading of the timetable ended with this fault of the files
pub record FailsRecorded (recorded : List File) (replay : Replay) (s : Status) : Type 0 where
  has : HasRecordedScript recorded replay
  old : FolderSeen
  new : FolderSeen
  tells : old.files ≡ Some recorded
  found : LoadFault
  of_files : IsOfFiles (Err found)
  loads : LoadsSo (scope_of replay.window) old new (Err found)
  status_is : s ≡ status_in found

-- the script is recorded, and the timetable was loaded
pub record HasLoaded (recorded : List File) (replay : Replay) : Type 0 where
  pub old : FolderSeen
  pub new : FolderSeen
  pub tells : old.files ≡ Some recorded
  pub made : Timetable
  pub loads : Loads (scope_of replay.window) old new made

-- and then a record of the script is no event
pub record StopsBehind (recorded : List File) (replay : Replay) (s : Status) : Type 0 where
  has : HasRecordedScript recorded replay
  loaded : HasLoaded recorded replay
  stops : StopsRecorded recorded has.script s

-- the recorded files refuse the event sequence
abbrev pub IsCourseRefused : List File → Replay → Status → Type 0
IsCourseRefused recorded replay s =
    ((bytes_named recorded replay.script ≡ None) × (s ≡ ScriptWrong 0)) ⊎ IsWrongRecorded recorded replay s ⊎ FailsRecorded recorded replay s ⊎ StopsBehind recorded replay s

module _ (recorded : List File) (replay : Replay) (old new : FolderSeen) (tells : old.files ≡ Some recorded) (no_fault : Rose old.faults new.faults → ⊥) (s : Status) where
  -- the record at which the reading stopped names a message that is wrong for this cause
  stops_behind : (refusal : Refusal) (x : StopsAtRecord (scope_of replay.window) replay.script old new refusal) (name : List ℕ) → x.stops.said ≡ records.Update name → (cause : Option AdmitFault)
      → (x.stops.at.files ≡ Some recorded → IsRecordedCause recorded name cause) → s ≡ status_by (length x.stops.before + 1) name cause → IsCourseRefused recorded replay s
  stops_behind refusal x name names cause is status =
      let script = x.has.script in
      let first = still_recorded recorded old x.has.between tells script.kept in
      let second = still_recorded recorded x.has.between x.between first x.has.kept in
      inr (inr (inr (record {
        has = record {
          script = script.script;
          is_recorded = record {
            bytes = script.read.bytes;
            is_recorded = bytes_recorded recorded old x.has.between replay.script script.read.bytes tells script.read.read;
            says = script.read.says;
          };
        };
        loaded = record { old = x.has.between; new = x.between; tells = first; made = x.has.made; loads = x.has.loaded };
        stops = record {
          before = x.stops.before;
          said = x.stops.said;
          behind = x.stops.behind;
          parts = x.stops.parts;
          done = x.stops.done;
          are = recorded_events recorded x.stops.before x.between x.stops.at x.stops.done second x.stops.read;
          name = name;
          names = names;
          cause = cause;
          is = is (still_recorded recorded x.between x.stops.at second x.stops.kept);
          status_is = status;
        };
      })))

  -- the loading failed
  fails : (found : LoadFault) → IsOfFiles (Err found) → IsReplayRefused (scope_of replay.window) replay.script old new (refused.Load found) → s ≡ status_in found → IsCourseRefused recorded replay s
  fails (fault.Broken rule file row) of_files is status = inr (inr (inl (record {
    has = record {
      script = is.script.script;
      is_recorded = record {
        bytes = is.script.read.bytes;
        is_recorded = bytes_recorded recorded old is.between replay.script is.script.read.bytes tells is.script.read.read;
        says = is.script.read.says;
      };
    };
    old = is.between;
    new = new;
    tells = still_recorded recorded old is.between tells is.script.kept;
    found = fault.Broken rule file row;
    of_files = of_files;
    loads = is.ended;
    status_is = status;
  })))
  fails (fault.TooLarge kind count) of_files is status = inr (inr (inl (record {
    has = record {
      script = is.script.script;
      is_recorded = record {
        bytes = is.script.read.bytes;
        is_recorded = bytes_recorded recorded old is.between replay.script is.script.read.bytes tells is.script.read.read;
        says = is.script.read.says;
      };
    };
    old = is.between;
    new = new;
    tells = still_recorded recorded old is.between tells is.script.kept;
    found = fault.TooLarge kind count;
    of_files = of_files;
    loads = is.ended;
    status_is = status;
  })))
  fails (fault.Folder before after) of_files is status = absurd of_files
  fails fault.NoMemory of_files is status = absurd of_files

  -- an event sequence is refused by the recorded files, unless memory ran out
  pub course_refused : (refusal : Refusal) → IsReplayRefused (scope_of replay.window) replay.script old new refusal → s ≡ status_of refusal → (s ≡ NoMemory) ⊎ IsCourseRefused recorded replay s
  course_refused refused.Usage is status = absurd is
  course_refused (refused.Load (fault.Broken rule file row)) is status = inr (fails (fault.Broken rule file row) tt is status)
  course_refused (refused.Load (fault.TooLarge kind count)) is status = inr (fails (fault.TooLarge kind count) tt is status)
  course_refused (refused.Load (fault.Folder before after)) is status =
      absurd (no_fault (subst (λ count. Rose count new.faults) is.0.before_is (subst (λ count. Rose before count) is.0.after_is is.0.rose)))
  course_refused (refused.Load fault.NoMemory) is status = inl status
  course_refused (refused.Script row) (inl lacks) status =
      inr (inl (absent_recorded recorded old new replay.script tells lacks.read, status ∙ ap (λ (n : ℕ). ScriptWrong n) lacks.row_is))
  course_refused (refused.Script row) (inr (inl wrong)) status = inr (inr (inl (record {
    bytes = wrong.bytes;
    is_recorded = bytes_recorded recorded old new replay.script wrong.bytes tells wrong.read;
    row = row;
    wrong = wrong.wrong;
    status_is = status;
  })))
  course_refused (refused.Script row) (inr (inr x)) status =
      let stops = x.stops.refused in
      inr (stops_behind (refused.Script row) x stops.1 stops.2 None (λ files. absent_recorded recorded x.stops.at new stops.1 files stops.3)
      (status ∙ ap (λ (n : ℕ). ScriptWrong n) stops.0))
  course_refused (refused.Folder before after) is status =
      absurd (no_fault (subst (λ count. Rose count new.faults) is.0.before_is (subst (λ count. Rose before count) is.0.after_is is.0.rose)))
  course_refused (refused.LongUpdate count) x status =
      let stops = x.stops.refused in
      inr (stops_behind (refused.LongUpdate count) x stops.0 stops.2 (Some (faults.TooLong count))
      (λ files. (stops.1, bytes_recorded recorded x.stops.at new stops.0 stops.1 files stops.3, (λ store. (stops.4, stops.5)), (λ ignored. ignored))) status)
  course_refused (refused.BrokenUpdate name found) x status =
      let stops = x.stops.refused in
      inr (stops_behind (refused.BrokenUpdate name found) x name stops.1 (Some (faults.Broken found))
      (λ files. (stops.0, bytes_recorded recorded x.stops.at new name stops.0 files stops.2, (λ store. stops.3), (λ ignored. ignored))) status)

module _ (one_outcome : OneOutcome) (one_end : OneEnd) (one_script : OneScript) (one_fault : OneFault) (never_both : NeverBoth) (recorded : List File) (replay : Replay) where
  -- there is one recorded script, and it is not wrong
  same_script : (a b : HasRecordedScript recorded replay) → a.script ≡ b.script
  same_script a b = one_recorded_script one_script recorded replay.script true a.script b.script a.is_recorded b.is_recorded

  not_absent : HasRecordedScript recorded replay → bytes_named recorded replay.script ≡ None → ⊥
  not_absent has none = let e = sym none ∙ has.is_recorded.is_recorded in absurd (cc)

  not_both : (s : Status) → HasRecordedScript recorded replay → IsWrongRecorded recorded replay s → ⊥
  not_both s has x =
      let same : Some x.bytes ≡ Some has.is_recorded.bytes = sym x.is_recorded ∙ has.is_recorded.is_recorded in
      let bytes : x.bytes ≡ has.is_recorded.bytes = cc in
      never_both has.is_recorded.bytes true has.script (Wrong x.row) has.is_recorded.says (subst (λ (b : List ℕ). HasFault b true (Wrong x.row)) bytes x.wrong)

  both_wrong : (s t : Status) → IsWrongRecorded recorded replay s → IsWrongRecorded recorded replay t → s ≡ t
  both_wrong s t x y =
      let same : Some x.bytes ≡ Some y.bytes = sym x.is_recorded ∙ y.is_recorded in
      let bytes : x.bytes ≡ y.bytes = cc in
      let wrong : Wrong x.row ≡ Wrong y.row = one_fault y.bytes true (Wrong x.row) (Wrong y.row) (subst (λ (b : List ℕ). HasFault b true (Wrong x.row)) bytes x.wrong) y.wrong in
      let row : x.row ≡ y.row = cc in
      x.status_is ∙ ap (λ (n : ℕ). ScriptWrong n) row ∙ sym y.status_is

  -- the loading of the recorded files ends in one way
  not_loaded : (s : Status) → HasLoaded recorded replay → FailsRecorded recorded replay s → ⊥
  not_loaded s x y = one_end recorded (scope_of replay.window) x.old x.new y.old y.new (Ok x.made) (Err y.found) x.tells y.tells tt y.of_files x.loads y.loads

  both_fail : (s t : Status) → FailsRecorded recorded replay s → FailsRecorded recorded replay t → s ≡ t
  both_fail s t x y =
      x.status_is ∙ ap status_in (one_end recorded (scope_of replay.window) x.old x.new y.old y.new (Err x.found) (Err y.found) x.tells y.tells x.of_files y.of_files x.loads y.loads)
      ∙ sym y.status_is

  -- a record that is an event names no message that is wrong
  no_stop : (store : Stored) (said : Record) (name : List ℕ) (event : Event) (cause : Option AdmitFault) → said ≡ records.Update name → IsRecordedEvent recorded said event → IsRecordedCause recorded name cause → ⊥
  no_stop store said name event cause names is wrong =
      let message = recorded_message recorded said name event names is in
      not_wrong recorded name store message.0 cause message.1 wrong

  -- two records at which the reading stops are one
  module _ (store : Stored) (name other : List ℕ) (cause why : Option AdmitFault) (is : IsRecordedCause recorded name cause) (why_is : IsRecordedCause recorded other why) where
    one_cause : (row : ℕ) → records.Update name ≡ records.Update other → status_by row name cause ≡ status_by row other why
    one_cause row same =
        let names : name ≡ other = cc in
        ap (λ (n : List ℕ). status_by row n cause) names
        ∙ ap (status_by row other) (one_wrong one_outcome recorded other store cause why (subst (λ (n : List ℕ). IsRecordedCause recorded n cause) names is) why_is)

    one_stop : (before before' : List Record) (said said' : Record) (behind behind' : List Record) (done done' : List Event) (rows : ℕ) → said ≡ records.Update name → said' ≡ records.Update other
        → AreRecordedEvents recorded before done → AreRecordedEvents recorded before' done' → before ++ said ∷ behind ≡ before' ++ said' ∷ behind'
        → status_by (rows + (length before + 1)) name cause ≡ status_by (rows + (length before' + 1)) other why
    one_stop [] [] said said' behind behind' done done' rows names names' are are' same =
        one_cause (rows + 1) (let first : said ≡ said' = cc in sym names ∙ first ∙ names')
    one_stop [] (next ∷ before') said said' behind behind' done [] rows names names' are are' same = absurd are'
    one_stop [] (next ∷ before') said said' behind behind' done (event ∷ done') rows names names' are are' same =
        absurd (no_stop store next name event cause (let first : said ≡ next = cc in sym first ∙ names) are'.0 is)
    one_stop (next ∷ before) [] said said' behind behind' [] done' rows names names' are are' same = absurd are
    one_stop (next ∷ before) [] said said' behind behind' (event ∷ done) done' rows names names' are are' same =
        absurd (no_stop store next other event why (let first : next ≡ said' = cc in first ∙ names') are.0 why_is)
    one_stop (next ∷ before) (next' ∷ before') said said' behind behind' [] done' rows names names' are are' same = absurd are
    one_stop (next ∷ before) (next' ∷ before') said said' behind behind' (event ∷ done) [] rows names names' are are' same = absurd are'
    one_stop (next ∷ before) (next' ∷ before') said said' behind behind' (event ∷ done) (event' ∷ done') rows names names' are are' same =
        let rest : before ++ said ∷ behind ≡ before' ++ said' ∷ behind' = cc in
        let more : (rows + 1) + (length before + 1) ≡ rows + (length (next ∷ before) + 1) = omega arith in
        let more' : (rows + 1) + (length before' + 1) ≡ rows + (length (next' ∷ before') + 1) = omega arith in
        ap (λ (n : ℕ). status_by n name cause) (sym more)
        ∙ one_stop before before' said said' behind behind' done done' ((rows + 1)) names names' are.1 are'.1 rest
        ∙ ap (λ (n : ℕ). status_by n other why) more'

  both_stop : (s t : Status) (store : Stored) (script other : List Record) → script ≡ other → StopsRecorded recorded script s → StopsRecorded recorded other t → s ≡ t
  both_stop s t store script other same x y =
      let from_none = λ (n : ℕ). let e : n ≡ 0 + n = omega arith in e in
      x.status_is ∙ ap (λ (n : ℕ). status_by n x.name x.cause) (from_none (length x.before + 1))
      ∙ one_stop store x.name y.name x.cause y.cause x.is y.is x.before y.before x.said y.said x.behind y.behind x.done y.done 0 x.names y.names x.are y.are (sym x.parts ∙ same ∙ y.parts)
      ∙ sym (ap (λ (n : ℕ). status_by n y.name y.cause) (from_none (length y.before + 1))) ∙ sym y.status_is

  -- the recorded files refuse an event sequence with one status
  pub one_course_refusal : (s t : Status) → IsCourseRefused recorded replay s → IsCourseRefused recorded replay t → s ≡ t
  one_course_refusal s t (inl x) (inl y) = x.1 ∙ sym y.1
  one_course_refusal s t (inl x) (inr (inl y)) = let e = sym x.0 ∙ y.is_recorded in absurd (cc)
  one_course_refusal s t (inl x) (inr (inr (inl y))) = absurd (not_absent y.has x.0)
  one_course_refusal s t (inl x) (inr (inr (inr y))) = absurd (not_absent y.has x.0)
  one_course_refusal s t (inr (inl x)) (inl y) = let e = sym y.0 ∙ x.is_recorded in absurd (cc)
  one_course_refusal s t (inr (inl x)) (inr (inl y)) = both_wrong s t x y
  one_course_refusal s t (inr (inl x)) (inr (inr (inl y))) = absurd (not_both s y.has x)
  one_course_refusal s t (inr (inl x)) (inr (inr (inr y))) = absurd (not_both s y.has x)
  one_course_refusal s t (inr (inr (inl x))) (inl y) = absurd (not_absent x.has y.0)
  one_course_refusal s t (inr (inr (inl x))) (inr (inl y)) = absurd (not_both t x.has y)
  one_course_refusal s t (inr (inr (inl x))) (inr (inr (inl y))) = both_fail s t x y
  one_course_refusal s t (inr (inr (inl x))) (inr (inr (inr y))) = absurd (not_loaded s y.loaded x)
  one_course_refusal s t (inr (inr (inr x))) (inl y) = absurd (not_absent x.has y.0)
  one_course_refusal s t (inr (inr (inr x))) (inr (inl y)) = absurd (not_both t x.has y)
  one_course_refusal s t (inr (inr (inr x))) (inr (inr (inl y))) = absurd (not_loaded t x.loaded y)
  one_course_refusal s t (inr (inr (inr x))) (inr (inr (inr y))) = both_stop s t (store_of x.loaded.made 0) x.has.script y.has.script (same_script x.has y.has) x.stops y.stops

  -- and refuse none that was played
  pub not_refused : (made : Timetable) (all : List Event) (s : Status) → IsRecordedCourse recorded replay made all → HasLoaded recorded replay → IsCourseRefused recorded replay s → ⊥
  not_refused made all s course loaded (inl y) = let e = sym y.0 ∙ course.is_recorded.is_recorded in absurd (cc)
  not_refused made all s course loaded (inr (inl y)) = not_both s (record { script = course.script; is_recorded = course.is_recorded }) y
  not_refused made all s course loaded (inr (inr (inl y))) = not_loaded s loaded y
  not_refused made all s course loaded (inr (inr (inr y))) =
      let same = same_script (record { script = course.script; is_recorded = course.is_recorded }) y.has in
      let event = recorded_at recorded y.stops.before y.stops.behind y.stops.said all (subst (λ (l : List Record). AreRecordedEvents recorded l all) (same ∙ y.stops.parts) course.are) in
      no_stop (store_of made 0) y.stops.said y.stops.name event.0 y.stops.cause y.stops.names event.1 y.stops.is
