-- What an event sequence results in over recorded files that nothing hinders.
use Rattle.std.proofs.Common.{◌≡◌, ◌∙◌, ◌⊎◌, ◌<◌, ◌++◌, ◌∷◌, ℕ, zero, suc, true, inl, inr, List, [], Some, Option, arith, length, refl, subst, sym}
use Rattle.std.specs.List.{slice_get}
use Rattle.cli_ask.specs.Client.{shown_of}
use Rattle.cli_ask.specs.declared.end.ClientEnd.{ClientEnd}
use Rattle.convoy.specs.ClientLaws.Fits.{HasEnded}
use Rattle.convoy.specs.Replies.Ends.{EndsBy}
use Rattle.convoy.specs.Replies.Made.{Made}
use Rattle.cli_replay.specs.Inputs.Script.{IsEventOf, IsReplayRefused, ReadsEvents, ReadsReplay, StopsAtRecord}
use Rattle.cli_replay.specs.declared.inputs.refusal.Refusal.{Refusal}
use Rattle.cli_replay.specs.declared.inputs.refusal.Refusal.TheVariants as refused
use Rattle.cli_words.specs.declared.command.Replay.{Replay}
use Rattle.lc_io.specs.Counts.{Rose}
use Rattle.lc_io.specs.Folder.{FolderSeen, bytes_named}
use Rattle.lc_io.specs.declared.file.File.{File}
use Rattle.lc_model.specs.declared.query.Query.{Query}
use Rattle.lc_world.specs.Link.{LinkSeen}
use Rattle.page_client.specs.declared.outcome.Outcome.{Outcome}
use Rattle.page_client.specs.declared.outcome.Outcome.TheVariants as outcomes
use Rattle.page_client.specs.declared.want.Want.{Want}
use Rattle.lc_world.specs.Sides.Side.{Side}
use Rattle.cli_replay.specs.ReplayLaws.Events.{questions_in}
use Rattle.cli_replay.specs.declared.replay_laws.event.Event.{Event}
use Rattle.cli_replay.specs.declared.replay_laws.event.Event.TheVariants as events
use Rattle.cli_replay.specs.declared.replay_laws.message.Message.{Message}
use Rattle.journey_text.specs.ScriptLaws.{NeverBoth, OneScript}
use Rattle.journey_text.specs.ScriptReading.{HasFault, SaysScript}
use Rattle.journey_text.specs.declared.script_fault.ScriptFault.TheVariants.{Wrong}
use Rattle.journey_text.specs.declared.script.Record.{Record}
use Rattle.journey_text.specs.declared.script.Record.TheVariants as records
use Rattle.timetable.specs.Recorded.{IsSound}
use Rattle.timetable.specs.Laws.{LoadsRecorded, NotBroken, NotTooLarge}
use Rattle.timetable.specs.declared.fault.LoadFault.TheVariants as fault
use Rattle.timetable.specs.declared.timetable.Timetable.{Timetable}
use Rattle.trip_updates.specs.Faults.{fault_of}
use Rattle.trip_updates.specs.declared.fault.RtFault.{RtFault}
use Rattle.lc_cli.specs.Clear.{AreRecordedEvents, HasFairCourse, IsRecordedCourse, IsRecordedEvent}
use Rattle.lc_cli.specs.Command.{IsPlayedBy}
use Rattle.lc_cli.specs.Scope.{scope_of}
use Rattle.lc_cli.specs.Refusal.{status_of}
use Rattle.lc_cli.specs.declared.status.Status.TheVariants.{NoMemory}
use Rattle.lc_cli.proofs.InputsLemmas.{absent_recorded, bytes_recorded, still_recorded}
use Rattle.lc_cli.proofs.TopLemmas.{AreNoFaults, IsNoFault}

-- what was read are the events by the recorded files
recorded_event : (recorded : List File) (said : Record) (old new : FolderSeen) (event : Event) → old.files ≡ Some recorded → IsEventOf said old new event → IsRecordedEvent recorded said event × (new.files ≡ Some recorded)
recorded_event recorded (records.Ask query) old new (events.Ask asked) tells is = (is.0, subst (λ (f : FolderSeen). f.files ≡ Some recorded) (sym is.1) tells)
recorded_event recorded (records.Ask query) old new (events.Message message) tells is = absurd is
recorded_event recorded (records.Ask query) old new (events.Turn client) tells is = absurd is
recorded_event recorded (records.Update name) old new (events.Ask asked) tells is = absurd is
recorded_event recorded (records.Update name) old new (events.Message message) tells is =
    ((is.named, bytes_recorded recorded old new name message.file.bytes tells is.read), is.read.same ∙ tells)
recorded_event recorded (records.Update name) old new (events.Turn client) tells is = absurd is
recorded_event recorded (records.Turn client) old new (events.Ask asked) tells is = absurd is
recorded_event recorded (records.Turn client) old new (events.Message message) tells is = absurd is
recorded_event recorded (records.Turn client) old new (events.Turn turned) tells is = (is.0, subst (λ (f : FolderSeen). f.files ≡ Some recorded) (sym is.1) tells)

pub recorded_events : (recorded : List File) (script : List Record) (old new : FolderSeen) (all : List Event) → old.files ≡ Some recorded → ReadsEvents script old new all → AreRecordedEvents recorded script all
recorded_events recorded [] old new [] tells read = tt
recorded_events recorded [] old new (event ∷ all) tells read = absurd read
recorded_events recorded (said ∷ script) old new [] tells read = absurd read
recorded_events recorded (said ∷ script) old new (event ∷ all) tells (between, is, more) =
    let first = recorded_event recorded said old between event tells is in
    (first.0, recorded_events recorded script between new all first.1 more)

-- each record of a recorded event sequence is an event
pub recorded_at : (recorded : List File) (before behind : List Record) (said : Record) (all : List Event) → AreRecordedEvents recorded (before ++ said ∷ behind) all → (event : Event) × IsRecordedEvent recorded said event
recorded_at recorded [] behind said [] are = absurd are
recorded_at recorded [] behind said (event ∷ all) are = (event, are.0)
recorded_at recorded (first ∷ before) behind said [] are = absurd are
recorded_at recorded (first ∷ before) behind said (event ∷ all) are = recorded_at recorded before behind said all are.1

-- a recorded message that a record names
pub recorded_message : (recorded : List File) (said : Record) (name : List ℕ) (event : Event) → said ≡ records.Update name → IsRecordedEvent recorded said event → (message : Message) × (bytes_named recorded name ≡ Some message.file.bytes)
recorded_message recorded said name event is are = by event (subst (λ (r : Record). IsRecordedEvent recorded r event) is are) where
  by : (event : Event) → IsRecordedEvent recorded (records.Update name) event → (message : Message) × (bytes_named recorded name ≡ Some message.file.bytes)
  by (events.Ask asked) are = absurd are
  by (events.Message message) are = (message, are.1)
  by (events.Turn client) are = absurd are

-- another list of the same length has something at the place too
pub some_at : {A B : Type 0} (a : List A) (b : List B) (place : ℕ) (x : A) → length a ≡ length b → slice_get a place ≡ Some x → (y : B) × (slice_get b place ≡ Some y)
some_at [] b place x same is = absurd (none place is) where
  none : (n : ℕ) → slice_get [] n ≡ Some x → ⊥
  none n e = cc
some_at (first ∷ a) [] place x same is = absurd (cc)
some_at (first ∷ a) (second ∷ b) zero x same is = (second, refl)
some_at (first ∷ a) (second ∷ b) (suc n) x same is = some_at a b n x (cc) is

-- what is so at each place is so of all
pub no_faults_at : (ends : List ClientEnd) → ((place : ℕ) (end : ClientEnd) → slice_get ends place ≡ Some end → IsNoFault end.outcome) → AreNoFaults ends
no_faults_at [] at = tt
no_faults_at (end ∷ more) at = (at 0 end refl, no_faults_at more (λ place other is. at (suc place) other is))

-- over a link in whose exchanges no fault was counted a client that ended rightly has no fault
pub no_fault_of : (side : Side) (given : List Want) (query : Query) (end : ClientEnd) (base : _) (before after : ℕ) (version : Option ℕ) (made : List Made) (outcome : Outcome) → EndsBy base query before after version made outcome
    → HasEnded side (shown_of query end) given (Some outcome) → (Rose before after → ⊥) → IsNoFault outcome
no_fault_of side given query end base before after version made (outcomes.Found journey) ends ended no_fault = tt
no_fault_of side given query end base before after version made outcomes.NoJourney ends ended no_fault = tt
no_fault_of side given query end base before after version made (outcomes.Refused found) ends ended no_fault = tt
no_fault_of side given query end base before after version made (outcomes.LinkFault low high) ends ended no_fault = absurd (no_fault (omega (arith, ends.from, ends.up_to, ends.rose)))
no_fault_of side given query end base before after version made (outcomes.PeerWrong reply found) ends ended no_fault = absurd ended

module _ (loads_recorded : LoadsRecorded) where
  -- the event sequence that was played is the one of the recorded files
  pub course_recorded : (recorded : List File) (replay : Replay) (old new : FolderSeen) (made : Timetable) (all : List Event) → old.files ≡ Some recorded
      → ReadsReplay (scope_of replay.window) replay.script old new made all → IsRecordedCourse recorded replay made all
  course_recorded recorded replay old new made all tells read =
      let script = read.has.script in
      let at = still_recorded recorded old read.has.between tells script.kept in
      record {
        sound = subst (IsSound recorded (scope_of replay.window)) (sym read.made_is) (loads_recorded recorded (scope_of replay.window) read.has.between read.between read.has.made at read.has.loaded);
        script = script.script;
        is_recorded = record { bytes = script.read.bytes; is_recorded = bytes_recorded recorded old read.has.between replay.script script.read.bytes tells script.read.read; says = script.read.says };
        are = recorded_events recorded script.script read.between new all (still_recorded recorded read.has.between read.between at read.has.kept) read.read;
      }

  -- over a fair link no exchange failed and no reply
  pub course_fine : (recorded : List File) (replay : Replay) (old new : FolderSeen) (before after : LinkSeen) (text : List ℕ) (ends : List ClientEnd) → IsPlayedBy replay old new before after text ends
      → old.files ≡ Some recorded → HasFairCourse recorded replay before.clear before.faults after.faults → AreNoFaults ends
  course_fine recorded replay old new before after text ends x tells fair =
      let right = x.replayed.right fair.link.was_clear (fair.short x.made x.all (course_recorded recorded replay old new x.made x.all tells x.inputs)) in
      no_faults_at ends (λ place end is.
      let query = some_at ends (questions_in x.all) place end x.replayed.one_each is in
      let rightly = right.clients place query.0 end query.1 is in
      no_fault_of _ _ query.0 end replay.publishing.base before.faults after.faults end.version _ end.outcome (x.replayed.caused.clients place query.0 end query.1 is).ends rightly.ended fair.link.no_fault)

module _ (one_script : OneScript) (never_both : NeverBoth) (not_broken : NotBroken) (not_too_large : NotTooLarge) (recorded : List File) (replay : Replay) (old new : FolderSeen)
    (tells : old.files ≡ Some recorded) (made : Timetable) (all : List Event) (course : IsRecordedCourse recorded replay made all) (no_fault : Rose old.faults new.faults → ⊥) where
  -- the bytes of the script that was read are the recorded ones
  same_script : (bytes : List ℕ) → bytes_named recorded replay.script ≡ Some bytes → bytes ≡ course.is_recorded.bytes
  same_script bytes is = let e : Some bytes ≡ Some course.is_recorded.bytes = sym is ∙ course.is_recorded.is_recorded in cc

  -- the record at which the reading stopped is one of the recorded event sequence
  stopped_at : (refusal : Refusal) (x : StopsAtRecord (scope_of replay.window) replay.script old new refusal) → (event : Event) × IsRecordedEvent recorded x.stops.said event
  stopped_at refusal x =
      let read = x.has.script.read in
      let bytes = same_script read.bytes (bytes_recorded recorded old x.has.between replay.script read.bytes tells read.read) in
      let same : x.has.script.script ≡ course.script = one_script course.is_recorded.bytes true x.has.script.script course.script (subst (λ b. SaysScript b true x.has.script.script) bytes read.says) course.is_recorded.says in
      recorded_at recorded x.stops.before x.stops.behind x.stops.said all (subst (λ s. AreRecordedEvents recorded s all) (sym same ∙ x.stops.parts) course.are)

  -- the directory records these files there, too
  files_at : (refusal : Refusal) (x : StopsAtRecord (scope_of replay.window) replay.script old new refusal) → x.stops.at.files ≡ Some recorded
  files_at refusal x =
      still_recorded recorded x.between x.stops.at (still_recorded recorded x.has.between x.between (still_recorded recorded old x.has.between tells x.has.script.kept) x.has.kept) x.stops.kept

  -- a recorded message is there
  message_at : (refusal : Refusal) (x : StopsAtRecord (scope_of replay.window) replay.script old new refusal) (name : List ℕ) → x.stops.said ≡ records.Update name → (message : Message) × (bytes_named recorded name ≡ Some message.file.bytes)
  message_at refusal x name is = let event = stopped_at refusal x in recorded_message recorded x.stops.said name event.0 is event.1

  same_bytes : (refusal : Refusal) (x : StopsAtRecord (scope_of replay.window) replay.script old new refusal) (name bytes : List ℕ) → x.stops.said ≡ records.Update name
      → bytes_named recorded name ≡ Some bytes → (message : Message) × (message.file.bytes ≡ bytes)
  same_bytes refusal x name bytes is recorded_is =
      let message = message_at refusal x name is in
      (message.0, let e : Some message.0.file.bytes ≡ Some bytes = sym message.1 ∙ recorded_is in cc)

  not_long : (message : Message) (bytes : List ℕ) → message.file.bytes ≡ bytes → 16_777_216 < length bytes → ⊥
  not_long message bytes is long = let short = message.short in omega (arith, subst (λ b. 16_777_216 < length b) (sym is) long, short)

  not_broken_message : (message : Message) (bytes : List ℕ) (found : RtFault) → message.file.bytes ≡ bytes → fault_of bytes ≡ Some found → ⊥
  not_broken_message message bytes found is wrong = let whole = message.whole in let e : fault_of message.file.bytes ≡ Some found = subst (λ b. fault_of b ≡ Some found) (sym is) wrong in absurd (cc)

  -- an event sequence of recorded files is refused for no cause but memory
  pub never_refused : (refusal : Refusal) → IsReplayRefused (scope_of replay.window) replay.script old new refusal → (status_of refusal ≡ NoMemory) ⊎ ⊥
  never_refused refused.Usage is = inr is
  never_refused (refused.Load (fault.Broken rule file row)) is =
      inr (not_broken recorded (scope_of replay.window) is.between new made rule file row (still_recorded recorded old is.between tells is.script.kept) course.sound is.ended)
  never_refused (refused.Load (fault.TooLarge what count)) is =
      inr (not_too_large recorded (scope_of replay.window) is.between new made what count (still_recorded recorded old is.between tells is.script.kept) course.sound is.ended)
  never_refused (refused.Load (fault.Folder before after)) is =
      inr (no_fault (subst (λ count. Rose count new.faults) is.0.before_is (subst (λ count. Rose before count) is.0.after_is is.0.rose)))
  never_refused (refused.Load fault.NoMemory) is = inl refl
  never_refused (refused.Script row) (inl lacks) = inr (let e = sym (absent_recorded recorded old new replay.script tells lacks.read) ∙ course.is_recorded.is_recorded in cc)
  never_refused (refused.Script row) (inr (inl wrong)) =
      let bytes = same_script wrong.bytes (bytes_recorded recorded old new replay.script wrong.bytes tells wrong.read) in
      inr (never_both course.is_recorded.bytes true course.script (Wrong row) course.is_recorded.says (subst (λ b. HasFault b true (Wrong row)) bytes wrong.wrong))
  never_refused (refused.Script row) (inr (inr x)) =
      let stops = x.stops.refused in
      let message = message_at (refused.Script row) x stops.1 stops.2 in
      inr (let e = sym (absent_recorded recorded x.stops.at new stops.1 (files_at (refused.Script row) x) stops.3) ∙ message.1 in cc)
  never_refused (refused.Folder before after) is = inr (no_fault (subst (λ count. Rose count new.faults) is.0.before_is (subst (λ count. Rose before count) is.0.after_is is.0.rose)))
  never_refused (refused.LongUpdate count) x =
      let stops = x.stops.refused in
      let message = same_bytes (refused.LongUpdate count) x stops.0 stops.1 stops.2 (bytes_recorded recorded x.stops.at new stops.0 stops.1 (files_at (refused.LongUpdate count) x) stops.3) in
      inr (not_long message.0 stops.1 message.1 stops.4)
  never_refused (refused.BrokenUpdate name found) x =
      let stops = x.stops.refused in
      let message = same_bytes (refused.BrokenUpdate name found) x name stops.0 stops.1 (bytes_recorded recorded x.stops.at new name stops.0 (files_at (refused.BrokenUpdate name found) x) stops.2) in
      inr (not_broken_message message.0 stops.0 found message.1 stops.3.first)
