-- Two runs that play one event sequence over the same files print one output.
use Rattle.std.proofs.Common.{◌≡◌, ◌∙◌, ◌+◌, ◌++◌, ◌∷◌, ℕ, Bool, true, List, [], Some, ap, arith, length, refl, subst, sym}
use Rattle.std.proofs.Props.{props}
use Rattle.std.proofs.lemmas.List.Elements.{All-cons, All-nil}
use Rattle.std.specs.List.{All}
use Rattle.cli_ask.specs.Laws.{IsNoLinkFault}
use Rattle.cli_ask.specs.declared.end.ClientEnd.{ClientEnd}
use Rattle.cli_words.specs.declared.command.Replay.{Replay}
use Rattle.lc_io.specs.Folder.{FolderSeen}
use Rattle.lc_io.specs.declared.file.File.{File}
use Rattle.lc_model.specs.declared.query.Query.{Query}
use Rattle.lc_world.specs.Link.{LinkSeen}
use Rattle.page_client.specs.declared.outcome.Outcome.{Outcome}
use Rattle.page_client.specs.declared.outcome.Outcome.TheVariants as outcomes
use Rattle.cli_replay.specs.ReplayLaws.Events.{TurnsAreOfClients, questions_in}
use Rattle.cli_replay.specs.ReplayLaws.OneCourse.{IsPlayedOut, OneCourse}
use Rattle.cli_replay.specs.ReplayLaws.Message.{IsMessageText}
use Rattle.cli_replay.specs.ReplayLaws.Replayed.{clients_text_of}
use Rattle.cli_replay.specs.declared.replay_laws.event.Event.{Event}
use Rattle.cli_replay.specs.declared.replay_laws.event.Event.TheVariants as events
use Rattle.cli_replay.specs.declared.replay_laws.message.Message.{Message}
use Rattle.journey_text.specs.ScriptLaws.{OneScript}
use Rattle.journey_text.specs.ScriptReading.{SaysScript}
use Rattle.journey_text.specs.Script.{IsClient, SayRecords, clients_of}
use Rattle.journey_text.specs.declared.script.Record.{Record}
use Rattle.journey_text.specs.declared.script.Record.TheVariants as records
use Rattle.timetable.specs.Laws.{LoadsRecorded, OneTimetable}
use Rattle.timetable.specs.declared.timetable.Timetable.{Timetable}
use Rattle.lc_cli.specs.Clear.{AreRecordedEvents, HasFairCourse, IsRecordedCourse, IsRecordedEvent, IsRecordedScript}
use Rattle.lc_cli.specs.Command.{IsReplayBlock}
use Rattle.lc_cli.specs.Scope.{scope_of}
use Rattle.lc_cli.specs.Laws.{PrintOneCourse}
use Rattle.lc_cli.specs.declared.block.Block.{Block}
use Rattle.lc_cli.proofs.ReplayLemmas.{course_fine, course_recorded}
use Rattle.lc_cli.proofs.TopLemmas.{AreNoFaults, IsNoFault}

-- a message is its file
text_prop : (bytes : List ℕ) → IsProp (IsMessageText bytes)
text_prop bytes = hlevel props

abbrev message_of : (name bytes : List ℕ) → IsMessageText bytes → Message
message_of name bytes text = record { file = record { name = name; bytes = bytes }; short = text.short; whole = text.whole }

same_made : (name a b : List ℕ) (p : IsMessageText a) (q : IsMessageText b) → a ≡ b → message_of name a p ≡ message_of name b q
same_made name a b p q e =
    subst (λ (v : List ℕ). (q : IsMessageText v) → message_of name a p ≡ message_of name v q) e (λ q. ap (message_of name a) (text_prop a p q)) q

same_message : (a b : Message) → a.file.name ≡ b.file.name → a.file.bytes ≡ b.file.bytes → a ≡ b
same_message a b name bytes =
    same_made a.file.name a.file.bytes b.file.bytes (record { short = a.short; whole = a.whole }) (record { short = b.short; whole = b.whole }) bytes
    ∙ ap (λ (n : List ℕ). message_of n b.file.bytes (record { short = b.short; whole = b.whole })) name

-- a record is one event, by the recorded files
one_event : (recorded : List File) (said : Record) (a b : Event) → IsRecordedEvent recorded said a → IsRecordedEvent recorded said b → a ≡ b
one_event recorded (records.Ask query) (events.Ask a) (events.Ask b) x y = ap (λ (q : Query). events.Ask q) (x ∙ sym y)
one_event recorded (records.Ask query) (events.Ask a) (events.Message n) x y = absurd y
one_event recorded (records.Ask query) (events.Ask a) (events.Turn l) x y = absurd y
one_event recorded (records.Ask query) (events.Message m) b x y = absurd x
one_event recorded (records.Ask query) (events.Turn k) b x y = absurd x
one_event recorded (records.Update name) (events.Ask a) b x y = absurd x
one_event recorded (records.Update name) (events.Message m) (events.Ask b) x y = absurd y
one_event recorded (records.Update name) (events.Message m) (events.Message n) x y =
    let bytes : Some m.file.bytes ≡ Some n.file.bytes = sym x.1 ∙ y.1 in
    ap (λ (message : Message). events.Message message) (same_message m n (x.0 ∙ sym y.0) (cc))
one_event recorded (records.Update name) (events.Message m) (events.Turn l) x y = absurd y
one_event recorded (records.Update name) (events.Turn k) b x y = absurd x
one_event recorded (records.Turn client) (events.Ask a) b x y = absurd x
one_event recorded (records.Turn client) (events.Message m) b x y = absurd x
one_event recorded (records.Turn client) (events.Turn k) (events.Ask b) x y = absurd y
one_event recorded (records.Turn client) (events.Turn k) (events.Message n) x y = absurd y
one_event recorded (records.Turn client) (events.Turn k) (events.Turn l) x y = ap (λ (n : ℕ). events.Turn n) (x ∙ sym y)

pub one_list_of_events : (recorded : List File) (script : List Record) (a b : List Event) → AreRecordedEvents recorded script a → AreRecordedEvents recorded script b → a ≡ b
one_list_of_events recorded [] [] [] x y = refl
one_list_of_events recorded [] [] (event ∷ b) x y = absurd y
one_list_of_events recorded [] (event ∷ a) b x y = absurd x
one_list_of_events recorded (said ∷ script) [] b x y = absurd x
one_list_of_events recorded (said ∷ script) (event ∷ a) [] x y = absurd y
one_list_of_events recorded (said ∷ script) (first ∷ a) (second ∷ b) x y =
    let rest = one_list_of_events recorded script a b x.1 y.1 in
    ap (λ (e : Event). let l : List Event = e ∷ a in l) (one_event recorded said first second x.0 y.0) ∙ ap (λ (l : List Event). second ∷ l) rest

-- recorded files say one script under a name, and by it one event sequence
pub one_recorded_script : OneScript → (recorded : List File) (name : List ℕ) (updates : Bool) (a b : List Record) → IsRecordedScript recorded name updates a
    → IsRecordedScript recorded name updates b → a ≡ b
one_recorded_script one_script recorded name updates a b x y =
    let same : Some x.bytes ≡ Some y.bytes = sym x.is_recorded ∙ y.is_recorded in
    let bytes : x.bytes ≡ y.bytes = cc in
    one_script y.bytes updates a b (subst (λ (c : List ℕ). SaysScript c updates a) bytes x.says) y.says

pub one_recorded_course : OneScript → (recorded : List File) (replay : Replay) (made other : Timetable) (all others : List Event) → IsRecordedCourse recorded replay made all → IsRecordedCourse recorded replay other others → all ≡ others
one_recorded_course one_script recorded replay made other all others x y =
    one_list_of_events recorded y.script all others
    (subst (λ (script : List Record). AreRecordedEvents recorded script all) (one_recorded_script one_script recorded replay.script true x.script y.script x.is_recorded y.is_recorded) x.are) y.are

-- the turns of a recorded event sequence are of clients, as those of its script are
pub turn_at : (updates : Bool) (recorded : List File) (clients : ℕ) (rows : List (List (List ℕ))) (script : List Record) (before behind : List Event) (client : ℕ) → SayRecords updates clients rows script
    → AreRecordedEvents recorded script (before ++ events.Turn client ∷ behind) → IsClient (clients + length (questions_in before)) client
turn_at updates recorded clients rows [] [] behind client say are = absurd are
turn_at updates recorded clients rows [] (event ∷ before) behind client say are = absurd are
turn_at updates recorded clients [] (said ∷ script) before behind client say are = absurd say
turn_at updates recorded clients (row ∷ rows) (records.Ask query ∷ script) [] behind client say are = absurd are.0
turn_at updates recorded clients (row ∷ rows) (records.Update name ∷ script) [] behind client say are = absurd are.0
turn_at updates recorded clients (row ∷ rows) (records.Turn own ∷ script) [] behind client say are =
    let none : clients ≡ clients + 0 = omega arith in
    subst (λ (n : ℕ). IsClient n client) none (subst (λ (k : ℕ). IsClient clients k) (sym are.0) say.0.is_there)
turn_at updates recorded clients (row ∷ rows) (said ∷ script) (event ∷ before) behind client say are =
    subst (λ (n : ℕ). IsClient n client) (counted said event are.0) (turn_at updates recorded (clients + clients_of said) rows script before behind client say.1 are.1) where
      counted : (said : Record) (event : Event) → IsRecordedEvent recorded said event → (clients + clients_of said) + length (questions_in before) ≡ clients + length (questions_in (event ∷ before))
      counted (records.Ask query) (events.Ask asked) is = omega arith
      counted (records.Ask query) (events.Message message) is = absurd is
      counted (records.Ask query) (events.Turn client) is = absurd is
      counted (records.Update name) (events.Ask asked) is = absurd is
      counted (records.Update name) (events.Message message) is = omega arith
      counted (records.Update name) (events.Turn client) is = absurd is
      counted (records.Turn own) (events.Ask asked) is = absurd is
      counted (records.Turn own) (events.Message message) is = absurd is
      counted (records.Turn own) (events.Turn client) is = omega arith

pub turns_recorded : (recorded : List File) (replay : Replay) (made : Timetable) (all : List Event) → IsRecordedCourse recorded replay made all → TurnsAreOfClients all
turns_recorded recorded replay made all course before behind client is =
    let none : 0 + length (questions_in before) ≡ length (questions_in before) = omega arith in
    subst (λ (n : ℕ). IsClient n client) none
    (turn_at true recorded 0 course.is_recorded.says.rows course.script before behind client course.is_recorded.says.say (subst (AreRecordedEvents recorded course.script) is course.are))

-- clients without a fault have none of the link
no_link_fault : (outcome : Outcome) → IsNoFault outcome → IsNoLinkFault outcome
no_link_fault (outcomes.Found journey) fine = tt
no_link_fault outcomes.NoJourney fine = tt
no_link_fault (outcomes.Refused fault) fine = tt
no_link_fault (outcomes.LinkFault before after) fine = fine
no_link_fault (outcomes.PeerWrong reply fault) fine = tt

pub no_link_faults : (ends : List ClientEnd) → AreNoFaults ends → All (λ (end : ClientEnd). IsNoLinkFault end.outcome) ends
no_link_faults [] fine = All-nil (λ (end : ClientEnd). IsNoLinkFault end.outcome)
no_link_faults (end ∷ more) fine =
    All-cons (λ (end : ClientEnd). IsNoLinkFault end.outcome) end more (no_link_fault end.outcome fine.0) (no_link_faults more fine.1)

module _ (loads_recorded : LoadsRecorded) (one_timetable : OneTimetable) (one_script : OneScript) (one_course : OneCourse) where
  -- over a fair link an event sequence is played rightly to its end
  played_out : (recorded : List File) (replay : Replay) (old new : FolderSeen) (before after : LinkSeen) (block : Block) (x : IsReplayBlock replay old new before after block) → old.files ≡ Some recorded
      → HasFairCourse recorded replay before.clear before.faults after.faults → IsPlayedOut x.made replay.publishing x.all replay.cache x.replayed.lines block.ends.items
  played_out recorded replay old new before after block x tells fair = record {
    recorded = before.recorded;
    now_recorded = after.recorded;
    faults = before.faults;
    now_faults = after.faults;
    met = x.replayed.caused.met;
    right = x.replayed.right fair.link.was_clear (fair.short x.made x.all (course_recorded loads_recorded recorded replay old new x.made x.all tells x.inputs));
    one_each = x.replayed.one_each;
    no_fault = no_link_faults block.ends.items (course_fine loads_recorded recorded replay old new before after block.text.items block.ends.items x tells fair);
  }

  -- the output of one event sequence over the same files is one
  pub one_replay : (recorded : List File) (replay : Replay) (old new other later : FolderSeen) (before after from to : LinkSeen) (x y : Block) → IsReplayBlock replay old new before after x
      → IsReplayBlock replay other later from to y → old.files ≡ Some recorded → other.files ≡ Some recorded → HasFairCourse recorded replay before.clear before.faults after.faults
      → HasFairCourse recorded replay from.clear from.faults to.faults → PrintOneCourse x y
  one_replay recorded replay old new other later before after from to x y a b tells tell fair other_fair =
      let course = course_recorded loads_recorded recorded replay old new a.made a.all tells a.inputs in
      let other_course = course_recorded loads_recorded recorded replay other later b.made b.all tell b.inputs in
      let all : b.all ≡ a.all = one_recorded_course one_script recorded replay b.made a.made b.all a.all other_course course in
      let made = one_timetable recorded (scope_of replay.window) a.made b.made course.sound other_course.sound in
      let one = one_course a.made b.made replay.publishing a.all replay.cache a.replayed.lines b.replayed.lines x.ends.items y.ends.items made
      (turns_recorded recorded replay a.made a.all course) (played_out recorded replay old new before after x a tells fair)
      (subst (λ (l : List Event). IsPlayedOut b.made replay.publishing l replay.cache b.replayed.lines y.ends.items) all (played_out recorded replay other later from to y b tell other_fair)) in
      record {
        lines = a.replayed.lines;
        first_is = a.replayed.text_is;
        second_is = b.replayed.text_is ∙ ap (λ (l : List ℕ). l ++ clients_text_of 1 y.ends.items) (sym one.one_text);
        one_each = one.one_each;
      }
