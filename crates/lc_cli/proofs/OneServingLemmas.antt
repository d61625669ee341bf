-- A command begins from one side by its files, and servings of the same bytes are alike.
use Rattle.std.proofs.Common.{◌≡◌, ◌∙◌, ℕ, Bool, List, None, Some, Option, Result, Ok, Err, ap, ap₂, refl, subst, sym}
use Rattle.cli_ask.proofs.AdmissionLemmas.{of_history, one_behind, store_with}
use Rattle.cli_ask.proofs.SideLemmas.{dates_of}
use Rattle.cli_ask.specs.Admission.{IsBehind}
use Rattle.cli_ask.specs.Publishing.{side_for, store_of}
use Rattle.cli_serve.proofs.ZoneLemmas.{in_zone, one_in_zone}
use Rattle.cli_serve.specs.SameBytes.{AreOneSide, AskOne, OneOverBytes}
use Rattle.cli_serve.specs.Serve.{IsServedWhole, ServesTo}
use Rattle.cli_serve.specs.declared.fault.ServeFault.{ServeFault}
use Rattle.cli_serve.specs.declared.fault.ServeFault.TheVariants as faults
use Rattle.cli_words.specs.Laws.{OneCommand}
use Rattle.cli_words.specs.Words.{SaysCommand}
use Rattle.cli_words.specs.declared.command.Command.TheVariants as commands
use Rattle.cli_words.specs.declared.command.Publishing.{Publishing}
use Rattle.cli_words.specs.declared.command.Serve.{Serve}
use Rattle.fragmenter.specs.Cutting.{chosen_cuts}
use Rattle.lc_io.specs.Door.{DoorSeen}
use Rattle.lc_io.specs.Folder.{FolderSeen}
use Rattle.lc_io.specs.Sink.{SinkSeen}
use Rattle.lc_io.specs.declared.file.File.{File}
use Rattle.lc_model.specs.declared.doc.StopsDoc.{StopsDoc}
use Rattle.lc_model.specs.declared.run.Run.{Run}
use Rattle.lc_model.specs.Versions.History.{Entry}
use Rattle.lc_world.specs.Link.{LinkSeen}
use Rattle.publisher.specs.Held.{side_of}
use Rattle.lc_world.specs.Sides.Side.{Side, date_in}
use Rattle.timetable.specs.Laws.{AreSame, LoadsRecorded, OneTimetable}
use Rattle.timetable.specs.declared.timetable.Timetable.{Timetable}
use Rattle.version_store.specs.Laws.{OneOutcome}
use Rattle.version_store.specs.Store.{Stored}
use Rattle.lc_cli.specs.Clear.{IsPublishedSide, IsRecordedFile, IsServedSide}
use Rattle.lc_cli.specs.Command.{IsServer}
use Rattle.lc_cli.specs.Scope.{scope_of}
use Rattle.lc_cli.specs.OneServing.{BeginsFromIt, NotAnotherBase, NotMadeUp, NotUnasked, OneServing, OneSide}
use Rattle.lc_cli.specs.Serving.{IsSaidLast, IsServingEnd, asked_of, served_status_of}
use Rattle.lc_cli.specs.declared.server.Server.{Server}
use Rattle.lc_cli.specs.declared.status.Status.TheVariants.{Done}
use Rattle.lc_cli.proofs.InputsLemmas.{inputs_recorded}
use Rattle.cli_words.specs.declared.command.Published.{Published}
use Rattle.lc_cli.proofs.OneRunLemmas.{one_file}

-- the sides of timetables that are the same differ in their zones alone
same_for : (a b : Timetable) (publishing : Publishing) (accepts : Bool) (history : List Entry) → AreSame a b
    → side_for a publishing (store_with a publishing.base_moment history) accepts
    ≡ in_zone (side_for b publishing (store_with b publishing.base_moment history) accepts) a.zone
same_for a b publishing accepts history same =
    let side =
    λ (runs : List Run) (doc : StopsDoc).
    let s : Side = record (side_for b publishing (store_with b publishing.base_moment history) accepts) { runs = runs; doc = doc; zone = a.zone } in
    s in
    ap₂ side same.runs same.doc

-- what is published after one message is one side, and one line says what became of it
record ArePublishedAsOne (a b : Side) (line other : List ℕ) : Type 0 where
  sides : AreOneSide a b
  line_is : line ≡ other

published_as_one : OneOutcome → (a b : Timetable) (publishing : Publishing) (accepts : Bool) (file : Option File) (s t : Stored) (k l : List ℕ) → AreSame a b
    → IsBehind file (store_of a publishing.base_moment) s k → IsBehind file (store_of b publishing.base_moment) t l
    → ArePublishedAsOne (side_for a publishing s accepts) (side_for b publishing t accepts) k l
published_as_one one_outcome a b publishing accepts file s t k l same x y =
    let moment : ℕ = publishing.base_moment in
    let one = one_behind one_outcome (store_of a moment) (store_of b moment) (record { base = refl; history = refl }) s t k l file x y in
    let first : s ≡ store_with a moment t.history =
    of_history file (store_of a moment) s k x ∙ ap (λ (h : List Entry). store_with a moment h) one.heard.history in
    let second : t ≡ store_with b moment t.history = of_history file (store_of b moment) t l y in
    let is : side_for a publishing s accepts ≡ in_zone (side_for b publishing t accepts) a.zone =
    ap (λ (stored : Stored). side_for a publishing stored accepts) first
    ∙ (same_for a b publishing accepts t.history same ∙ ap (λ (stored : Stored). in_zone (side_for b publishing stored accepts) a.zone) (sym second)) in
    let zone : date_in b.zone ≡ date_in t.zone = ap (λ (stored : Stored). date_in stored.zone) (sym second) in
    record {
      sides = one_in_zone a.zone (side_for a publishing s accepts) (side_for b publishing t accepts) is (dates_of a b same ∙ zone);
      line_is = one.line;
    }

-- sides that are one by what they are
by_what_they_are : (a b x y : Side) → a ≡ x → b ≡ y → AreOneSide x y → AreOneSide a b
by_what_they_are a b x y first second one = subst (λ (s : Side). AreOneSide s b) (sym first) (subst (λ (s : Side). AreOneSide x s) (sym second) one)

module _ (one_timetable : OneTimetable) (one_outcome : OneOutcome) where
  -- by recorded files a publisher has one side, and one line says what became of its message
  published_alike : (recorded : List File) (published : Published) (accepts : Bool) (a b : Side)
      (x : IsPublishedSide recorded published accepts a) (y : IsPublishedSide recorded published accepts b) → ArePublishedAsOne a b x.line y.line
  published_alike recorded published accepts a b x y =
      let publishing : Publishing = published.publishing in
      let made : AreSame x.made y.made = one_timetable recorded (scope_of published.window) x.made y.made x.sound y.sound in
      let file : y.file ≡ x.file = one_file recorded published.update y.file x.file y.is_recorded x.is_recorded in
      let behind = subst (λ (f : Option File). IsBehind f (store_of y.made publishing.base_moment) y.store y.line) file y.behind in
      let one = published_as_one one_outcome x.made y.made publishing accepts x.file x.store y.store x.line y.line made x.behind behind in
      record {
        sides = by_what_they_are a b (side_for x.made publishing x.store accepts) (side_for y.made publishing y.store accepts) x.is y.is one.sides;
        line_is = one.line_is;
      }

  pub one_side : OneSide
  one_side recorded published accepts a b x y = (published_alike recorded published accepts a b x y).sides

  -- a server begins from one side, and writes one line of its message first
  begins_as_one : (recorded : List File) (serve : Serve) (a b : Side) (x : IsServedSide recorded serve a) (y : IsServedSide recorded serve b) → ArePublishedAsOne a b x.line y.line
  begins_as_one recorded serve a b x y = published_alike recorded serve.published serve.accept_updates a b x y

-- a server was made by the recorded files
server_recorded : LoadsRecorded → (recorded : List File) (serve : Serve) (old new : FolderSeen) (server : Server) → old.files ≡ Some recorded → IsServer serve old new server
    → IsServedSide recorded serve (asked_of server).first
server_recorded loads_recorded recorded serve old new server tells is = record {
  made = is.made;
  sound = loads_recorded recorded (scope_of serve.published.window) old is.inputs.between is.made tells is.inputs.loaded;
  file = is.file;
  is_recorded = inputs_recorded recorded (scope_of serve.published.window) serve.published.update old new is.made is.file tells is.inputs;
  store = is.publishes.store;
  line = server.line.items;
  behind = is.publishes.behind;
  is = ap (side_of chosen_cuts) is.publishes.held_is;
}

pub begins_from_it : {X : Type 0} (seen : X → LinkSeen) → LoadsRecorded → BeginsFromIt seen
begins_from_it seen loads_recorded p recorded status tells x = server_recorded loads_recorded recorded x.right.serve p.folder_before p.folder_after x.server tells x.right.is

-- serving that is done was served whole
served_whole : (server : Server) (door_before door_after : DoorSeen) (before after : SinkSeen) → IsServingEnd server door_before door_after before after Done
    → IsServedWhole (asked_of server) (record { door = door_before; sink = before }) (record { door = door_after; sink = after })
served_whole server door_before door_after before after x = by x.result x.serves x.said x.status_is where
  by : (result : Result (Unit {0}) ServeFault) → ServesTo (asked_of server) (record { door = door_before; sink = before }) (record { door = door_after; sink = x.between }) result
      → IsSaidLast result x.between after → Done ≡ served_status_of result
      → IsServedWhole (asked_of server) (record { door = door_before; sink = before }) (record { door = door_after; sink = after })
  by (Ok done) serves said is =
      subst (λ (sink : SinkSeen). IsServedWhole (asked_of server) (record { door = door_before; sink = before }) (record { door = door_after; sink = sink })) (sym said) serves
  by (Err (faults.Door count now)) serves said is = absurd (cc)
  by (Err (faults.Sink count now)) serves said is = absurd (cc)
  by (Err faults.NoMemory) serves said is = absurd (cc)

-- servers of the same words and files are asked for one thing
ask_one : OneTimetable → OneOutcome → LoadsRecorded → (recorded : List File) (serve : Serve) (old new other later : FolderSeen) (a b : Server) → old.files ≡ Some recorded → other.files ≡ Some recorded
    → IsServer serve old new a → IsServer serve other later b → AskOne (asked_of a) (asked_of b)
unfolding server_recorded
ask_one one_timetable one_outcome loads_recorded recorded serve old new other later a b tells tell x y =
    let one =
    begins_as_one one_timetable one_outcome recorded serve (asked_of a).first (asked_of b).first (server_recorded loads_recorded recorded serve old new a tells x)
    (server_recorded loads_recorded recorded serve other later b tell y) in
    record { sides = one.sides; opening = one.line_is; port = x.port_is ∙ sym y.port_is; connections = x.connections_are ∙ sym y.connections_are }

module _ {X Y : Type 0} (seen : X → LinkSeen) (saw : Y → LinkSeen) (one_command : OneCommand) (one_timetable : OneTimetable) (loads_recorded : LoadsRecorded) (one_outcome : OneOutcome)
    (one_over_bytes : OneOverBytes) where
  pub one_serving : OneServing seen saw
  one_serving p q recorded had has held holds words tells tell x_well y_well waited x y =
      let says : SaysCommand p.words (commands.Serve y.right.serve) = subst (λ w. SaysCommand w (commands.Serve y.right.serve)) (sym words) y.right.says in
      let same_command : commands.Serve y.right.serve ≡ commands.Serve x.right.serve = one_command p.words (commands.Serve y.right.serve) (commands.Serve x.right.serve) says x.right.says in
      let same : y.right.serve ≡ x.right.serve = cc in
      let is : IsServer x.right.serve q.folder_before q.folder_after y.server = subst (λ (s : Serve). IsServer s q.folder_before q.folder_after y.server) same y.right.is in
      one_over_bytes (asked_of x.server) (asked_of y.server) (record { door = p.door_before; sink = p.sink_before }) (record { door = p.door_after; sink = p.sink_after })
      (record { door = q.door_before; sink = q.sink_before }) (record { door = q.door_after; sink = q.sink_after }) had has held holds
      (ask_one one_timetable one_outcome loads_recorded recorded x.right.serve p.folder_before p.folder_after q.folder_before q.folder_after x.server y.server tells tell x.right.is is) x_well y_well
      waited (served_whole x.server p.door_before p.door_after p.sink_before p.sink_after x.end) (served_whole y.server q.door_before q.door_after q.sink_before q.sink_after y.end)

-- where no message is named, none is in the history
no_history : (recorded : List File) (file : Option File) (old new : Stored) (line : List ℕ) → IsRecordedFile recorded None file → IsBehind file old new line → new ≡ old
no_history recorded None old new line is behind = behind.0
no_history recorded (Some file) old new line is behind = absurd is

pub not_made_up : NotMadeUp
not_made_up recorded serve side none some x =
    let is : IsRecordedFile recorded None x.file = subst (λ (name : Option (List ℕ)). IsRecordedFile recorded name x.file) none x.is_recorded in
    let stays : x.store ≡ store_of x.made serve.published.publishing.base_moment = no_history recorded x.file (store_of x.made serve.published.publishing.base_moment) x.store x.line is x.behind in
    some (ap (λ (s : Side). s.history) x.is ∙ ap (λ (s : Stored). s.history) stays)

pub not_unasked : NotUnasked
not_unasked recorded serve side other x = other (ap (λ (s : Side). s.accepts_updates) x.is)

-- a message changes no base version
base_stays : (made : Timetable) (moment : ℕ) (file : Option File) (new : Stored) (line : List ℕ) → IsBehind file (store_of made moment) new line → new.base ≡ moment
base_stays made moment file new line behind = ap (λ (s : Stored). s.base) (of_history file (store_of made moment) new line behind)

pub not_another_base : NotAnotherBase
not_another_base recorded serve side other x =
    other (ap (λ (s : Side). s.base_moment) x.is ∙ base_stays x.made serve.published.publishing.base_moment x.file x.store x.line x.behind)
