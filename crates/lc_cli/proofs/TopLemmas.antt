-- What follows from the cause of a status.
use Rattle.std.proofs.Common.{◌≡◌, ◌∙◌, ◌⊎◌, ◌+◌, ◌∷◌, ℕ, inl, inr, Bool, false, List, [], None, Some, Option, Result, Ok, Err, ap, arith, refl, subst, sym}
use Rattle.std.specs.Option.{unwrap_or}
use Rattle.back_scan.specs.declared.arrive_query.ArriveQuery.{ArriveQuery}
use Rattle.cli_ask.specs.LatestDeparture.Asked.{IsAskedLatest}
use Rattle.cli_ask.specs.Admission.{IsBehind, IsIgnored}
use Rattle.cli_ask.specs.Asked.{IsAsked}
use Rattle.cli_ask.specs.Client.{shown_of}
use Rattle.cli_ask.specs.Publishing.{side_for, side_with, store_of}
use Rattle.back_client.specs.Ends.Right.{EndsAt}
use Rattle.convoy.specs.ClientLaws.Fits.{HasEnded}
use Rattle.convoy.specs.Replies.Ends.{EndsBy}
use Rattle.cli_words.specs.Words.{SaysCommand}
use Rattle.cli_words.specs.declared.command.Publishing.{Publishing}
use Rattle.cli_words.specs.declared.command.Serve.{Serve}
use Rattle.cli_words.specs.declared.command.Command.{Command}
use Rattle.cli_words.specs.declared.command.Command.TheVariants as commands
use Rattle.lc_io.specs.Counts.{Rose}
use Rattle.lc_io.specs.Folder.{FolderSeen, bytes_named}
use Rattle.lc_io.specs.declared.file.File.{File}
use Rattle.lc_io.specs.declared.folder.FolderFail.{FolderFail}
use Rattle.lc_io.specs.declared.folder.FolderFail.TheVariants.{Absent}
use Rattle.lc_io.specs.Sink.{SinkSeen}
use Rattle.lc_model.specs.declared.query.Query.{Query}
use Rattle.lc_world.specs.Link.{LinkSeen}
use Rattle.page_client.specs.declared.outcome.Outcome.{Outcome}
use Rattle.page_client.specs.declared.outcome.Outcome.TheVariants as outcomes
use Rattle.page_client.specs.declared.want.Want.{Want}
use Rattle.lc_world.specs.Sides.Short.{IsShort}
use Rattle.lc_world.specs.Sides.Side.{Side}
use Rattle.timetable.specs.Laws.{LoadsRecorded}
use Rattle.timetable.specs.declared.fault.LoadFault.TheVariants as fault
use Rattle.timetable.specs.declared.scope.Scope.{Scope}
use Rattle.timetable.specs.declared.timetable.Timetable.{Timetable}
use Rattle.trip_updates.specs.declared.fault.RtFault.{RtFault}
use Rattle.version_store.specs.Admission.{IsRefused, IsTaken}
use Rattle.version_store.specs.Laws.{OneOutcome}
use Rattle.version_store.specs.Store.{Stored}
use Rattle.version_store.specs.declared.admission.AdmitFault.{AdmitFault}
use Rattle.version_store.specs.declared.admission.AdmitFault.TheVariants as faults
use Rattle.cli_ask.specs.declared.end.ClientEnd.{ClientEnd}
use Rattle.lc_cli.specs.Block.{IsBlockEnd, client_status_of, failed_status_of}
use Rattle.lc_cli.specs.Clear.{HasFairLink, IsAnswered, IsPublishedSide, IsServedSide, IsRecordedFile}
use Rattle.lc_cli.specs.Command.{IsQuestionBlock, IsRightRefusal, IsServer}
use Rattle.lc_cli.specs.Scope.{scope_of}
use Rattle.lc_cli.specs.Question.{IsAskedSo}
use Rattle.cli_replay.specs.Inputs.Inputs.{AsksForUpdate, IsBrokenUpdate, IsLongUpdate}
use Rattle.lc_cli.specs.Refusal.{IsRefusalEnd, status_of}
use Rattle.lc_cli.specs.Top.{IsEarlyRefusal, IsRight, Past}
use Rattle.lc_cli.specs.declared.block.Block.{Block}
use Rattle.lc_cli.specs.declared.question.Asking.{Asking}
use Rattle.lc_cli.specs.declared.question.Asking.TheVariants as askings
use Rattle.lc_cli.specs.declared.server.Server.{Server}
use Rattle.cli_replay.specs.declared.inputs.refusal.Refusal.{Refusal}
use Rattle.cli_replay.specs.declared.inputs.refusal.Refusal.TheVariants as refused
use Rattle.lc_cli.specs.declared.status.Status.{Status}
use Rattle.lc_cli.specs.declared.status.Status.TheVariants.{Usage, NoMemory}
use Rattle.cli_words.specs.declared.command.Published.{Published}
use Rattle.lc_cli.proofs.InputsLemmas.{absent_recorded, bytes_recorded, inputs_recorded, still_recorded}

-- every other status has a command that the arguments say
pub usage_only : {X : Type 0} (seen : X → LinkSeen) (p : Past X) (status : Status) → IsRight seen p status → ((command : Command) → SaysCommand p.words command → ⊥) → (status ≡ Usage) ⊎ (status ≡ NoMemory)
usage_only seen p status (inl printed) none = absurd (none printed.right.command printed.right.says)
usage_only seen p status (inr (inr served)) none = absurd (none (commands.Serve served.right.serve) served.right.says)
usage_only seen p status (inr (inl x)) none = by x.right x.end where
  ends : (refusal : Refusal) (other : Status) → status_of refusal ≡ other → IsRefusalEnd refusal p.sink_before p.sink_after status → (status ≡ other) ⊎ (status ≡ NoMemory)
  ends refusal other is (inl said) = inl (said.status_is ∙ is)
  ends refusal other is (inr lacks) = inr lacks.status_is

  by : IsRightRefusal p.words p.folder_before p.folder_after x.refusal → IsRefusalEnd x.refusal p.sink_before p.sink_after status → (status ≡ Usage) ⊎ (status ≡ NoMemory)
  by (inl usage) end = ends x.refusal Usage (ap status_of usage.is) end
  by (inr (inl first)) end = flip (ends x.refusal NoMemory (ap status_of first.is) end) where
    flip : (status ≡ NoMemory) ⊎ (status ≡ NoMemory) → (status ≡ Usage) ⊎ (status ≡ NoMemory)
    flip (inl e) = inr e
    flip (inr e) = inr e
  by (inr (inr command)) end = absurd (none command.command command.says)

-- neither an exchange failed nor a reply
abbrev pub IsNoFault : Outcome → Type 0
IsNoFault (outcomes.Found journey) = Unit {0}
IsNoFault outcomes.NoJourney = Unit {0}
IsNoFault (outcomes.Refused fault) = Unit {0}
IsNoFault (outcomes.LinkFault before after) = ⊥
IsNoFault (outcomes.PeerWrong reply fault) = ⊥

-- no client ended with a fault
abbrev pub AreNoFaults : List ClientEnd → Type 0
AreNoFaults [] = Unit {0}
AreNoFaults (end ∷ more) = IsNoFault end.outcome × AreNoFaults more

-- such clients have answers
pub answered : (k : ℕ) (ends : List ClientEnd) → AreNoFaults ends → IsAnswered (client_status_of k ends)
answered k [] fine = tt
answered k (end ∷ more) fine = by end.outcome (answered (k + 1) more fine.1) fine.0 where
  by : (outcome : Outcome) → IsAnswered (client_status_of (k + 1) more) → IsNoFault outcome → IsAnswered (unwrap_or (failed_status_of k outcome) (client_status_of (k + 1) more))
  by (outcomes.Found journey) rest f = rest
  by outcomes.NoJourney rest f = rest
  by (outcomes.Refused fault) rest f = tt
  by (outcomes.LinkFault before after) rest f = absurd f
  by (outcomes.PeerWrong reply fault) rest f = absurd f

-- what a publisher heard before a client asked it: the store after the message, and its line
pub record HasHeardFirst (made : Timetable) (publishing : Publishing) (file : Option File) : Type 0 where
  pub store : Stored
  pub line : List ℕ
  pub behind : IsBehind file (store_of made publishing.base_moment) store line

abbrev pub heard_first : (asking : Asking) (made : Timetable) (publishing : Publishing) (file : Option File) (before after : LinkSeen) (text : List ℕ) (end : ClientEnd)
    → IsAskedSo asking made publishing file before after text end → HasHeardFirst made publishing file
heard_first (askings.Earliest query cache) made publishing file before after text end x = record { store = x.store; line = x.line; behind = x.behind }
heard_first (askings.Fewest query) made publishing file before after text end x = record { store = x.asked.store; line = x.asked.line; behind = x.asked.behind }
heard_first (askings.Latest query) made publishing file before after text end x = record { store = x.store; line = x.line; behind = x.behind }

-- over a clear link no exchange failed and no reply
module _ (made : Timetable) (publishing : Publishing) (file : Option File) (before after : LinkSeen) (text : List ℕ) (end : ClientEnd) (clear : before.clear) (no_rise : Rose before.faults after.faults → ⊥) where
  of_wants : (query : Query) (x : IsAsked made publishing file query before after text end) → IsShort (side_with made publishing x.store) → IsNoFault end.outcome
  of_wants query x short =
      let side = side_with made publishing x.store in
      let right = x.right clear short in
      by side right.given end.outcome x.asks.ends right.ended where
        by : (side : Side) (given : List Want) (outcome : Outcome) → EndsBy publishing.base query before.faults after.faults end.version x.asks.made outcome
            → HasEnded side (shown_of query end) given (Some outcome) → IsNoFault outcome
        by side given (outcomes.Found journey) ends ended = tt
        by side given outcomes.NoJourney ends ended = tt
        by side given (outcomes.Refused fault) ends ended = tt
        by side given (outcomes.LinkFault count later) ends ended = absurd (no_rise (omega (arith, ends.from, ends.rose, ends.up_to)))
        by side given (outcomes.PeerWrong reply fault) ends ended = absurd ended

  of_requests : (query : ArriveQuery) (x : IsAskedLatest made publishing file query before after text end) → IsShort (side_with made publishing x.store) → IsNoFault end.outcome
  of_requests query x short =
      let side = side_with made publishing x.store in
      let right = x.right clear short in
      by side right.requests end.outcome right.ends where
        by : (side : Side) (requests : List (List ℕ)) (outcome : Outcome) → EndsAt publishing.base side query end.version requests before.faults after.faults outcome → IsNoFault outcome
        by side requests (outcomes.Found journey) ends = tt
        by side requests outcomes.NoJourney ends = tt
        by side requests (outcomes.Refused fault) ends = tt
        by side requests (outcomes.LinkFault low high) ends = absurd (no_rise (omega (arith, ends.rose.from, ends.rose.to, ends.rose.rose)))
        by side requests (outcomes.PeerWrong reply fault) ends = absurd ends

  of_asking : (asking : Asking) (x : IsAskedSo asking made publishing file before after text end)
      → IsShort (side_with made publishing (heard_first asking made publishing file before after text end x).store) → IsNoFault end.outcome
  of_asking (askings.Earliest query cache) x short = of_wants query x short
  of_asking (askings.Fewest query) x short = of_wants query x.asked short
  of_asking (askings.Latest query) x short = of_requests query x short

module _ (loads_recorded : LoadsRecorded) (recorded : List File) (published : Published) (asking : Asking) (old new : FolderSeen) (before after : LinkSeen) (block : Block)
    (x : IsQuestionBlock published asking old new before after block) (tells : old.files ≡ Some recorded) where
  -- the side that was asked is the one of the recorded files, also with another store after the message
  abbrev pub side_asked_with : (store : Stored) (line : List ℕ) → IsBehind x.file (store_of x.made published.publishing.base_moment) store line
      → IsPublishedSide recorded published false (side_with x.made published.publishing store)
  side_asked_with store line behind = record {
    made = x.made;
    sound = loads_recorded recorded (scope_of published.window) old x.inputs.between x.made tells x.inputs.loaded;
    file = x.file;
    is_recorded = inputs_recorded recorded (scope_of published.window) published.update old new x.made x.file tells x.inputs;
    store = store;
    line = line;
    behind = behind;
    is = refl;
  }

  abbrev pub first_heard : HasHeardFirst x.made published.publishing x.file
  first_heard = heard_first asking x.made published.publishing x.file before after block.text.items x.end x.asked

  abbrev pub side_asked : IsPublishedSide recorded published false (side_with x.made published.publishing first_heard.store)
  side_asked = side_asked_with first_heard.store first_heard.line first_heard.behind

  -- over a fair link no exchange failed and no reply
  pub no_fault : HasFairLink recorded published before.clear before.faults after.faults → AreNoFaults block.ends.items
  no_fault fair =
      let short = fair.short (side_with x.made published.publishing first_heard.store) side_asked in
      subst AreNoFaults (sym x.client)
      (of_asking x.made published.publishing x.file before after block.text.items x.end fair.link.was_clear fair.link.no_fault asking x.asked short, tt)

-- the side that is served first is the one of the recorded files
pub side_served : LoadsRecorded → (recorded : List File) (serve : Serve) (old new : FolderSeen) (server : Server) → old.files ≡ Some recorded → (x : IsServer serve old new server)
    → IsServedSide recorded serve (side_for x.made serve.published.publishing x.publishes.store serve.accept_updates)
side_served loads_recorded recorded serve old new server tells x = record {
  made = x.made;
  sound = loads_recorded recorded (scope_of serve.published.window) old x.inputs.between x.made tells x.inputs.loaded;
  file = x.file;
  is_recorded = inputs_recorded recorded (scope_of serve.published.window) serve.published.update old new x.made x.file tells x.inputs;
  store = x.publishes.store;
  line = server.line.items;
  behind = x.publishes.behind;
  is = refl;
}

-- The file of the message is recorded, if there is a name, and a store took it, with this store as the result.
pub record IsHeardBy (recorded : List File) (update : Option (List ℕ)) : Type 0 where
  pub file : Option File
  pub is_recorded : IsRecordedFile recorded update file
  pub old : Stored
  pub new : Stored
  pub line : List ℕ
  pub behind : IsBehind file old new line

-- without a name nothing is to be heard
pub heard_nothing : (recorded : List File) (store : Stored) → IsHeardBy recorded None
heard_nothing recorded store = record { file = None; is_recorded = tt; old = store; new = store; line = []; behind = (refl, refl) }

-- what a publisher has heard
pub heard : (recorded : List File) (published : Published) (accepts : Bool) (side : Side) → IsPublishedSide recorded published accepts side → IsHeardBy recorded published.update
heard recorded published accepts side is = record {
  file = is.file;
  is_recorded = is.is_recorded;
  old = store_of is.made published.publishing.base_moment;
  new = is.store;
  line = is.line;
  behind = is.behind;
}

-- what a recorded file of this name has is what was heard
heard_bytes : (recorded : List File) (name bytes : List ℕ) (is : IsHeardBy recorded (Some name)) → bytes_named recorded name ≡ Some bytes → (there : File) × (is.file ≡ Some there) × (there.bytes ≡ bytes)
heard_bytes recorded name bytes is same = by is.file is.is_recorded refl where
  by : (file : Option File) → IsRecordedFile recorded (Some name) file → is.file ≡ file → (there : File) × (is.file ≡ Some there) × (there.bytes ≡ bytes)
  by None recorded_is at = absurd recorded_is
  by (Some there) recorded_is at = (there, at, let e : Some there.bytes ≡ Some bytes = sym recorded_is.1 ∙ same in cc)

module _ (one_outcome : OneOutcome) where
  -- the message that was heard is refused for no other cause
  pub heard_fine : (recorded : List File) (name bytes : List ℕ) (found : AdmitFault) → IsHeardBy recorded (Some name) → bytes_named recorded name ≡ Some bytes
      → ((store : Stored) → IsRefused store bytes found) → (IsIgnored found → ⊥) → ⊥
  heard_fine recorded name bytes found is same wrong other =
      let at = heard_bytes recorded name bytes is same in
      by at.0 at.2 (subst (λ file. IsBehind file is.old is.new is.line) at.1 is.behind) where
        by : (there : File) → there.bytes ≡ bytes → IsBehind (Some there) is.old is.new is.line → ⊥
        by there e (inl admitted) =
            one_outcome.not_both is.old bytes admitted.admits.update found (subst (λ b. IsTaken is.old b admitted.admits.update) e admitted.admits.taken) (wrong is.old)
        by there e (inr passed) =
            let one = one_outcome.one_cause is.old bytes passed.fault found (subst (λ b. IsRefused is.old b passed.fault) e passed.refused) (wrong is.old) in
            other (subst IsIgnored one passed.ignored)

  module _ (recorded : List File) (scope : Scope) (update : Option (List ℕ)) (old new : FolderSeen) (tells : old.files ≡ Some recorded) (is : IsHeardBy recorded update) where
    of_name : (name : List ℕ) → update ≡ Some name → IsHeardBy recorded (Some name)
    of_name name named = subst (IsHeardBy recorded) named is

    between_recorded : (result : Result (List ℕ) FolderFail) (x : AsksForUpdate scope update old new result) → x.between.files ≡ Some recorded
    between_recorded result x = still_recorded recorded old x.between tells x.kept

    pub not_absent : AsksForUpdate scope update old new (Err Absent) → ⊥
    not_absent x = by (of_name x.name x.named) (absent_recorded recorded x.between new x.name (between_recorded (Err Absent) x) x.read) where
      by : (h : IsHeardBy recorded (Some x.name)) → bytes_named recorded x.name ≡ None → ⊥
      by h none = there h.file h.is_recorded where
        there : (file : Option File) → IsRecordedFile recorded (Some x.name) file → ⊥
        there None recorded_is = recorded_is
        there (Some file) recorded_is = let e = sym none ∙ recorded_is.1 in cc

    not_refused : (bytes : List ℕ) (found : AdmitFault) (x : AsksForUpdate scope update old new (Ok bytes)) → ((store : Stored) → IsRefused store bytes found) → (IsIgnored found → ⊥) → ⊥
    not_refused bytes found x = heard_fine recorded x.name bytes found (of_name x.name x.named) (bytes_recorded recorded x.between new x.name bytes (between_recorded (Ok bytes) x) x.read)

    pub not_long : (count : ℕ) → IsLongUpdate scope update old new count → ⊥
    not_long count x = not_refused x.bytes (faults.TooLong count) x.asks (λ store. (x.long, x.counted)) (λ ignored. ignored)

    pub not_broken_update : (name : List ℕ) (found : RtFault) → IsBrokenUpdate scope update old new name found → ⊥
    not_broken_update name found x = not_refused x.bytes (faults.Broken found) x.asks (λ store. x.broken) (λ ignored. ignored)

-- clients end in no early refusal
of_clients : (k : ℕ) (ends : List ClientEnd) → IsEarlyRefusal (client_status_of k ends) → ⊥
of_clients k [] is = is
of_clients k (end ∷ more) is = by end.outcome (of_clients (k + 1) more) is where
  by : (outcome : Outcome) → (IsEarlyRefusal (client_status_of (k + 1) more) → ⊥) → IsEarlyRefusal (unwrap_or (failed_status_of k outcome) (client_status_of (k + 1) more)) → ⊥
  by (outcomes.Found journey) rest is = rest is
  by outcomes.NoJourney rest is = rest is
  by (outcomes.Refused fault) rest is = is
  by (outcomes.LinkFault count later) rest is = is
  by (outcomes.PeerWrong reply fault) rest is = is

-- a block that was printed, or cut in the sink, ends in no early refusal
pub not_early : (block : Block) (before after : SinkSeen) (status : Status) → IsBlockEnd block before after status → IsEarlyRefusal status → ⊥
not_early block before after status (inl whole) early = of_clients 1 block.ends.items (subst IsEarlyRefusal whole.status_is early)
not_early block before after status (inr (inl cut)) early = subst IsEarlyRefusal cut.status_is early
not_early block before after status (inr (inr cut)) early = subst IsEarlyRefusal cut.status_is early

-- an early refusal is not out of memory
pub not_memory : (refusal : Refusal) (before after : SinkSeen) (status : Status) → IsRefusalEnd refusal before after status → IsEarlyRefusal status → refusal ≡ refused.Load fault.NoMemory → ⊥
not_memory refusal before after status (inl said) early is = subst IsEarlyRefusal (said.status_is ∙ ap status_of is) early
not_memory refusal before after status (inr lacks) early is = subst IsEarlyRefusal lacks.status_is early
