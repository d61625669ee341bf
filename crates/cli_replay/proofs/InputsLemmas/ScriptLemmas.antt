-- How a script is followed, record after record.
use Rattle.std.proofs.Common.{◌≡◌, ◌∙◌, ◌+◌, ◌<◌, ◌++◌, ◌∷◌, ℕ, zero, suc, inl, inr, IfErr, List, [], Some, Result, Ok, Err, ap, arith, length, refl, subst, sym, take, true}
use Rattle.std.specs.List.{slice_get, slice_index_or}
use Rattle.std.proofs.lemmas.List.Sums.{sum_by-cons}
use Rattle.gtfs_tables.specs.Reading.{Keeps}
use Rattle.lc_io.specs.Counts.{Rose}
use Rattle.lc_io.specs.Folder.{FolderSeen}
use Rattle.cli_replay.specs.ReplayLaws.Events.{TurnsAreOfClients, questions_in}
use Rattle.cli_replay.specs.declared.replay_laws.event.Event.{Event}
use Rattle.cli_replay.specs.declared.replay_laws.event.Event.TheVariants as events
use Rattle.journey_text.specs.Script.{IsClient, TurnsAreOfClients as AreOfClients, clients_in, clients_of}
use Rattle.journey_text.specs.declared.script.Record.{Record}
use Rattle.journey_text.specs.declared.script.Record.TheVariants as records
use Rattle.timetable.specs.Loading.{Loads, LoadsSo}
use Rattle.timetable.specs.declared.fault.LoadFault.{LoadFault}
use Rattle.timetable.specs.declared.fault.LoadFault.TheVariants as fault
use Rattle.timetable.specs.declared.scope.Scope.{Scope}
use Rattle.timetable.specs.declared.timetable.Timetable.{Timetable}
use Rattle.cli_replay.specs.Inputs.Inputs.{ReadsFile}
use Rattle.cli_replay.specs.Inputs.Script.{HasScript, HasTimetable, IsEventOf, IsNone, IsRefusedAt, IsReplayRefused, IsScriptRefused, ReadsEvents, ReadsReplay, ReadsScript, RunsOutAt, StopsAt, fault_since}
use Rattle.cli_replay.specs.declared.inputs.refusal.Refusal.{Refusal}
use Rattle.cli_replay.specs.declared.inputs.refusal.Refusal.TheVariants.{Usage, Load, Script, Folder, LongUpdate, BrokenUpdate}
use Rattle.cli_replay.proofs.InputsLemmas.InputsLemmas.{rose_later}

-- the records before a place were read as events
pub record ReadUntil (script : List Record) (place : ℕ) (old now : FolderSeen) (all : List Event) : Type 0 where
  pub read : ReadsEvents (take place script) old now all
  pub kept : Keeps old now

read_next : (script : List Record) (place : ℕ) (said : Record) (old now new : FolderSeen) (all : List Event) (event : Event) → slice_get script place ≡ Some said
    → ReadsEvents (take place script) old now all → IsEventOf said now new event → ReadsEvents (take (suc place) script) old new (all ++ event ∷ [])
read_next [] place said old now new all event is read next = absurd (none place is) where
  none : (n : ℕ) → slice_get [] n ≡ Some said → ⊥
  none n e = cc
read_next (first ∷ script) zero said old now new [] event is read next =
    let same : first ≡ said = cc in
    (new, subst (λ (r : Record). IsEventOf r old new event) (sym same) (subst (λ (f : FolderSeen). IsEventOf said f new event) read next), refl)
read_next (first ∷ script) zero said old now new (other ∷ all) event is read next = absurd read
read_next (first ∷ script) (suc place) said old now new [] event is read next = absurd read
read_next (first ∷ script) (suc place) said old now new (other ∷ all) event is (between, one, more) next =
    (between, one, read_next script place said between now new all event is more next)

-- and with the record at the place one event more
pub read_more : (script : List Record) (place : ℕ) (said : Record) (old now new : FolderSeen) (all more : List Event) (event : Event) → slice_get script place ≡ Some said
    → ReadUntil script place old now all → IsEventOf said now new event → Keeps now new → more ≡ all ++ event ∷ [] → ReadUntil script (place + 1) old new more
read_more script place said old now new all more event is until next kept pushed = record {
  read = subst (λ n. ReadsEvents (take n script) old new more) (let e : suc place ≡ place + 1 = omega arith in e)
      (subst (ReadsEvents (take (suc place) script) old new) (sym pushed) (read_next script place said old now new all event is until.read next));
  kept = record {
    files = kept.files ∙ until.kept.files;
    faults = omega (arith, until.kept.faults, kept.faults);
    absences = omega (arith, until.kept.absences, kept.absences);
  };
}

-- what an index gives is there
slice_at : (script : List Record) (place : ℕ) (said other : Record) → place < length script → said ≡ slice_index_or script place other → slice_get script place ≡ Some said
slice_at [] place said other inside is = absurd (omega arith)
slice_at (first ∷ script) zero said other inside is = ap (λ (r : Record). Some r) (sym is)
slice_at (first ∷ script) (suc place) said other inside is = slice_at script place said other (omega arith) is

pub at_place : (records script : List Record) (place : ℕ) (said : Record) → place < length records → said ≡ slice_index_or records place said → records ≡ script → slice_get script place ≡ Some said
at_place records script place said inside is same = subst (λ (l : List Record). slice_get l place ≡ Some said) same (slice_at records place said said inside is)

-- the list parts at the place of one of its elements
record Parts (script : List Record) (place : ℕ) (said : Record) : Type 0 where
  behind : List Record
  are : script ≡ take place script ++ said ∷ behind
  counted : length (take place script) ≡ place

parts_at : (script : List Record) (place : ℕ) (said : Record) → slice_get script place ≡ Some said → Parts script place said
parts_at [] place said is = absurd (none place is) where
  none : (n : ℕ) → slice_get [] n ≡ Some said → ⊥
  none n e = cc
parts_at (first ∷ script) zero said is =
    let same : first ≡ said = cc in
    record { behind = script; are = ap (λ (r : Record). let l : List Record = r ∷ script in l) same; counted = refl }
parts_at (first ∷ script) (suc place) said is =
    let rest = parts_at script place said is in
    record { behind = rest.behind; are = ap (λ (l : List Record). let m : List Record = first ∷ l in m) rest.are; counted = ap (λ n. suc n) rest.counted }

-- the reading stops at the record that is refused
pub stops_at : (count : ℕ) (script : List Record) (place row : ℕ) (said : Record) (old now new : FolderSeen) (all : List Event) (refusal : Refusal) → slice_get script place ≡ Some said
    → ReadUntil script place old now all → row ≡ place + 1 → IsRefusedAt count row said now new refusal → StopsAt count script old new refusal
stops_at count script place row said old now new all refusal is until row_is refused =
    let parts = parts_at script place said is in
    record {
      before = take place script;
      said = said;
      behind = parts.behind;
      parts = parts.are;
      at = now;
      done = all;
      read = until.read;
      kept = until.kept;
      refused = subst (λ n. IsRefusedAt count n said now new refusal) (row_is ∙ ap (λ n. n + 1) (sym parts.counted)) refused;
    }

-- after a record that was read memory may run out
pub out_behind : (said : Record) (old new : FolderSeen) (event : Event) → IsEventOf said old new event → RunsOutAt said old new
out_behind (records.Ask query) old new (events.Ask asked) is = inl is.1
out_behind (records.Ask query) old new (events.Message message) is = absurd is
out_behind (records.Ask query) old new (events.Turn client) is = absurd is
out_behind (records.Update name) old new (events.Ask asked) is = absurd is
out_behind (records.Update name) old new (events.Message message) is = inr (name, Ok message.file.bytes, refl, is.read)
out_behind (records.Update name) old new (events.Turn client) is = absurd is
out_behind (records.Turn other) old new (events.Ask asked) is = absurd is
out_behind (records.Turn other) old new (events.Message message) is = absurd is
out_behind (records.Turn other) old new (events.Turn client) is = inl is.1

-- a record is refused whose file is no message
pub none_refused : (count row : ℕ) (said : Record) (old new : FolderSeen) (name copy bytes : List ℕ) (result : Result Event Refusal) → said ≡ records.Update name
    → IfErr result (IsNone copy bytes) → copy ≡ name → ReadsFile old new name (Ok bytes) → IfErr result (IsRefusedAt count row said old new)
none_refused count row said old new name copy bytes (Ok event) named none same read = tt
none_refused count row said old new name copy bytes (Err refusal) named none same read = by refusal none where
  by : (refusal : Refusal) → IsNone copy bytes refusal → IsRefusedAt count row said old new refusal
  by Usage is = absurd is
  by (Load (fault.Broken rule file at)) is = absurd is
  by (Load (fault.TooLarge what many)) is = absurd is
  by (Load (fault.Folder before after)) is = absurd is
  by (Load fault.NoMemory) is = inr (name, Ok bytes, named, read)
  by (Script at) is = absurd is
  by (Folder before after) is = absurd is
  by (LongUpdate many) is = (name, bytes, named, read, is.0, is.1)
  by (BrokenUpdate broken found) is =
      let there : broken ≡ name = is.0 ∙ same in
      (bytes, named ∙ ap (λ (n : List ℕ). records.Update n) (sym there), subst (λ (n : List ℕ). ReadsFile old new n (Ok bytes)) (sym there) read, is.1)

-- where the script is refused, the command is
pub script_refused : (scope : Scope) (name : List ℕ) (old new : FolderSeen) (refusal : Refusal) → IsScriptRefused true name old new refusal → IsReplayRefused scope name old new refusal
script_refused scope name old new Usage is = absurd is
script_refused scope name old new (Load (fault.Broken rule file row)) is = absurd is
script_refused scope name old new (Load (fault.TooLarge what count)) is = absurd is
script_refused scope name old new (Load (fault.Folder before after)) is = absurd is
script_refused scope name old new (Load fault.NoMemory) is = inl is
script_refused scope name old new (Script row) (inl lacks) = inl lacks
script_refused scope name old new (Script row) (inr wrong) = inr (inl wrong)
script_refused scope name old new (Folder before after) (fault, fails) = (fault, inl fails)
script_refused scope name old new (LongUpdate count) is = absurd is
script_refused scope name old new (BrokenUpdate message found) is = absurd is

-- where an event is a turn, its record is one too, and as many clients asked before it
record SplitAt (script : List Record) (before : List Event) (client : ℕ) : Type 0 where
  first : List Record
  rest : List Record
  are : script ≡ first ++ records.Turn client ∷ rest
  clients : clients_in first ≡ length (questions_in before)

turn_said : (said : Record) (old new : FolderSeen) (client : ℕ) → IsEventOf said old new (events.Turn client) → said ≡ records.Turn client
turn_said (records.Ask query) old new client is = absurd is
turn_said (records.Update name) old new client is = absurd is
turn_said (records.Turn other) old new client is = ap (λ n. records.Turn n) (sym is.0)

clients_said : (said : Record) (old new : FolderSeen) (event : Event) (before : List Event) → IsEventOf said old new event
    → clients_of said + length (questions_in before) ≡ length (questions_in (event ∷ before))
clients_said (records.Ask query) old new (events.Ask asked) before is = omega arith
clients_said (records.Ask query) old new (events.Message message) before is = absurd is
clients_said (records.Ask query) old new (events.Turn client) before is = absurd is
clients_said (records.Update name) old new (events.Ask asked) before is = absurd is
clients_said (records.Update name) old new (events.Message message) before is = omega arith
clients_said (records.Update name) old new (events.Turn client) before is = absurd is
clients_said (records.Turn other) old new (events.Ask asked) before is = absurd is
clients_said (records.Turn other) old new (events.Message message) before is = absurd is
clients_said (records.Turn other) old new (events.Turn client) before is = omega arith

split_at : (script : List Record) (old new : FolderSeen) (before behind : List Event) (client : ℕ) → ReadsEvents script old new (before ++ events.Turn client ∷ behind) → SplitAt script before client
split_at [] old new [] behind client read = absurd read
split_at [] old new (event ∷ before) behind client read = absurd read
split_at (said ∷ script) old new [] behind client (between, is, more) =
    record { first = []; rest = script; are = ap (λ (r : Record). let l : List Record = r ∷ script in l) (turn_said said old between client is); clients = refl }
split_at (said ∷ script) old new (event ∷ before) behind client (between, is, more) =
    let rest = split_at script between new before behind client more in
    record {
      first = said ∷ rest.first;
      rest = rest.rest;
      are = ap (λ (l : List Record). let m : List Record = said ∷ l in m) rest.are;
      clients = sum_by-cons clients_of said rest.first ∙ ap (λ n. clients_of said + n) rest.clients ∙ clients_said said old between event before is;
    }

-- the turns of the events are those of clients, as the turns of the script are
pub turns_read : (script : List Record) (old new : FolderSeen) (all : List Event) → ReadsEvents script old new all → AreOfClients script → TurnsAreOfClients all
turns_read script old new all read of_clients before behind client is =
    let split = split_at script old new before behind client (subst (ReadsEvents script old new) is read) in
    subst (λ n. IsClient n client) split.clients (of_clients split.first split.rest client split.are)

module _ (scope : Scope) (name : List ℕ) (old between : FolderSeen) (script : List Record) (read : ReadsScript true name old between script) (kept : Keeps old between) where
  -- the script was read
  pub has_script : HasScript name old between
  has_script = record { script = script; read = read; kept = kept }

  -- where the loading fails, the command is refused, with the count at the start
  pub load_refused : (new : FolderSeen) (count : ℕ) (found : LoadFault) → count ≡ old.faults → LoadsSo scope between new (Err found) → IsReplayRefused scope name old new (Load (fault_since count found))
  unfolding has_script
  load_refused new count (fault.Broken rule file row) is ended = record { between = between; script = has_script; ended = ended }
  load_refused new count (fault.TooLarge what many) is ended = record { between = between; script = has_script; ended = ended }
  load_refused new count (fault.Folder before after) is ended = (
    record {
      before_is = is;
      after_is = ended.1;
      rose = subst (λ n. Rose n after) (sym is) (subst (Rose old.faults) (sym ended.1)
          (rose_later old.faults between.faults new.faults kept.faults (subst (λ n. Rose n new.faults) ended.0 (subst (Rose before) ended.1 ended.2))));
    },
    record { between = between; script = has_script; fails = ended.3 },
  )
  load_refused new count fault.NoMemory is ended = inr (inl (record { between = between; script = has_script; ended = ended }))

  module _ (loaded_at : FolderSeen) (made : Timetable) (loads : Loads scope between loaded_at made) (kept_on : Keeps between loaded_at) where
    -- and the timetable was loaded
    pub has_timetable : HasTimetable scope name old loaded_at
    has_timetable = record { between = between; script = has_script; made = made; loaded = loads; kept = kept_on }

    -- where all its records are events, all was read
    pub reads_replay : (new : FolderSeen) (all : List Event) → ReadsEvents script loaded_at new all → ReadsReplay scope name old new made all
    unfolding has_timetable has_script
    reads_replay new all events = record { between = loaded_at; has = has_timetable; made_is = refl; read = events }

    -- where the reading of the script stops, the command is refused
    pub refused_at : (new : FolderSeen) (count : ℕ) (refusal : Refusal) → count ≡ old.faults → StopsAt count script loaded_at new refusal → IsReplayRefused scope name old new refusal
    unfolding has_timetable has_script
    refused_at new count refusal counted stops = by refusal (subst (λ n. StopsAt n script loaded_at new refusal) counted stops) where
      by : (refusal : Refusal) → StopsAt old.faults script loaded_at new refusal → IsReplayRefused scope name old new refusal
      by Usage x = absurd x.refused
      by (Load (fault.Broken rule file at)) x = absurd x.refused
      by (Load (fault.TooLarge what many)) x = absurd x.refused
      by (Load (fault.Folder before after)) x = absurd x.refused
      by (Load fault.NoMemory) x = inr (inr (inl (record { between = loaded_at; has = has_timetable; stops = x })))
      by (Script row) x = inr (inr (record { between = loaded_at; has = has_timetable; stops = x }))
      by (Folder before after) x =
          let at = x.refused in (
            record {
              before_is = at.0;
              after_is = at.1;
              rose = subst (λ n. Rose n after) (sym at.0) (subst (Rose old.faults) (sym at.1)
                  (rose_later old.faults x.at.faults new.faults (omega (arith, kept.faults, kept_on.faults, x.kept.faults)) (at.4.faults.rose refl)));
            },
            inr (record { between = loaded_at; has = has_timetable; stops = x }),
          )
      by (LongUpdate many) x = record { between = loaded_at; has = has_timetable; stops = x }
      by (BrokenUpdate message found) x = record { between = loaded_at; has = has_timetable; stops = x }
