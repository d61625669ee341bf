-- What was asked for of the message of a command, and why the command is refused.
use Rattle.std.proofs.Common.{◌≡◌, ◌∙◌, ◌≤◌, inl, inr, ℕ, List, None, Some, Option, Ok, Err, ap, arith, refl, subst, sym}
use Rattle.gtfs_tables.specs.Reading.{Keeps}
use Rattle.lc_io.specs.Counts.{Rose}
use Rattle.lc_io.specs.Folder.{FolderSeen}
use Rattle.lc_io.specs.declared.file.File.{File}
use Rattle.lc_io.specs.declared.folder.FolderFail.{FolderFail}
use Rattle.lc_io.specs.declared.folder.FolderFail.TheVariants.{Failed}
use Rattle.timetable.specs.Loading.{Loads}
use Rattle.timetable.specs.declared.fault.LoadFault.TheVariants as fault
use Rattle.timetable.specs.declared.scope.Scope.{Scope}
use Rattle.timetable.specs.declared.timetable.Timetable.{Timetable}
use Rattle.cli_replay.specs.Inputs.Inputs.{AsksForUpdate, EndsUpdate, FailsAtUpdate, IsMessageRefusal, IsRefusedFor, ReadsInputs, ReadsUpdate, RunsOut}
use Rattle.cli_replay.specs.declared.inputs.refusal.Refusal.{Refusal}
use Rattle.cli_replay.specs.declared.inputs.refusal.Refusal.TheVariants.{Usage, Load, Script, Folder, LongUpdate, BrokenUpdate}

-- a count that increased after it had not fallen increased over all
pub rose_later : (before between after : ℕ) → before ≤ between → Rose between after → Rose before after
rose_later before between after not_fallen rose = omega (arith, not_fallen, rose)

module _ (scope : Scope) (update : Option (List ℕ)) (old between new : FolderSeen) (made : Timetable) (loads : Loads scope old between made) (kept : Keeps old between) where
  -- a file that could not be read was asked for after the timetable
  pub asks_for : (fail : FolderFail) → EndsUpdate update between new (Err fail) → AsksForUpdate scope update old new (Err fail)
  asks_for fail ends = by update refl ends where
    by : (named : Option (List ℕ)) → update ≡ named → EndsUpdate named between new (Err fail) → AsksForUpdate scope update old new (Err fail)
    by None is ends = absurd ends
    by (Some name) is ends = record { between = between; made = made; loaded = loads; kept = kept; name = name; named = is; read = ends }

  -- where the reading failed, the count increased
  pub fails_at : (before after : ℕ) → before ≡ old.faults → after ≡ new.faults → EndsUpdate update between new (Err Failed) → FailsAtUpdate scope update old new before after
  fails_at before after b a ends =
      let asks = asks_for Failed ends in record {
        asks = asks;
        before_is = b;
        after_is = a;
        rose = subst (λ n. Rose n after) (sym b) (subst (Rose old.faults) (sym a) (rose_later old.faults asks.between.faults new.faults asks.kept.faults (asks.read.faults.rose refl)));
      }

-- the file that was read was asked for after the timetable
asked_file : (scope : Scope) (update : Option (List ℕ)) (old new : FolderSeen) (made : Timetable) (file : Option File) (there : File) → ReadsInputs scope update old new made file → file ≡ Some there
    → AsksForUpdate scope update old new (Ok there.bytes) × (update ≡ Some there.name)
asked_file scope update old new made file there read is = by update refl (subst (ReadsUpdate update read.between new) is read.read) where
  by : (named : Option (List ℕ)) → update ≡ named → ReadsUpdate named read.between new (Some there) → AsksForUpdate scope update old new (Ok there.bytes) × (update ≡ Some there.name)
  by None same x = absurd x
  by (Some name) same x =
      (record { between = read.between; made = made; loaded = read.loaded; kept = read.kept; name = name; named = same; read = x.read }, same ∙ ap (λ n. Some n) (sym x.named))

-- memory may run out after what was read
pub runs_out : (scope : Scope) (update : Option (List ℕ)) (old new : FolderSeen) (made : Timetable) (file : Option File) → ReadsInputs scope update old new made file → RunsOut scope update old new
runs_out scope update old new made file read = by update file refl refl read.read where
  by : (named : Option (List ℕ)) (there : Option File) → update ≡ named → file ≡ there → ReadsUpdate named read.between new there → RunsOut scope update old new
  by None None same is x = inl (Ok made, subst (λ (f : FolderSeen). Loads scope old f made) (sym x) read.loaded)
  by None (Some there) same is x = absurd x
  by (Some name) None same is x = absurd x
  by (Some name) (Some there) same is x = inr (Ok there.bytes, (asked_file scope update old new made file there read is).0)

-- why a file is no message is why the command is refused
pub message_refused : (scope : Scope) (update : Option (List ℕ)) (old new : FolderSeen) (made : Timetable) (file : Option File) (refusal : Refusal) → ReadsInputs scope update old new made file
    → IsMessageRefusal file refusal → IsRefusedFor scope update old new refusal
message_refused scope update old new made file Usage read is = absurd is
message_refused scope update old new made file (Load (fault.Broken rule name row)) read is = absurd is
message_refused scope update old new made file (Load (fault.TooLarge what count)) read is = absurd is
message_refused scope update old new made file (Load (fault.Folder before after)) read is = absurd is
message_refused scope update old new made file (Load fault.NoMemory) read is = runs_out scope update old new made file read
message_refused scope update old new made file (Script row) read is = absurd is
message_refused scope update old new made file (Folder before after) read is = absurd is
message_refused scope update old new made file (LongUpdate count) read is =
    record { bytes = is.there.bytes; asks = (asked_file scope update old new made file is.there read is.is).0; long = is.long; counted = is.counted }
message_refused scope update old new made file (BrokenUpdate name found) read is =
    let asked = asked_file scope update old new made file is.there read is.is in
    record { bytes = is.there.bytes; asks = asked.0; named = asked.1 ∙ ap (λ n. Some n) (sym is.named); broken = is.broken }
