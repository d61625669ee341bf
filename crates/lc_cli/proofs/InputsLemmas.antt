-- What is read by a command: the ends of the reading, and what they are over recorded files.
use Rattle.std.proofs.Common.{◌≡◌, ◌∙◌, ℕ, List, None, Some, Option, Ok, Err, IfSome, subst, refl}
use Rattle.lc_io.specs.Folder.{FolderSeen, bytes_named}
use Rattle.lc_io.specs.declared.file.File.{File}
use Rattle.lc_io.specs.declared.folder.FolderFail.TheVariants.{Absent}
use Rattle.gtfs_tables.specs.Reading.{Keeps}
use Rattle.timetable.specs.declared.scope.Scope.{Scope}
use Rattle.timetable.specs.declared.timetable.Timetable.{Timetable}
use Rattle.lc_cli.specs.Clear.{IsRecordedFile}
use Rattle.cli_replay.specs.Inputs.Inputs.{ReadsFile, ReadsInputs, ReadsUpdate}

-- a directory that records files still records them once the timetable is loaded
pub still_recorded : (recorded : List File) (old new : FolderSeen) → old.files ≡ Some recorded → Keeps old new → new.files ≡ Some recorded
still_recorded recorded old new tells kept = kept.files ∙ tells

-- what was read are the bytes of the recorded file
pub bytes_recorded : (recorded : List File) (old new : FolderSeen) (name bytes : List ℕ) → old.files ≡ Some recorded → ReadsFile old new name (Ok bytes) → bytes_named recorded name ≡ Some bytes
bytes_recorded recorded old new name bytes tells read = subst (λ t. IfSome t (λ files. bytes_named files name ≡ Some bytes)) tells read.bytes

pub absent_recorded : (recorded : List File) (old new : FolderSeen) (name : List ℕ) → old.files ≡ Some recorded → ReadsFile old new name (Err Absent) → bytes_named recorded name ≡ None
absent_recorded recorded old new name tells read = subst (λ t. IfSome t (λ files. bytes_named files name ≡ None)) tells (read.absent refl)

-- the file that was read is the recorded one
file_recorded : (recorded : List File) (update : Option (List ℕ)) (old new : FolderSeen) (file : Option File) → old.files ≡ Some recorded → ReadsUpdate update old new file → IsRecordedFile recorded update file
file_recorded recorded None old new None tells read = tt
file_recorded recorded None old new (Some file) tells read = read
file_recorded recorded (Some name) old new None tells read = read
file_recorded recorded (Some name) old new (Some file) tells read = (read.named, bytes_recorded recorded old new name file.bytes tells read.read)

pub inputs_recorded : (recorded : List File) (scope : Scope) (update : Option (List ℕ)) (old new : FolderSeen) (made : Timetable) (file : Option File) → old.files ≡ Some recorded
    → ReadsInputs scope update old new made file → IsRecordedFile recorded update file
inputs_recorded recorded scope update old new made file tells read =
    file_recorded recorded update read.between new file (still_recorded recorded old read.between tells read.kept) read.read
