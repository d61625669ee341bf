-- How a feed is read from a directory: one file after the other, each tested before the next is asked for.
use Rattle.std.specs.Prelude.{◌≡◌, ℕ, suc, ◌-◌, ◌≤◌, List, ◌++◌, take, count_by, option_map, IfSome, is_none, Some, Result, Ok, Err}
use Rattle.std.specs.List.{All}
use Rattle.lc_io.specs.Counts.{Rose, RoseBy}
use Rattle.lc_io.specs.Folder.{FolderSeen}
use Rattle.gtfs_tables.specs.declared.fields.fault.FileFault.TheVariants as wrong
use Rattle.gtfs_tables.specs.Feed.{AreTables, IsFirstBroken, IsRightAt, named_at, what_of}
use Rattle.gtfs_tables.specs.Files.{Found, feed_files, files_of, first_paths}
use Rattle.gtfs_tables.specs.declared.fault.FeedFault.{FeedFault}
use Rattle.gtfs_tables.specs.declared.fault.FeedFault.TheVariants.{Broken, Folder, NoMemory, TooLarge}
use Rattle.gtfs_tables.specs.declared.feed_file.FeedFile.{FeedFile}
use Rattle.gtfs_tables.specs.declared.tables.Tables.{Tables}

-- how many of the first files of the feed, so many, were found to be absent
abbrev pub absent_among : Found → ℕ → ℕ
absent_among found count = count_by (λ (at : FeedFile). is_none (found at)) (take count feed_files)

-- The directory was asked for the first `asked` files of the feed, in their order, and for nothing else. It answered for the
-- first `answered` of them, all or all but the last, with what was found. Each file before the last was
-- as it has to be, and each that was absent increased the count of absences.
pub record Reads (old new : FolderSeen) (feed : List ℕ) (found : Found) (asked answered : ℕ) : Type 0 where
  pub found_there : IfSome old.files (λ files. (at : FeedFile) → found at ≡ files_of files feed at)
  pub in_turn : new.asked ≡ option_map (λ names. names ++ first_paths feed asked) old.asked
  pub right_before : All (IsRightAt found) (take (asked - 1) feed_files)
  pub absences_counted : RoseBy (absent_among found answered) old.absences new.absences
  pub at_most : asked ≤ 7
  pub not_more : answered ≤ asked
  pub all_but_the_last : asked ≤ suc answered

-- How the reading of a feed ends.
--
-- Ok: all seven files are read, and these are the tables of the feed.
-- Broken: the last file that was asked for is the first that is not as it has to be. This is the first rule that it
-- breaks, with the row, and the file that is named.
-- TooLarge: the last file that was asked for is the first that is not as it has to be. It has so many rows of this kind.
-- Folder: the last file that was asked for could not be read: the count of faults before and after, which increased.
-- NoMemory: memory ran out, at any file.
abbrev pub EndsSo : FolderSeen → FolderSeen → List ℕ → Result Tables FeedFault → Type 0
EndsSo old new feed (Ok tables) = (found : Found) × Reads old new feed found 7 7 × AreTables found tables
EndsSo old new feed (Err (Broken rule file row)) =
    (found : Found) × (place : ℕ) × (at : FeedFile) × Reads old new feed found (suc place) (suc place)
    × IsFirstBroken found place at (wrong.Broken rule row) × (file ≡ named_at found at)
EndsSo old new feed (Err (TooLarge what count)) =
    (found : Found) × (place : ℕ) × (at : FeedFile) × Reads old new feed found (suc place) (suc place)
    × IsFirstBroken found place at (wrong.TooMany count) × (what_of at ≡ Some what)
EndsSo old new feed (Err (Folder before after)) =
    (before ≡ old.faults) × (after ≡ new.faults) × Rose before after
    × ((found : Found) × (place : ℕ) × Reads old new feed found (suc place) place)
EndsSo old new feed (Err NoMemory) = (found : Found) × (asked : ℕ) × (answered : ℕ) × Reads old new feed found asked answered

-- the directory has the same files, and no count has fallen
pub record Keeps (old new : FolderSeen) : Type 0 where
  pub files : new.files ≡ old.files
  pub faults : old.faults ≤ new.faults
  pub absences : old.absences ≤ new.absences
