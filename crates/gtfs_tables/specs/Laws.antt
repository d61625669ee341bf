-- What was found of a feed says one thing of it.
use Rattle.std.specs.Prelude.{◌≡◌, ℕ}
use Rattle.gtfs_tables.specs.declared.fields.fault.FileFault.{FileFault}
use Rattle.gtfs_tables.specs.Feed.{AreTables, IsFirstBroken}
use Rattle.gtfs_tables.specs.Files.{Found}
use Rattle.gtfs_tables.specs.declared.feed_file.FeedFile.{FeedFile}
use Rattle.gtfs_tables.specs.declared.tables.Tables.{Tables}

-- the tables of a feed are one
abbrev pub OneTables : Type 0
OneTables = (found : Found) (a b : Tables) → AreTables found a → AreTables found b → a ≡ b

-- at most one file is the first that is not as it has to be, and one thing is wrong first with it
abbrev pub OneFirst : Type 0
OneFirst =
    (found : Found) (place other : ℕ) (a b : FeedFile) (x y : FileFault) → IsFirstBroken found place a x → IsFirstBroken found other b y
    → (place ≡ other) × (a ≡ b) × (x ≡ y)

-- a feed that has tables has no such file
abbrev pub NeverBoth : Type 0
NeverBoth =
    (found : Found) (tables : Tables) (place : ℕ) (at : FeedFile) (fault : FileFault) → AreTables found tables → IsFirstBroken found place at fault → ⊥
