-- How the end of the walk is reported as a fault of the feed.
use Rattle.std.proofs.Common.{◌≡◌, ◌∙◌, ℕ, Bool, true, false, cond, inl, inr, List, Option, Some, None, IsSome, Err, ap, ap₂, refl, subst, sym}
use Rattle.std.specs.Prelude.{is_none, MatchOption}
use Rattle.lc_io.specs.Counts.{Rose}
use Rattle.lc_io.specs.Folder.{FolderSeen}
use Rattle.gtfs_rows.specs.Sheet.{Sheet}
use Rattle.gtfs_tables.specs.Fields.AnyLength.{IsFirstFault}
use Rattle.gtfs_tables.specs.Fields.Table.{IsFileFault}
use Rattle.gtfs_tables.specs.declared.fields.fault.FileFault.TheVariants as wrong
use Rattle.gtfs_tables.specs.declared.fields.trip_rows.TripRow.{TripRow}
use Rattle.gtfs_tables.specs.Trips.StopTimes.{IsStopTimesFault}
use Rattle.lc_model.specs.declared.stop.Stop.{Stop}
use Rattle.gtfs_tables.specs.Feed.{Holds, IsAbsence, IsFaultAt, IsFirstBroken, named_at, what_of}
use Rattle.gtfs_tables.specs.Files.{Found}
use Rattle.gtfs_tables.specs.Reading.{EndsSo}
use Rattle.gtfs_tables.specs.Steps.{IsFaultOf, IsReportable, WalkEnds}
use Rattle.gtfs_tables.specs.declared.end.End.{End}
use Rattle.gtfs_tables.specs.declared.end.End.TheVariants.{Failed, NoMemory, Wrong}
use Rattle.gtfs_tables.specs.declared.fault.FeedFault.{FeedFault}
use Rattle.gtfs_tables.specs.declared.fault.FeedFault.TheVariants as fault
use Rattle.gtfs_tables.specs.declared.feed_file.FeedFile.{FeedFile}
use Rattle.gtfs_tables.specs.declared.feed_file.FeedFile.TheVariants as file
use Rattle.gtfs_tables.specs.declared.what.What.{What}

-- a file whose rows have no limit has no fault of too many, and no file has one of memory
not_too_many : (columns : List (List ℕ)) (rule_at : Sheet → ℕ → Option ℕ) (bytes : List ℕ) (count : ℕ)
    → IsFirstFault columns rule_at bytes (wrong.TooMany count) → ⊥
not_too_many columns rule_at bytes count (inl none) = none
not_too_many columns rule_at bytes count (inr broken) = broken.first

not_memory : (columns : List (List ℕ)) (rule_at : Sheet → ℕ → Option ℕ) (bytes : List ℕ) → IsFirstFault columns rule_at bytes wrong.NoMemory → ⊥
not_memory columns rule_at bytes (inl none) = none
not_memory columns rule_at bytes (inr broken) = broken.first

not_memory_of_file : (columns : List (List ℕ)) (most : ℕ) (rule_at : Sheet → ℕ → Option ℕ) (bytes : List ℕ)
    → IsFileFault columns most rule_at bytes wrong.NoMemory → ⊥
not_memory_of_file columns most rule_at bytes (inl none) = none
not_memory_of_file columns most rule_at bytes (inr broken) = broken.first

not_memory_of_times : (stops : List Stop) (trips : List TripRow) (bytes : List ℕ) → IsStopTimesFault stops trips bytes wrong.NoMemory → ⊥
not_memory_of_times stops trips bytes (inl fault) = not_memory_of_file _ _ _ bytes fault
not_memory_of_times stops trips bytes (inr broken) = broken.first

not_absent : IsAbsence wrong.NoMemory → ⊥
not_absent same = cc

-- a file that may be absent
of_optional : (found : Option (List ℕ)) (P : List ℕ → Type 0) → ((bytes : List ℕ) → P bytes → ⊥) → Holds found P → ⊥
of_optional None P never holds = holds
of_optional (Some bytes) P never holds = never bytes holds

-- a file that has to be there
of_required : (found : Option (List ℕ)) (Q : Type 0) (P : List ℕ → Type 0) → (Q → ⊥) → ((bytes : List ℕ) → P bytes → ⊥) → MatchOption found Q P → ⊥
of_required None Q P absent never holds = absent holds
of_required (Some bytes) Q P absent never holds = never bytes holds

never_memory : (found : Found) (at : FeedFile) → IsFaultAt found at wrong.NoMemory → ⊥
never_memory found file.Stops is = of_required (found file.Stops) _ _ not_absent (λ bytes h. not_memory_of_file _ _ _ bytes h) is
never_memory found file.Trips is = of_required (found file.Trips) _ _ not_absent (λ bytes h. not_memory_of_file _ _ _ bytes h) is
never_memory found file.StopTimes (stops, trips, s, t, is) = of_required (found file.StopTimes) _ _ not_absent (λ bytes h. not_memory_of_times stops trips bytes h) is
never_memory found file.Calendar is = of_optional (found file.Calendar) _ (λ bytes h. not_memory _ _ bytes h) is
never_memory found file.CalendarDates is = of_required (found file.CalendarDates) _ _ (λ both. not_absent both.1) (λ bytes h. not_memory _ _ bytes h) is
never_memory found file.Frequencies (trips, t, is) = of_optional (found file.Frequencies) _ (λ bytes h. not_memory _ _ bytes h) is
never_memory found file.Transfers (stops, s, is) = of_optional (found file.Transfers) _ (λ bytes h. not_memory _ _ bytes h) is

no_number : (count : ℕ) → IsAbsence (wrong.TooMany count) → ⊥
no_number count same = cc

-- what has too many rows has a limit on them
limited : (found : Found) (at : FeedFile) (count : ℕ) → IsFaultAt found at (wrong.TooMany count) → IsSome (what_of at)
limited found file.Stops count is = refl
limited found file.Trips count is = refl
limited found file.StopTimes count is = refl
limited found file.Calendar count is = absurd (of_optional (found file.Calendar) _ (λ bytes h. not_too_many _ _ bytes count h) is)
limited found file.CalendarDates count is =
    absurd (of_required (found file.CalendarDates) _ _ (λ both. no_number count both.1) (λ bytes h. not_too_many _ _ bytes count h) is)
limited found file.Frequencies count (trips, t, is) = absurd (of_optional (found file.Frequencies) _ (λ bytes h. not_too_many _ _ bytes count h) is)
limited found file.Transfers count (stops, s, is) = absurd (of_optional (found file.Transfers) _ (λ bytes h. not_too_many _ _ bytes count h) is)

-- the file that is named has the limit of the file at which the reading ends
what_of_either : (b : Bool) → what_of (cond b file.Calendar file.CalendarDates) ≡ None
what_of_either true = refl
what_of_either false = refl

what_of_named : (found : Found) (at : FeedFile) → what_of (named_at found at) ≡ what_of at
what_of_named found file.Stops = refl
what_of_named found file.Trips = refl
what_of_named found file.StopTimes = refl
what_of_named found file.Calendar = refl
what_of_named found file.CalendarDates = what_of_either (is_none (found file.CalendarDates))
what_of_named found file.Frequencies = refl
what_of_named found file.Transfers = refl

-- the counts that are reported are those of the directory
rose_reported : (first last before after : ℕ) → first ≡ before → last ≡ after → Rose before after → Rose first last
rose_reported first last before after b a rose = subst (λ (n : ℕ). Rose n last) (sym b) (subst (Rose before) (sym a) rose)

-- the end of a walk can be reported
pub reportable : (old new : FolderSeen) (feed : List ℕ) (end : End) → WalkEnds old new feed (Err end) → IsReportable end
reportable old new feed (Wrong named (wrong.Broken rule row)) ends = tt
reportable old new feed (Wrong named (wrong.TooMany count)) (found, place, at, reads, first, names) =
    subst (λ (f : FeedFile). IsSome (what_of f)) (sym names) (subst (λ (o : Option What). IsSome o) (sym (what_of_named found at)) (limited found at count first.broken))
reportable old new feed (Wrong named wrong.NoMemory) (found, place, at, reads, first, names) = never_memory found at first.broken
reportable old new feed Failed ends = tt
reportable old new feed NoMemory ends = tt

-- the end of a walk is reported as its fault
pub reported_so : (old new : FolderSeen) (feed : List ℕ) (end : End) (before after : ℕ) (recorded : FeedFault) → WalkEnds old new feed (Err end)
    → before ≡ old.faults → after ≡ new.faults → IsFaultOf end before after recorded → EndsSo old new feed (Err recorded)
reported_so old new feed (Wrong named (wrong.Broken broken place)) before after (fault.Broken rule file row) (found, at_place, at, reads, first, names) b a is = (
  found,
  at_place,
  at,
  reads,
  subst (IsFirstBroken found at_place at) (ap₂ (λ (r : ℕ) (p : ℕ). wrong.Broken r p) (sym is.0) (sym is.2)) first,
  is.1 ∙ names,
)
reported_so old new feed (Wrong named (wrong.TooMany rows)) before after (fault.TooLarge what count) (found, place, at, reads, first, names) b a is = (
  found,
  place,
  at,
  reads,
  subst (IsFirstBroken found place at) (ap (λ (n : ℕ). wrong.TooMany n) (sym is.1)) first,
  sym (what_of_named found at) ∙ ap (λ (f : FeedFile). what_of f) (sym names) ∙ is.0,
)
reported_so old new feed Failed before after (fault.Folder first last) ends b a is =
    (is.0 ∙ b, is.1 ∙ a, rose_reported first last old.faults new.faults (is.0 ∙ b) (is.1 ∙ a) ends.0, ends.1)
reported_so old new feed NoMemory before after fault.NoMemory ends b a is = ends
reported_so old new feed end before after recorded ends b a is = absurd is
