-- How the loading ends after the zone: with a timetable, or for a fault of the feed or of its timetable.
use Rattle.std.proofs.Common.{◌≡◌, ◌∙◌, inl, inr, ℕ, ◌≤◌, Result, Ok, Err, IfErr, IfOk, arith, refl, subst, sym}
use Rattle.lc_io.specs.Counts.{Rose}
use Rattle.lc_io.specs.Folder.{FolderSeen}
use Rattle.lc_time.specs.declared.zone.Zone.{Zone}
use Rattle.gtfs_tables.specs.Reading.{EndsSo, Keeps}
use Rattle.gtfs_tables.specs.declared.fault.FeedFault.{FeedFault}
use Rattle.gtfs_tables.specs.declared.fault.FeedFault.TheVariants as feed
use Rattle.gtfs_tables.specs.declared.tables.Tables.{Tables}
use Rattle.timetable.specs.Loading.{IsReportedAs, LoadsSo, ReadsFeed}
use Rattle.timetable.specs.Made.{FailsToMake}
use Rattle.timetable.specs.Timetable.{IsTimetableOf}
use Rattle.timetable.specs.Zone.{ReadsZone}
use Rattle.timetable.specs.declared.fault.LoadFault.{LoadFault}
use Rattle.timetable.specs.declared.fault.LoadFault.TheVariants.{Broken, TooLarge, Folder, NoMemory}
use Rattle.timetable.specs.declared.scope.Scope.{Scope}
use Rattle.timetable.specs.declared.timetable.Timetable.{Timetable}

-- a directory that stays from one state to the next, and then to a third, stays from the first to the third
pub kept_then : (a b c : FolderSeen) → Keeps a b → Keeps b c → Keeps a c
kept_then a b c p q = record {
  files = q.files ∙ p.files;
  faults = omega (arith, p.faults, q.faults);
  absences = omega (arith, p.absences, q.absences);
}

-- a count that increased after it had not fallen increased over all
rose_then : (a b c : ℕ) → a ≤ b → Rose b c → Rose a c
rose_then a b c kept rose = omega (arith, kept, rose)

module _ (scope : Scope) (old mid new : FolderSeen) (zone : Zone) (read : ReadsZone old mid scope.zone zone) where
  reads : (result : Result Tables FeedFault) → EndsSo mid new scope.feed result → ReadsFeed scope old new zone result
  reads result ends = record { between = mid; zone_read = read; files_read = ends }

  pub made_ends : (tables : Tables) (result : Result Timetable LoadFault) → EndsSo mid new scope.feed (Ok tables) → IfOk result (IsTimetableOf scope zone tables) → IfErr result (FailsToMake scope zone tables) → LoadsSo scope old new result
  made_ends tables (Ok made) ends is fails = record { zone = zone; tables = tables; read = reads (Ok tables) ends; is = is }
  made_ends tables (Err (Broken rule file row)) ends is fails = absurd fails
  made_ends tables (Err (TooLarge what count)) ends is fails = inr (record { zone = zone; tables = tables; read = reads (Ok tables) ends; much = fails })
  made_ends tables (Err (Folder before after)) ends is fails = absurd fails
  made_ends tables (Err NoMemory) ends is fails = inr (zone, Ok tables, reads (Ok tables) ends)

  ran_out : (found : FeedFault) (recorded : LoadFault) → EndsSo mid new scope.feed (Err found) → recorded ≡ NoMemory → LoadsSo scope old new (Err recorded)
  ran_out found recorded ends is = subst (λ (t : LoadFault). LoadsSo scope old new (Err t)) (sym is) (inr (zone, Err found, reads (Err found) ends))

  pub fault_ends : (found : FeedFault) (recorded : LoadFault) (before : ℕ) → EndsSo mid new scope.feed (Err found) → IsReportedAs found before recorded → before ≡ old.faults → old.faults ≤ mid.faults → LoadsSo scope old new (Err recorded)
  fault_ends (feed.Broken rule at row) recorded before ends (inl is) at_start kept =
      subst (λ (t : LoadFault). LoadsSo scope old new (Err t)) (sym is) (inr (record { zone = zone; at = at; read = reads (Err (feed.Broken rule at row)) ends; named = refl }))
  fault_ends (feed.Broken rule at row) recorded before ends (inr is) at_start kept = ran_out (feed.Broken rule at row) recorded ends is
  fault_ends (feed.TooLarge what count) recorded before ends is at_start kept =
      subst (λ (t : LoadFault). LoadsSo scope old new (Err t)) (sym is) (inl (record { zone = zone; read = reads (Err (feed.TooLarge what count)) ends }))
  fault_ends (feed.Folder first after) recorded before ends is at_start kept =
      let rose = rose_then before first after (omega (arith, at_start, kept, ends.0)) ends.2 in
      subst (λ (t : LoadFault). LoadsSo scope old new (Err t)) (sym is)
      (at_start, ends.1, rose, inr (zone, first, after, reads (Err (feed.Folder first after)) ends))
  fault_ends feed.NoMemory recorded before ends is at_start kept = ran_out feed.NoMemory recorded ends is
