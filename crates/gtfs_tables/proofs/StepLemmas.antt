-- A step of a file: what is looked up is judged, and what is wrong with it is reported.
use Rattle.std.proofs.Common.{◌≡◌, ◌⊎◌, ℕ, List, Option, Some, Result, Ok, Err, inl, inr, refl, subst, sym}
use Rattle.lc_io.specs.Folder.{FolderSeen}
use Rattle.lc_model.specs.declared.stop.Stop.{Stop}
use Rattle.gtfs_tables.specs.declared.fields.fault.FileFault.{FileFault}
use Rattle.gtfs_tables.specs.declared.fields.fault.FileFault.TheVariants as wrong
use Rattle.gtfs_tables.specs.Trips.StopTimes.{IsStopTimesFault}
use Rattle.gtfs_tables.specs.Feed.{named_at}
use Rattle.gtfs_tables.specs.Steps.{Finds, IsStep, IsWrongTimes, Judges, StepEnds, end_of}
use Rattle.gtfs_tables.specs.declared.end.End.{End}
use Rattle.gtfs_tables.specs.declared.end.End.TheVariants.{Failed, NoMemory, Wrong}
use Rattle.gtfs_tables.specs.declared.fields.trip_rows.TripRow.{TripRow}
use Rattle.gtfs_tables.specs.declared.feed_file.FeedFile.{FeedFile}
use Rattle.gtfs_tables.specs.declared.feed_file.FeedFile.TheVariants as file

ends_judged : {T U : Type 0} (old new : FolderSeen) (feed : List ℕ) (at : FeedFile) (bytes : U) (view : U → Option (List ℕ))
    (Says : Option (List ℕ) → T → Type 0) (IsWrong : Option (List ℕ) → FileFault → Type 0) (result : Result T End)
    → StepEnds old new feed at (λ found b. found ≡ view b) (λ _ _. ⊥) (Ok bytes) → Judges at (view bytes) Says IsWrong result
    → StepEnds old new feed at Says IsWrong result
ends_judged old new feed at bytes view Says IsWrong (Ok value) (found, finds, is) says =
    (view bytes, subst (Finds old new feed at) is finds, says)
ends_judged old new feed at bytes view Says IsWrong (Err (Wrong named fault)) (found, finds, is) (wrong, names) =
    (view bytes, subst (Finds old new feed at) is finds, wrong, names)
ends_judged old new feed at bytes view Says IsWrong (Err Failed) looked judged = absurd judged
ends_judged old new feed at bytes view Says IsWrong (Err NoMemory) (found, finds, is) judged = inr finds.asked

-- what was looked up was judged
pub judged : {T U : Type 0} (old new : FolderSeen) (feed : List ℕ) (at : FeedFile) (looked : Result U End) (bytes : U)
    (view : U → Option (List ℕ)) (Says : Option (List ℕ) → T → Type 0) (IsWrong : Option (List ℕ) → FileFault → Type 0) (result : Result T End)
    → looked ≡ Ok bytes → IsStep old new feed at (λ found b. found ≡ view b) (λ _ _. ⊥) looked
    → Judges at (view bytes) Says IsWrong result → IsStep old new feed at Says IsWrong result
judged {T} {U} old new feed at looked bytes view Says IsWrong result was look judges =
    record {
      kept = look.kept;
      ends = ends_judged old new feed at bytes view Says IsWrong result
          (subst (λ (r : Result U End). StepEnds old new feed at (λ found b. found ≡ view b) (λ _ _. ⊥) r) was look.ends) judges;
    }

-- what is wrong with bytes is reported of the file
pub recorded : {T : Type 0} (at : FeedFile) (bytes : List ℕ) (Says : Option (List ℕ) → T → Type 0) (IsWrong : Option (List ℕ) → FileFault → Type 0)
    (fault : FileFault) → named_at (λ _. Some bytes) at ≡ at → (fault ≡ wrong.NoMemory) ⊎ IsWrong (Some bytes) fault
    → Judges {T = T} at (Some bytes) Says IsWrong (Err (end_of at fault))
recorded at bytes Says IsWrong (wrong.Broken rule row) named (inl none) = absurd (cc)
recorded at bytes Says IsWrong (wrong.Broken rule row) named (inr is) = (is, sym named)
recorded at bytes Says IsWrong (wrong.TooMany count) named (inl none) = absurd (cc)
recorded at bytes Says IsWrong (wrong.TooMany count) named (inr is) = (is, sym named)
recorded at bytes Says IsWrong wrong.NoMemory named cause = tt

-- what is wrong with stop_times.txt is reported, where a copy of the trips was read with it
pub reported_times : {T : Type 0} (stops : List Stop) (trips copy : List TripRow) (found : Option (List ℕ)) (bytes lent : List ℕ)
    (Says : Option (List ℕ) → T → Type 0) (fault : FileFault) (end : End) → found ≡ Some bytes → lent ≡ bytes → copy ≡ trips
    → end ≡ end_of file.StopTimes fault → (fault ≡ wrong.NoMemory) ⊎ IsStopTimesFault stops copy lent fault
    → Judges {T = T} file.StopTimes found Says (IsWrongTimes stops trips) (Err end)
reported_times {T} stops trips copy found bytes lent Says fault end there same_bytes same_trips same_end cause =
    subst (λ (e : End). Judges {T = T} file.StopTimes found Says (IsWrongTimes stops trips) (Err e)) (sym same_end)
    (subst (λ (x : Option (List ℕ)). Judges {T = T} file.StopTimes x Says (IsWrongTimes stops trips) (Err (end_of file.StopTimes fault))) (sym there)
    (recorded {T = T} file.StopTimes bytes Says (IsWrongTimes stops trips) fault refl
    (subst (λ (b : List ℕ). (fault ≡ wrong.NoMemory) ⊎ IsStopTimesFault stops trips b fault) same_bytes
    (subst (λ (t : List TripRow). (fault ≡ wrong.NoMemory) ⊎ IsStopTimesFault stops t lent fault) same_trips cause))))
