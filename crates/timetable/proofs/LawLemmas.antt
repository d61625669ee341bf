-- The timetable of a feed is one, and a feed that has one is not refused.
use Rattle.std.proofs.Common.{◌≡◌, ◌∙◌, ◌⊎◌, ℕ, suc, inl, inr, List, length, Option, Some, None, ap, arith, subst, sym, refl}
use Rattle.std.specs.Prelude.{IfSome, MatchOption, option_and_then}
use Rattle.lc_io.specs.Folder.{FolderSeen, bytes_named}
use Rattle.lc_io.specs.declared.file.File.{File}
use Rattle.lc_model.specs.Connection.{connections_of}
use Rattle.lc_model.specs.declared.run.Run.{Run}
use Rattle.lc_model.proofs.OneValueLemmas.{documents_are_one}
use Rattle.lc_time.specs.declared.zone.Zone.{Zone}
use Rattle.change_table.specs.ChangeTable.{OneListOfChanges}
use Rattle.service_days.specs.Laws.{OneListOfDays, OneZone, ShowSame}
use Rattle.service_days.specs.ZoneWord.{IsWrong, SaysZone, file_named}
use Rattle.service_days.specs.declared.service_day.ServiceDay.{ServiceDay}
use Rattle.gtfs_tables.specs.declared.fields.trip_rows.TripRow.{TripRow}
use Rattle.gtfs_tables.specs.declared.trips.stop_times.StopTime.{StopTime}
use Rattle.gtfs_tables.specs.declared.calendars.frequency.Frequency.{Frequency}
use Rattle.gtfs_tables.specs.Feed.{AreTables, IsFirstBroken}
use Rattle.gtfs_tables.specs.declared.fields.fault.FileFault.{FileFault}
use Rattle.gtfs_tables.specs.declared.fields.fault.FileFault.TheVariants as wrong
use Rattle.gtfs_tables.specs.Files.{Found, files_of}
use Rattle.gtfs_tables.specs.Laws.{NeverBoth, OneTables}
use Rattle.gtfs_tables.specs.Reading.{Reads}
use Rattle.gtfs_tables.specs.declared.feed_file.FeedFile.{FeedFile}
use Rattle.gtfs_tables.specs.declared.tables.Tables.{Tables}
use Rattle.gtfs_tables.specs.declared.what.What.{What}
use Rattle.trip_calls.specs.Laws.{OneListOfRuns}
use Rattle.trip_calls.specs.Runs.{AreRunsOf, IsRunOf}
use Rattle.timetable.specs.Laws.{AreSame, LoadsRecorded, NotBroken, NotTooLarge, OneOfTables, OneTimetable}
use Rattle.timetable.specs.Loading.{ReadsTables}
use Rattle.timetable.specs.Made.{HasManyChangesAlone, HasManyConnections}
use Rattle.timetable.specs.Timetable.{HasFewChanges, IsTimetableOf, RunsAre}
use Rattle.timetable.specs.Recorded.{IsSound, zone_bytes}
use Rattle.timetable.specs.Zone.{Finds, ReadsZone}
use Rattle.timetable.specs.declared.scope.Scope.{Scope}
use Rattle.timetable.specs.declared.timetable.Timetable.{Timetable}

-- a word that says a zone says one
abbrev pub NeverWrong : Type 0
NeverWrong = (word : List ℕ) (file : Option (List ℕ)) (zone : Zone) → SaysZone word file zone → IsWrong word file → ⊥

-- runs by one zone are runs by another one that shows the same
run_by_other : (a b : Zone) (trips : List TripRow) (times : List StopTime) (frequencies : List Frequency) (days : List ServiceDay) (run : Run) → ShowSame a b → IsRunOf trips times frequencies days a run → IsRunOf trips times frequencies days b run
run_by_other a b trips times frequencies days run same is = record {
  trip = is.trip;
  stands = is.stands;
  trip_is = is.trip_is;
  on_date = is.on_date;
  starts = is.starts;
  anchor = is.anchor;
  anchor_is = sym (same.anchors run.key.date) ∙ is.anchor_is;
  calls = is.calls;
}

flipped : (a b : Zone) → ShowSame a b → ShowSame b a
flipped a b same = record { anchors = λ date. sym (same.anchors date); dates = λ moment. sym (same.dates moment) }

pub runs_by_other : (a b : Zone) (scope : Scope) (tables : Tables) (runs : List Run) → ShowSame a b → RunsAre scope a tables runs → RunsAre scope b tables runs
runs_by_other a b scope tables runs same are = record {
  days = are.days;
  are_days = are.are_days;
  are_runs = record {
    all = λ run. (
      λ h. run_by_other a b tables.trips tables.stop_times tables.frequencies are.days run same ((are.are_runs.all run).0 h),
      λ h. (are.are_runs.all run).1 (run_by_other b a tables.trips tables.stop_times tables.frequencies are.days run (flipped a b same) h),
    );
    in_order = are.are_runs.in_order;
  };
}

module _ (one_days : OneListOfDays) (one_runs : OneListOfRuns) where
  -- tables have one list of runs
  pub one_of_runs : (scope : Scope) (zone : Zone) (tables : Tables) (a b : List Run) → RunsAre scope zone tables a → RunsAre scope zone tables b → a ≡ b
  one_of_runs scope zone tables a b p q =
      let days = one_days tables.services.weekly tables.services.dates scope.first scope.days p.days q.days p.are_days q.are_days in
      one_runs tables.trips tables.stop_times tables.frequencies q.days zone a b
      (subst (λ (d : List ServiceDay). AreRunsOf tables.trips tables.stop_times tables.frequencies d zone a) days p.are_runs) q.are_runs

  module _ (one_changes : OneListOfChanges) where
    -- tables have one timetable, by zones that show the same
    one_by : (scope : Scope) (x y : Zone) (tables : Tables) (a b : Timetable) → ShowSame x y → IsTimetableOf scope x tables a → IsTimetableOf scope y tables b → AreSame a b
    one_by scope x y tables a b same p q =
        let runs = one_of_runs scope y tables a.runs b.runs (runs_by_other x y scope tables a.runs same p.runs) q.runs in
        record {
          zones = subst (λ z. ShowSame z b.zone) (sym p.zone_is) (subst (ShowSame x) (sym q.zone_is) same);
          runs = runs;
          doc =
              documents_are_one a.doc b.doc (p.doc.stops ∙ sym q.doc.stops)
              (one_changes tables.stops tables.transfers scope.change a.doc.changes b.doc.changes p.doc.changes q.doc.changes);
          connections = p.connections ∙ ap (λ (r : List Run). length (connections_of r)) runs ∙ sym q.connections;
          trips = p.trips ∙ sym q.trips;
          left_out = p.left_out ∙ sym q.left_out;
        }

    pub one_of_tables : OneOfTables
    one_of_tables scope zone tables a b p q =
        one_by scope zone zone tables a b (record { anchors = λ date. refl; dates = λ moment. refl }) p q

    module _ (one_zone : OneZone) (one_tables : OneTables) where
      pub one_timetable : OneTimetable
      one_timetable files scope a b p q =
          let tables = one_tables (files_of files scope.feed) p.tables q.tables p.are_tables q.are_tables in
          let zones = one_zone scope.zone (zone_bytes files scope.zone) p.zone q.zone p.says q.says in
          one_by scope p.zone q.zone q.tables a b zones (subst (λ (t : Tables). IsTimetableOf scope p.zone t a) tables p.is) q.is

-- what was looked up of the zone's word is what recorded files have
pub looked_up : (files : List File) (old new : FolderSeen) (found named : Option (List ℕ)) → old.files ≡ Some files
    → MatchOption named ((new ≡ old) × (found ≡ None)) (λ name. Finds old new name found)
    → (new.files ≡ Some files) × (found ≡ option_and_then (bytes_named files) named)
looked_up files old new found None tells (same, none) = (ap (λ (f : FolderSeen). f.files) same ∙ tells, none)
looked_up files old new found (Some name) tells finds =
    (finds.kept.files ∙ tells, subst (λ t. IfSome t (λ files. found ≡ bytes_named files name)) tells finds.there)

-- what was found of a feed is what recorded files have
pub found_is : (recorded : Option (List File)) (files : List File) (name : List ℕ) (found : Found) → recorded ≡ Some files
    → IfSome recorded (λ files. (at : FeedFile) → found at ≡ files_of files name at) → found ≡ files_of files name
found_is recorded files name found tells there = λ i at. subst (λ t. IfSome t (λ files. (at : FeedFile) → found at ≡ files_of files name at)) tells there at i

-- the zone that was read is the one that recorded files say
pub zone_recorded : (files : List File) (old new : FolderSeen) (word : List ℕ) (zone : Zone) → old.files ≡ Some files → ReadsZone old new word zone → SaysZone word (zone_bytes files word) zone
zone_recorded files old new word zone tells read =
    subst (λ found. SaysZone word found zone) (looked_up files old new read.found (file_named word) tells read.looked).1 read.says

-- the directory records these files once the zone is read, too
pub still_recorded : (files : List File) (old new : FolderSeen) (word : List ℕ) (zone : Zone) → old.files ≡ Some files → ReadsZone old new word zone → new.files ≡ Some files
still_recorded files old new word zone tells read = (looked_up files old new read.found (file_named word) tells read.looked).0

-- the tables that were read are those of recorded files
pub tables_recorded : (files : List File) (scope : Scope) (old new : FolderSeen) (zone : Zone) (tables : Tables) → old.files ≡ Some files → ReadsTables scope old new zone tables → AreTables (files_of files scope.feed) tables
tables_recorded files scope old new zone tables tells read =
    let recorded = still_recorded files old read.between scope.zone zone tells read.zone_read in
    let ends = read.files_read in
    subst (λ (found : Found). AreTables found tables) (found_is read.between.files files scope.feed ends.0 recorded ends.1.found_there) ends.2

-- what is loaded from recorded files is their timetable
pub loads_recorded : LoadsRecorded
loads_recorded files scope old new made tells loads = record {
  zone = loads.zone;
  says = zone_recorded files old loads.read.between scope.zone loads.zone tells loads.read.zone_read;
  tables = loads.tables;
  are_tables = tables_recorded files scope old new loads.zone loads.tables tells loads.read;
  is = loads.is;
}

module _ (never_both : NeverBoth) (never_wrong : NeverWrong) where
  -- no file of a feed that has tables is wrong
  not_wrong : (files : List File) (scope : Scope) (old new : FolderSeen) (made : Timetable) (zone : Zone) (between : FolderSeen) (found : Found) (place asked answered : ℕ) (at : FeedFile) (wrong : FileFault) → old.files ≡ Some files
      → IsSound files scope made → ReadsZone old between scope.zone zone → Reads between new scope.feed found asked answered → IsFirstBroken found place at wrong → ⊥
  not_wrong files scope old new made zone between found place asked answered at wrong tells sound zone_read reads first =
      let recorded = still_recorded files old between scope.zone zone tells zone_read in
      let same = found_is between.files files scope.feed found recorded reads.found_there in
      never_both (files_of files scope.feed) sound.tables place at wrong sound.are_tables (subst (λ (f : Found). IsFirstBroken f place at wrong) same first)

  pub not_broken : NotBroken
  not_broken files scope old new made rule file row tells sound (inl none) =
      never_wrong scope.zone (zone_bytes files scope.zone) sound.zone sound.says
      (subst (λ found. IsWrong scope.zone found) (looked_up files old new none.wrong.found (file_named scope.zone) tells none.wrong.looked).1 none.wrong.wrong)
  not_broken files scope old new made rule file row tells sound (inr breaks) =
      let ends = breaks.read.files_read in
      not_wrong files scope old new made breaks.zone breaks.read.between ends.0 ends.1 (suc ends.1) (suc ends.1) ends.2 (wrong.Broken rule row) tells sound breaks.read.zone_read ends.3 ends.4

  module _ (one_zone : OneZone) (one_tables : OneTables) (one_days : OneListOfDays) (one_runs : OneListOfRuns) where
    -- the runs of the tables that were read are those of the timetable
    same_runs : (files : List File) (scope : Scope) (old new : FolderSeen) (made : Timetable) (zone : Zone) (tables : Tables) (runs : List Run) → old.files ≡ Some files → IsSound files scope made → ReadsTables scope old new zone tables → RunsAre scope zone tables runs → runs ≡ made.runs
    same_runs files scope old new made zone tables runs tells sound read are =
        let one = one_tables (files_of files scope.feed) tables sound.tables (tables_recorded files scope old new zone tables tells read) sound.are_tables in
        let zones = one_zone scope.zone (zone_bytes files scope.zone) zone sound.zone (zone_recorded files old read.between scope.zone zone tells read.zone_read) sound.says in
        one_of_runs one_days one_runs scope sound.zone sound.tables runs made.runs
        (runs_by_other zone sound.zone scope sound.tables runs zones (subst (λ (t : Tables). RunsAre scope zone t runs) one are)) sound.is.runs

    not_much : (files : List File) (scope : Scope) (old new : FolderSeen) (made : Timetable) (zone : Zone) (tables : Tables) (what : What) (count : ℕ) → old.files ≡ Some files → IsSound files scope made → ReadsTables scope old new zone tables
        → HasManyConnections scope zone tables what count ⊎ HasManyChangesAlone scope zone tables what count → ⊥
    not_much files scope old new made zone tables what count tells sound read (inl many) =
        let runs = same_runs files scope old new made zone tables many.runs tells sound read many.are_runs in
        let as_many : length (connections_of many.runs) ≡ length (connections_of made.runs) = ap (λ (r : List Run). length (connections_of r)) runs in
        omega (arith, as_many, many.many, sound.is.few_connections)
    not_much files scope old new made zone tables what count tells sound read (inr many) =
        let one = one_tables (files_of files scope.feed) tables sound.tables (tables_recorded files scope old new zone tables tells read) sound.are_tables in
        let few = subst (λ (t : Tables). HasFewChanges scope t) (sym one) sound.is.few_changes in
        omega (arith, many.changes.many, few)

    pub not_too_large : NotTooLarge
    not_too_large files scope old new made what count tells sound (inl rows) =
        let ends = rows.read.files_read in
        not_wrong files scope old new made rows.zone rows.read.between ends.0 ends.1 (suc ends.1) (suc ends.1) ends.2 (wrong.TooMany count) tells sound rows.read.zone_read ends.3 ends.4
    not_too_large files scope old new made what count tells sound (inr much) = not_much files scope old new made much.zone much.tables what count tells sound much.read much.much
