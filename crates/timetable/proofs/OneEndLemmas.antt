-- The loading of recorded files ends in one way.
use Rattle.std.proofs.Common.{◌≡◌, ◌∙◌, ◌⊎◌, ℕ, inl, inr, List, length, Option, Some, None, Ok, Err, ap, arith, subst, sym}
use Rattle.lc_io.specs.Folder.{FolderSeen}
use Rattle.lc_io.specs.declared.file.File.{File}
use Rattle.lc_model.specs.Connection.{connections_of}
use Rattle.lc_model.specs.declared.run.Run.{Run}
use Rattle.lc_time.specs.declared.zone.Zone.{Zone}
use Rattle.service_days.specs.Laws.{OneListOfDays, OneZone}
use Rattle.service_days.specs.ZoneWord.{IsWrong, SaysZone, file_named}
use Rattle.gtfs_tables.specs.Feed.{AreTables, IsFirstBroken, named_at, what_of}
use Rattle.gtfs_tables.specs.declared.fields.fault.FileFault.{FileFault}
use Rattle.gtfs_tables.specs.declared.fields.fault.FileFault.TheVariants as wrong
use Rattle.gtfs_tables.specs.Files.{Found, files_of, name_of}
use Rattle.gtfs_tables.specs.Laws.{NeverBoth, OneFirst, OneTables}
use Rattle.gtfs_tables.specs.declared.feed_file.FeedFile.{FeedFile}
use Rattle.gtfs_tables.specs.declared.tables.Tables.{Tables}
use Rattle.gtfs_tables.specs.declared.what.What.{What}
use Rattle.gtfs_tables.specs.declared.what.What.TheVariants as whats
use Rattle.trip_calls.specs.Laws.{OneListOfRuns}
use Rattle.timetable.proofs.LawLemmas.{NeverWrong, found_is, looked_up, one_of_runs, runs_by_other, still_recorded, tables_recorded, zone_recorded}
use Rattle.timetable.specs.Laws.{BrokenEnds, FineEnds, LoadsRecorded, MuchEnds, NoZoneEnds, NotBroken, NotTooLarge, OneEnd, OneTimetable, RowsEnd}
use Rattle.timetable.specs.Loading.{BreaksRule, HasNoZone, HasTooManyRows, MakesTooMuch, ReadsTables}
use Rattle.timetable.specs.Made.{HasManyChangesAlone, HasManyConnections}
use Rattle.timetable.specs.Timetable.{HasFewChanges, IsTimetableOf, RunsAre}
use Rattle.timetable.specs.Recorded.{zone_bytes}
use Rattle.timetable.specs.declared.fault.LoadFault.{LoadFault}
use Rattle.timetable.specs.declared.fault.LoadFault.TheVariants.{Broken, TooLarge, Folder, NoMemory}
use Rattle.timetable.specs.declared.scope.Scope.{Scope}
use Rattle.timetable.specs.declared.timetable.Timetable.{Timetable}

-- the parts of a fault of a file
rule_in : FileFault → ℕ
rule_in (wrong.Broken rule row) = rule
rule_in (wrong.TooMany count) = 0
rule_in wrong.NoMemory = 0

row_in : FileFault → ℕ
row_in (wrong.Broken rule row) = row
row_in (wrong.TooMany count) = count
row_in wrong.NoMemory = 0

is_many : FileFault → Type 0
is_many (wrong.Broken rule row) = ⊥
is_many (wrong.TooMany count) = Unit {0}
is_many wrong.NoMemory = ⊥

what_or : Option What → What
what_or None = whats.Stops
what_or (Some what) = what

-- what recorded files are: their zone is wrong, or a file is wrong first, or they have tables
record WrongFirst (files : List File) (scope : Scope) (fault : FileFault) : Type 0 where
  zone : Zone
  says : SaysZone scope.zone (zone_bytes files scope.zone) zone
  place : ℕ
  at : FeedFile
  first : IsFirstBroken (files_of files scope.feed) place at fault

record HaveTables (files : List File) (scope : Scope) (zone : Zone) (tables : Tables) : Type 0 where
  says : SaysZone scope.zone (zone_bytes files scope.zone) zone
  are : AreTables (files_of files scope.feed) tables

no_zone_recorded : (files : List File) (scope : Scope) (old new : FolderSeen) (rule : ℕ) (file : List ℕ) (row : ℕ) → old.files ≡ Some files → HasNoZone scope old new rule file row → IsWrong scope.zone (zone_bytes files scope.zone)
no_zone_recorded files scope old new rule file row tells none =
    subst (λ found. IsWrong scope.zone found) (looked_up files old new none.wrong.found (file_named scope.zone) tells none.wrong.looked).1 none.wrong.wrong

rule_recorded : (files : List File) (scope : Scope) (old new : FolderSeen) (rule : ℕ) (file : List ℕ) (row : ℕ) → old.files ≡ Some files → BreaksRule scope old new rule file row
    → (w : WrongFirst files scope (wrong.Broken rule row)) × (file ≡ name_of (named_at (files_of files scope.feed) w.at))
rule_recorded files scope old new rule file row tells breaks =
    let recorded = still_recorded files old breaks.read.between scope.zone breaks.zone tells breaks.read.zone_read in
    let ends = breaks.read.files_read in
    let same = found_is breaks.read.between.files files scope.feed ends.0 recorded ends.3.found_there in (
      record {
        zone = breaks.zone;
        says = zone_recorded files old breaks.read.between scope.zone breaks.zone tells breaks.read.zone_read;
        place = ends.1;
        at = ends.2;
        first = subst (λ (f : Found). IsFirstBroken f ends.1 ends.2 (wrong.Broken rule row)) same ends.4;
      },
      breaks.named ∙ ap name_of (subst (λ (f : Found). breaks.at ≡ named_at f ends.2) same ends.5),
    )

rows_recorded : (files : List File) (scope : Scope) (old new : FolderSeen) (what : What) (count : ℕ) → old.files ≡ Some files → HasTooManyRows scope old new what count
    → (w : WrongFirst files scope (wrong.TooMany count)) × (what_of w.at ≡ Some what)
rows_recorded files scope old new what count tells many =
    let recorded = still_recorded files old many.read.between scope.zone many.zone tells many.read.zone_read in
    let ends = many.read.files_read in
    let same = found_is many.read.between.files files scope.feed ends.0 recorded ends.3.found_there in (
      record {
        zone = many.zone;
        says = zone_recorded files old many.read.between scope.zone many.zone tells many.read.zone_read;
        place = ends.1;
        at = ends.2;
        first = subst (λ (f : Found). IsFirstBroken f ends.1 ends.2 (wrong.TooMany count)) same ends.4;
      },
      ends.5,
    )

have_tables : (files : List File) (scope : Scope) (old new : FolderSeen) (zone : Zone) (tables : Tables) → old.files ≡ Some files → ReadsTables scope old new zone tables → HaveTables files scope zone tables
have_tables files scope old new zone tables tells read = record {
  says = zone_recorded files old read.between scope.zone zone tells read.zone_read;
  are = tables_recorded files scope old new zone tables tells read;
}

module _ (never_both : NeverBoth) (one_first : OneFirst) (never_wrong : NeverWrong) (files : List File) (scope : Scope) where
  -- a wrong zone is none that is said
  no_wrong_zone : (zone : Zone) → IsWrong scope.zone (zone_bytes files scope.zone) → SaysZone scope.zone (zone_bytes files scope.zone) zone → ⊥
  no_wrong_zone zone is says = never_wrong scope.zone (zone_bytes files scope.zone) zone says is

  one_wrong : (x y : FileFault) (v : WrongFirst files scope x) (w : WrongFirst files scope y) → (v.at ≡ w.at) × (x ≡ y)
  one_wrong x y v w =
      let one = one_first (files_of files scope.feed) v.place w.place v.at w.at x y v.first w.first in
      (one.1, one.2)

  not_tables : (fault : FileFault) (zone : Zone) (tables : Tables) → WrongFirst files scope fault → HaveTables files scope zone tables → ⊥
  not_tables fault zone tables w have = never_both (files_of files scope.feed) tables w.place w.at fault have.are w.first

  not_many : (rule row count : ℕ) → WrongFirst files scope (wrong.Broken rule row) → WrongFirst files scope (wrong.TooMany count) → ⊥
  unfolding is_many
  not_many rule row count v w = subst is_many (sym (one_wrong (wrong.Broken rule row) (wrong.TooMany count) v w).1) tt

  broken_broken : (old new other later : FolderSeen) (rule rule' : ℕ) (file file' : List ℕ) (row row' : ℕ) → old.files ≡ Some files → other.files ≡ Some files
      → HasNoZone scope old new rule file row ⊎ BreaksRule scope old new rule file row → HasNoZone scope other later rule' file' row' ⊎ BreaksRule scope other later rule' file' row'
      → Broken rule file row ≡ Broken rule' file' row'
  unfolding rule_in row_in
  broken_broken old new other later rule rule' file file' row row' t u (inl a) (inl b) =
      λ i. Broken ((a.by_rule ∙ sym b.by_rule) i) ((a.word ∙ sym b.word) i) ((a.of_no_row ∙ sym b.of_no_row) i)
  broken_broken old new other later rule rule' file file' row row' t u (inl a) (inr b) =
      let w = (rule_recorded files scope other later rule' file' row' u b).0 in
      absurd (no_wrong_zone w.zone (no_zone_recorded files scope old new rule file row t a) w.says)
  broken_broken old new other later rule rule' file file' row row' t u (inr a) (inl b) =
      let w = (rule_recorded files scope old new rule file row t a).0 in
      absurd (no_wrong_zone w.zone (no_zone_recorded files scope other later rule' file' row' u b) w.says)
  broken_broken old new other later rule rule' file file' row row' t u (inr a) (inr b) =
      let v = rule_recorded files scope old new rule file row t a in
      let w = rule_recorded files scope other later rule' file' row' u b in
      let one = one_wrong (wrong.Broken rule row) (wrong.Broken rule' row') v.0 w.0 in
      let named : file ≡ file' = v.1 ∙ ap (λ (at : FeedFile). name_of (named_at (files_of files scope.feed) at)) one.0 ∙ sym w.1 in
      let rules : rule ≡ rule' = ap rule_in one.1 in
      let rows : row ≡ row' = ap row_in one.1 in
      λ i. Broken (rules i) (named i) (rows i)

  broken_large : (old new other later : FolderSeen) (rule : ℕ) (file : List ℕ) (row : ℕ) (what : What) (count : ℕ) → old.files ≡ Some files → other.files ≡ Some files
      → HasNoZone scope old new rule file row ⊎ BreaksRule scope old new rule file row → HasTooManyRows scope other later what count ⊎ MakesTooMuch scope other later what count
      → ⊥
  broken_large old new other later rule file row what count t u (inl a) (inl b) =
      let w = (rows_recorded files scope other later what count u b).0 in
      no_wrong_zone w.zone (no_zone_recorded files scope old new rule file row t a) w.says
  broken_large old new other later rule file row what count t u (inl a) (inr b) =
      no_wrong_zone b.zone (no_zone_recorded files scope old new rule file row t a) (have_tables files scope other later b.zone b.tables u b.read).says
  broken_large old new other later rule file row what count t u (inr a) (inl b) =
      not_many rule row count (rule_recorded files scope old new rule file row t a).0 (rows_recorded files scope other later what count u b).0
  broken_large old new other later rule file row what count t u (inr a) (inr b) =
      not_tables (wrong.Broken rule row) b.zone b.tables (rule_recorded files scope old new rule file row t a).0 (have_tables files scope other later b.zone b.tables u b.read)

  module _ (one_zone : OneZone) (one_tables : OneTables) (one_days : OneListOfDays) (one_runs : OneListOfRuns) where
    same_of : (x y : Zone) (s t : Tables) (a b : List Run) → HaveTables files scope x s → HaveTables files scope y t → RunsAre scope x s a → RunsAre scope y t b → a ≡ b
    same_of x y s t a b have have' p q =
        let tables = one_tables (files_of files scope.feed) s t have.are have'.are in
        let zones = one_zone scope.zone (zone_bytes files scope.zone) x y have.says have'.says in
        one_of_runs one_days one_runs scope y t a b (runs_by_other x y scope t a zones (subst (λ (u : Tables). RunsAre scope x u a) tables p)) q

    much_much : (x y : Zone) (s t : Tables) (what what' : What) (count count' : ℕ) → HaveTables files scope x s → HaveTables files scope y t
        → HasManyConnections scope x s what count ⊎ HasManyChangesAlone scope x s what count → HasManyConnections scope y t what' count' ⊎ HasManyChangesAlone scope y t what' count'
        → TooLarge what count ≡ TooLarge what' count'
    much_much x y s t what what' count count' have have' (inl a) (inl b) =
        let runs = same_of x y s t a.runs b.runs have have' a.are_runs b.are_runs in
        let counts : count ≡ count' = a.counted ∙ ap (λ (r : List Run). length (connections_of r)) runs ∙ sym b.counted in
        λ i. TooLarge ((a.of_connections ∙ sym b.of_connections) i) (counts i)
    much_much x y s t what what' count count' have have' (inl a) (inr b) =
        let runs : length (connections_of a.runs) ≡ length (connections_of b.runs) = ap (λ (r : List Run). length (connections_of r)) (same_of x y s t a.runs b.runs have have' a.are_runs b.are_runs) in
        absurd (omega (arith, runs, a.many, b.few))
    much_much x y s t what what' count count' have have' (inr a) (inl b) =
        let runs : length (connections_of a.runs) ≡ length (connections_of b.runs) = ap (λ (r : List Run). length (connections_of r)) (same_of x y s t a.runs b.runs have have' a.are_runs b.are_runs) in
        absurd (omega (arith, runs, b.many, a.few))
    much_much x y s t what what' count count' have have' (inr a) (inr b) =
        λ i. TooLarge ((a.changes.of_changes ∙ sym b.changes.of_changes) i) ((a.changes.counted ∙ sym b.changes.counted) i)

    large_large : (old new other later : FolderSeen) (what what' : What) (count count' : ℕ) → old.files ≡ Some files → other.files ≡ Some files
        → HasTooManyRows scope old new what count ⊎ MakesTooMuch scope old new what count → HasTooManyRows scope other later what' count' ⊎ MakesTooMuch scope other later what' count'
        → TooLarge what count ≡ TooLarge what' count'
    unfolding row_in what_or
    large_large old new other later what what' count count' t u (inl a) (inl b) =
        let v = rows_recorded files scope old new what count t a in
        let w = rows_recorded files scope other later what' count' u b in
        let one = one_wrong (wrong.TooMany count) (wrong.TooMany count') v.0 w.0 in
        let some : Some what ≡ Some what' = sym v.1 ∙ ap what_of one.0 ∙ w.1 in
        let kinds : what ≡ what' = ap what_or some in
        let counts : count ≡ count' = ap row_in one.1 in
        λ i. TooLarge (kinds i) (counts i)
    large_large old new other later what what' count count' t u (inl a) (inr b) =
        absurd (not_tables (wrong.TooMany count) b.zone b.tables (rows_recorded files scope old new what count t a).0 (have_tables files scope other later b.zone b.tables u b.read))
    large_large old new other later what what' count count' t u (inr a) (inl b) =
        absurd (not_tables (wrong.TooMany count') a.zone a.tables (rows_recorded files scope other later what' count' u b).0 (have_tables files scope old new a.zone a.tables t a.read))
    large_large old new other later what what' count count' t u (inr a) (inr b) =
        much_much a.zone b.zone a.tables b.tables what what' count count' (have_tables files scope old new a.zone a.tables t a.read) (have_tables files scope other later b.zone b.tables u b.read) a.much b.much

module _ (never_both : NeverBoth) (one_first : OneFirst) (never_wrong : NeverWrong) (one_zone : OneZone) (one_tables : OneTables) (one_days : OneListOfDays) (one_runs : OneListOfRuns)
    (one : OneTimetable) (recorded : LoadsRecorded) (not_broken : NotBroken) (not_large : NotTooLarge) where
  pub one_end : OneEnd
  one_end files scope old new other later (Ok a) (Ok b) t u p q x y = one files scope a b (recorded files scope old new a t x) (recorded files scope other later b u y)
  one_end files scope old new other later (Ok a) (Err (Broken rule file row)) t u p q x y = not_broken files scope other later a rule file row u (recorded files scope old new a t x) y
  one_end files scope old new other later (Ok a) (Err (TooLarge what count)) t u p q x y = not_large files scope other later a what count u (recorded files scope old new a t x) y
  one_end files scope old new other later (Ok a) (Err (Folder before after)) t u p q x y = q
  one_end files scope old new other later (Ok a) (Err NoMemory) t u p q x y = q
  one_end files scope old new other later (Err (Broken rule file row)) (Ok b) t u p q x y = not_broken files scope old new b rule file row t (recorded files scope other later b u y) x
  one_end files scope old new other later (Err (Broken rule file row)) (Err (Broken rule' file' row')) t u p q x y = broken_broken never_both one_first never_wrong files scope old new other later rule rule' file file' row row' t u x y
  one_end files scope old new other later (Err (Broken rule file row)) (Err (TooLarge what count)) t u p q x y = absurd (broken_large never_both one_first never_wrong files scope old new other later rule file row what count t u x y)
  one_end files scope old new other later (Err (Broken rule file row)) (Err (Folder before after)) t u p q x y = absurd q
  one_end files scope old new other later (Err (Broken rule file row)) (Err NoMemory) t u p q x y = absurd q
  one_end files scope old new other later (Err (TooLarge what count)) (Ok b) t u p q x y = not_large files scope old new b what count t (recorded files scope other later b u y) x
  one_end files scope old new other later (Err (TooLarge what count)) (Err (Broken rule file row)) t u p q x y = absurd (broken_large never_both one_first never_wrong files scope other later old new rule file row what count u t y x)
  one_end files scope old new other later (Err (TooLarge what count)) (Err (TooLarge what' count')) t u p q x y = large_large never_both one_first never_wrong files scope one_zone one_tables one_days one_runs old new other later what what' count count' t u x y
  one_end files scope old new other later (Err (TooLarge what count)) (Err (Folder before after)) t u p q x y = absurd q
  one_end files scope old new other later (Err (TooLarge what count)) (Err NoMemory) t u p q x y = absurd q
  one_end files scope old new other later (Err (Folder before after)) end t u p q x y = absurd p
  one_end files scope old new other later (Err NoMemory) end t u p q x y = absurd p

module _ (never_both : NeverBoth) (one_first : OneFirst) (never_wrong : NeverWrong) where
  pub broken_ends : BrokenEnds
  unfolding rule_in row_in
  broken_ends files scope old new (Ok made) zone place at rule row t p x says first =
      absurd (never_both (files_of files scope.feed) x.tables place at (wrong.Broken rule row) (tables_recorded files scope old new x.zone x.tables t x.read) first)
  broken_ends files scope old new (Err (Broken rule' file row')) zone place at rule row t p (inl x) says first =
      absurd (no_wrong_zone never_both one_first never_wrong files scope zone (no_zone_recorded files scope old new rule' file row' t x) says)
  broken_ends files scope old new (Err (Broken rule' file row')) zone place at rule row t p (inr x) says first =
      let v = rule_recorded files scope old new rule' file row' t x in
      let w : WrongFirst files scope (wrong.Broken rule row) = record { zone = zone; says = says; place = place; at = at; first = first } in
      let one = one_wrong never_both one_first never_wrong files scope (wrong.Broken rule' row') (wrong.Broken rule row) v.0 w in
      let named : file ≡ name_of (named_at (files_of files scope.feed) at) = v.1 ∙ ap (λ (f : FeedFile). name_of (named_at (files_of files scope.feed) f)) one.0 in
      let rules : rule' ≡ rule = ap rule_in one.1 in
      let rows : row' ≡ row = ap row_in one.1 in
      λ i. Err (Broken (rules i) (named i) (rows i))
  broken_ends files scope old new (Err (TooLarge what count)) zone place at rule row t p (inl x) says first =
      absurd (not_many never_both one_first never_wrong files scope rule row count (record { zone = zone; says = says; place = place; at = at; first = first }) (rows_recorded files scope old new what count t x).0)
  broken_ends files scope old new (Err (TooLarge what count)) zone place at rule row t p (inr x) says first =
      absurd (never_both (files_of files scope.feed) x.tables place at (wrong.Broken rule row) (tables_recorded files scope old new x.zone x.tables t x.read) first)
  broken_ends files scope old new (Err (Folder before after)) zone place at rule row t p x says first = absurd p
  broken_ends files scope old new (Err NoMemory) zone place at rule row t p x says first = absurd p

module _ (never_both : NeverBoth) (one_first : OneFirst) (never_wrong : NeverWrong) where
  -- where the word says no zone
  pub no_zone_ends : NoZoneEnds
  no_zone_ends files scope old new (Ok made) t p x is =
      absurd (no_wrong_zone never_both one_first never_wrong files scope x.zone is (zone_recorded files old x.read.between scope.zone x.zone t x.read.zone_read))
  no_zone_ends files scope old new (Err (Broken rule file row)) t p (inl x) is = λ i. Err (Broken (x.by_rule i) (x.word i) (x.of_no_row i))
  no_zone_ends files scope old new (Err (Broken rule file row)) t p (inr x) is =
      let v = rule_recorded files scope old new rule file row t x in absurd (no_wrong_zone never_both one_first never_wrong files scope v.0.zone is v.0.says)
  no_zone_ends files scope old new (Err (TooLarge what count)) t p (inl x) is =
      let v = rows_recorded files scope old new what count t x in absurd (no_wrong_zone never_both one_first never_wrong files scope v.0.zone is v.0.says)
  no_zone_ends files scope old new (Err (TooLarge what count)) t p (inr x) is =
      absurd (no_wrong_zone never_both one_first never_wrong files scope x.zone is (have_tables files scope old new x.zone x.tables t x.read).says)
  no_zone_ends files scope old new (Err (Folder before after)) t p x is = absurd p
  no_zone_ends files scope old new (Err NoMemory) t p x is = absurd p

  -- where a file has too many rows first
  pub rows_end : RowsEnd
  unfolding row_in what_or
  rows_end files scope old new (Ok made) zone place at count what t p x says first kind =
      absurd (never_both (files_of files scope.feed) x.tables place at (wrong.TooMany count) (tables_recorded files scope old new x.zone x.tables t x.read) first)
  rows_end files scope old new (Err (Broken rule file row)) zone place at count what t p (inl x) says first kind =
      absurd (no_wrong_zone never_both one_first never_wrong files scope zone (no_zone_recorded files scope old new rule file row t x) says)
  rows_end files scope old new (Err (Broken rule file row)) zone place at count what t p (inr x) says first kind =
      absurd (not_many never_both one_first never_wrong files scope rule row count (rule_recorded files scope old new rule file row t x).0 (record { zone = zone; says = says; place = place; at = at; first = first }))
  rows_end files scope old new (Err (TooLarge what' count')) zone place at count what t p (inl x) says first kind =
      let v = rows_recorded files scope old new what' count' t x in
      let w : WrongFirst files scope (wrong.TooMany count) = record { zone = zone; says = says; place = place; at = at; first = first } in
      let one = one_wrong never_both one_first never_wrong files scope (wrong.TooMany count') (wrong.TooMany count) v.0 w in
      let some : Some what' ≡ Some what = sym v.1 ∙ ap what_of one.0 ∙ kind in
      let kinds : what' ≡ what = ap what_or some in
      let counts : count' ≡ count = ap row_in one.1 in
      λ i. Err (TooLarge (kinds i) (counts i))
  rows_end files scope old new (Err (TooLarge what' count')) zone place at count what t p (inr x) says first kind =
      absurd (never_both (files_of files scope.feed) x.tables place at (wrong.TooMany count) (tables_recorded files scope old new x.zone x.tables t x.read) first)
  rows_end files scope old new (Err (Folder before after)) zone place at count what t p x says first kind = absurd p
  rows_end files scope old new (Err NoMemory) zone place at count what t p x says first kind = absurd p

  module _ (one_zone : OneZone) (one_tables : OneTables) (one_days : OneListOfDays) (one_runs : OneListOfRuns) where
    -- a timetable has no more than it may
    not_made : (files : List File) (scope : Scope) (zone other : Zone) (tables read : Tables) (made : Timetable) (what : What) (count : ℕ) → HaveTables files scope zone tables → HaveTables files scope other read → IsTimetableOf scope other read made
        → HasManyConnections scope zone tables what count ⊎ HasManyChangesAlone scope zone tables what count → ⊥
    not_made files scope zone other tables read made what count have have' is (inl many) =
        let same : length (connections_of many.runs) ≡ length (connections_of made.runs) = ap (λ (r : List Run). length (connections_of r)) (same_of never_both one_first never_wrong files scope one_zone one_tables one_days one_runs zone other tables read many.runs made.runs have have' many.are_runs is.runs) in
        omega (arith, same, many.many, is.few_connections)
    not_made files scope zone other tables read made what count have have' is (inr many) =
        let few = subst (λ (t : Tables). HasFewChanges scope t) (one_tables (files_of files scope.feed) read tables have'.are have.are) is.few_changes in
        omega (arith, many.changes.many, few)

    -- where the tables have too much
    pub much_ends : MuchEnds
    much_ends files scope old new (Ok made) zone tables what count t p x says are much =
        absurd (not_made files scope zone x.zone tables x.tables made what count (record { says = says; are = are }) (have_tables files scope old new x.zone x.tables t x.read) x.is much)
    much_ends files scope old new (Err (Broken rule file row)) zone tables what count t p (inl x) says are much =
        absurd (no_wrong_zone never_both one_first never_wrong files scope zone (no_zone_recorded files scope old new rule file row t x) says)
    much_ends files scope old new (Err (Broken rule file row)) zone tables what count t p (inr x) says are much =
        absurd (not_tables never_both one_first never_wrong files scope (wrong.Broken rule row) zone tables (rule_recorded files scope old new rule file row t x).0 (record { says = says; are = are }))
    much_ends files scope old new (Err (TooLarge what' count')) zone tables what count t p (inl x) says are much =
        absurd (not_tables never_both one_first never_wrong files scope (wrong.TooMany count') zone tables (rows_recorded files scope old new what' count' t x).0 (record { says = says; are = are }))
    much_ends files scope old new (Err (TooLarge what' count')) zone tables what count t p (inr x) says are much =
        ap (λ (f : LoadFault). Err f) (much_much never_both one_first never_wrong files scope one_zone one_tables one_days one_runs x.zone zone x.tables tables what' what count' count (have_tables files scope old new x.zone x.tables t x.read) (record { says = says; are = are }) x.much much)
    much_ends files scope old new (Err (Folder before after)) zone tables what count t p x says are much = absurd p
    much_ends files scope old new (Err NoMemory) zone tables what count t p x says are much = absurd p

    -- where nothing refuses it
    pub fine_ends : FineEnds
    fine_ends files scope old new (Ok made) zone tables runs t p x says are rs few changes = tt
    fine_ends files scope old new (Err (Broken rule file row)) zone tables runs t p (inl x) says are rs few changes =
        absurd (no_wrong_zone never_both one_first never_wrong files scope zone (no_zone_recorded files scope old new rule file row t x) says)
    fine_ends files scope old new (Err (Broken rule file row)) zone tables runs t p (inr x) says are rs few changes =
        absurd (not_tables never_both one_first never_wrong files scope (wrong.Broken rule row) zone tables (rule_recorded files scope old new rule file row t x).0 (record { says = says; are = are }))
    fine_ends files scope old new (Err (TooLarge what count)) zone tables runs t p (inl x) says are rs few changes =
        absurd (not_tables never_both one_first never_wrong files scope (wrong.TooMany count) zone tables (rows_recorded files scope old new what count t x).0 (record { says = says; are = are }))
    fine_ends files scope old new (Err (TooLarge what count)) zone tables runs t p (inr x) says are rs few changes =
        absurd (too_much x.much)
      where
        have : HaveTables files scope x.zone x.tables
        have = have_tables files scope old new x.zone x.tables t x.read

        too_much : HasManyConnections scope x.zone x.tables what count ⊎ HasManyChangesAlone scope x.zone x.tables what count → ⊥
        too_much (inl m) =
            let same : length (connections_of m.runs) ≡ length (connections_of runs) = ap (λ (r : List Run). length (connections_of r)) (same_of never_both one_first never_wrong files scope one_zone one_tables one_days one_runs x.zone zone x.tables tables m.runs runs have (record { says = says; are = are }) m.are_runs rs) in
            omega (arith, same, m.many, few)
        too_much (inr m) =
            let same = subst (λ (u : Tables). HasFewChanges scope u) (one_tables (files_of files scope.feed) tables x.tables are have.are) changes in
            omega (arith, m.changes.many, same)
    fine_ends files scope old new (Err (Folder before after)) zone tables runs t p x says are rs few changes = absurd p
    fine_ends files scope old new (Err NoMemory) zone tables runs t p x says are rs few changes = absurd p
