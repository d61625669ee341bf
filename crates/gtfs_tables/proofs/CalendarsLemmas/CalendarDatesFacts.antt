-- Rows of calendar_dates.txt that break no rule are of different services or dates.
use Rattle.std.proofs.Common.{◌≡◌, ◌∙◌, ℕ, ◌<◌, Bool, true, List, [], Option, Some, None, Result, ap, arith, get_or, length, map, subst, sym}
use Rattle.std.specs.Prelude.{codes}
use Rattle.std.specs.Str.{bytes_eq}
use Rattle.std.proofs.lemmas.Bool.{and_from}
use Rattle.std.proofs.lemmas.List.{get_or-map, length-map}
use Rattle.std.proofs.lemmas.Slice.Eq.{bytes_eq-Decides}
use Rattle.gtfs_rows.specs.Sheet.{Sheet}
use Rattle.lc_model.specs.declared.date.ServiceDate.{ServiceDate}
use Rattle.lc_time.specs.Date.{date_said, date_text_of}
use Rattle.lc_time.proofs.SaidLemmas.{dates_said}
use Rattle.gtfs_tables.specs.Fields.Columns.{row_at, text_at}
use Rattle.gtfs_tables.specs.Fields.PairPlaces.{is_same_pair}
use Rattle.gtfs_tables.specs.Fields.Places.{stands_twice}
use Rattle.gtfs_tables.specs.Fields.Rules.{IsUnbroken, first_of}
use Rattle.gtfs_tables.specs.Fields.Fields.{ReadsItem, id_said}
use Rattle.gtfs_tables.proofs.FieldsLemmas.SaidItems.{as_many, id_is, item_at, stands_again}
use Rattle.gtfs_tables.specs.Calendars.CalendarDates.{HaveOneRowADate, added_said, calendar_dates_rule, date_key, date_keys_of, date_row_of, date_row_rules, date_row_said}
use Rattle.gtfs_tables.specs.declared.calendars.calendar_dates.DateRow.{DateRow}

-- a row that breaks no rule is not there again
not_again : (service : Option (List ℕ)) (again : Bool) (added : Option Bool) (date : Option ServiceDate)
    → first_of (date_row_rules service again added date) ≡ None → again ≡ true → ⊥
not_again None again added date none is = cc
not_again (Some s) again added date none is =
    let seven : first_of (date_row_rules (Some s) again added date) ≡ Some 7 = ap (λ a. first_of (date_row_rules (Some s) a added date)) is in
    cc

parts_are : (service : Option (List ℕ)) (added : Option Bool) (date : Option ServiceDate) (r : DateRow)
    → date_row_of service added date ≡ Some r → (service ≡ Some r.service) × (date ≡ Some r.date)
parts_are (Some s) (Some a) (Some d) r e = (ap (λ (o : Option DateRow). service_of o) e, ap (λ (o : Option DateRow). day_of o) e)
  where
    service_of : Option DateRow → Option (List ℕ)
    service_of None = None
    service_of (Some x) = Some x.service

    day_of : Option DateRow → Option ServiceDate
    day_of None = None
    day_of (Some x) = Some x.date
parts_are (Some s) (Some a) None r e = cc
parts_are (Some s) None date r e = cc
parts_are None added date r e = cc

-- what is read by values is read by values that are the same
pub reads_date_row : (service name : Option (List ℕ)) (again twice : Bool) (added recorded : Option Bool) (date day : Option ServiceDate) (r : Result DateRow ℕ)
    → service ≡ name → again ≡ twice → added ≡ recorded → date ≡ day
    → ReadsItem (first_of (date_row_rules service again added date)) (date_row_of service added date) r
    → ReadsItem (first_of (date_row_rules name twice recorded day)) (date_row_of name recorded day) r
reads_date_row service name again twice added recorded date day r a b c d h =
    subst (λ (x : Option (List ℕ)). ReadsItem (first_of (date_row_rules x twice recorded day)) (date_row_of x recorded day) r) a
    (subst (λ (x : Bool). ReadsItem (first_of (date_row_rules service x recorded day)) (date_row_of service recorded day) r) b
    (subst (λ (x : Option Bool). ReadsItem (first_of (date_row_rules service again x day)) (date_row_of service x day) r) c
    (subst (λ (x : Option ServiceDate). ReadsItem (first_of (date_row_rules service again added x)) (date_row_of service added x) r) d h)))

same_pairs : (x y : List ℕ × List ℕ) → x.0 ≡ y.0 → x.1 ≡ y.1 → is_same_pair x y ≡ true
same_pairs x y first second = and_from (bytes_eq x.0 y.0) (bytes_eq x.1 y.1) ((bytes_eq-Decides x.0 y.0).1 first) ((bytes_eq-Decides x.1 y.1).1 second)

pub dates_stand_once : (sheet : Sheet) (items : List DateRow) → IsUnbroken (calendar_dates_rule sheet) (length sheet.rows)
    → map Some items ≡ map (date_row_said sheet) sheet.rows → HaveOneRowADate items
unfolding calendar_dates_rule date_row_said
dates_stand_once sheet items unbroken listed i j d before inside same_service same_date =
    let size = as_many (date_row_said sheet) sheet.rows items listed in
    let field : List ℕ → ℕ → List ℕ = λ name k. text_at sheet (row_at sheet k) name in
    let in_rows : j < length sheet.rows = omega arith in
    let first : i < length items = omega arith in
    let parts : (k : ℕ) → k < length items → (id_said (field (codes "service_id") k) ≡ Some (get_or items k d).service) × (date_said (field (codes "date") k) ≡ Some (get_or items k d).date) = λ k h.
    parts_are (id_said (field (codes "service_id") k)) (added_said (field (codes "exception_type") k)) (date_said (field (codes "date") k)) (get_or items k d)
    (item_at (date_row_said sheet) sheet.rows items listed k d [] h) in
    let service : (k : ℕ) → k < length items → field (codes "service_id") k ≡ (get_or items k d).service = λ k h. id_is (field (codes "service_id") k) (get_or items k d).service (parts k h).0 in
    let day : (k : ℕ) → k < length items → field (codes "date") k ≡ date_text_of (get_or items k d).date.year (get_or items k d).date.month (get_or items k d).date.day = λ k h.
    (dates_said (field (codes "date") k) (get_or items k d).date).0 (parts k h).1 in
    let services : field (codes "service_id") i ≡ field (codes "service_id") j = service i first ∙ same_service ∙ sym (service j inside) in
    let days : field (codes "date") i ≡ field (codes "date") j = day i first ∙ ap (λ (x : ServiceDate). date_text_of x.year x.month x.day) same_date ∙ sym (day j inside) in
    let at_i : get_or (date_keys_of sheet) i ([], []) ≡ date_key sheet (row_at sheet i) = get_or-map (date_key sheet) sheet.rows i [] ([], []) (omega arith) in
    let keyed : is_same_pair (get_or (date_keys_of sheet) i ([], [])) (date_key sheet (row_at sheet j)) ≡ true =
    ap (λ (x : List ℕ × List ℕ). is_same_pair x (date_key sheet (row_at sheet j))) at_i ∙ same_pairs (date_key sheet (row_at sheet i)) (date_key sheet (row_at sheet j)) services days in
    let count : length (date_keys_of sheet) ≡ length sheet.rows = length-map sheet.rows (date_key sheet) in
    not_again (id_said (field (codes "service_id") j)) (stands_twice is_same_pair (date_keys_of sheet) j (date_key sheet (row_at sheet j))) (added_said (field (codes "exception_type") j))
    (date_said (field (codes "date") j))
    (unbroken j in_rows)
    (stands_again is_same_pair (date_keys_of sheet) i j (date_key sheet (row_at sheet j)) ([], []) before (omega arith) keyed)
