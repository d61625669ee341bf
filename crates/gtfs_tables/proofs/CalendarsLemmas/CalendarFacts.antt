-- Rows of calendar.txt that break no rule are of different services.
use Rattle.std.proofs.Common.{◌≡◌, ◌∙◌, ℕ, ◌<◌, Bool, true, List, [], Option, Some, None, Result, ap, arith, get_or, length, map, subst, sym}
use Rattle.std.specs.Prelude.{codes}
use Rattle.std.specs.Str.{bytes_eq}
use Rattle.std.proofs.lemmas.List.{get_or-map, length-map}
use Rattle.std.proofs.lemmas.Slice.Eq.{bytes_eq-Decides}
use Rattle.gtfs_rows.specs.Sheet.{Sheet}
use Rattle.lc_model.specs.declared.date.ServiceDate.{ServiceDate}
use Rattle.lc_time.specs.Date.{date_said}
use Rattle.gtfs_tables.specs.Fields.Columns.{row_at, text_at}
use Rattle.gtfs_tables.specs.Fields.Places.{stands_twice}
use Rattle.gtfs_tables.specs.Fields.Rules.{IsUnbroken, first_of}
use Rattle.gtfs_tables.specs.Fields.Fields.{ReadsItem, id_said}
use Rattle.gtfs_tables.proofs.FieldsLemmas.SaidItems.{as_many, id_is, item_at, stands_again}
use Rattle.gtfs_tables.specs.Calendars.Calendar.{HaveOneRowAService, calendar_rule, services_of, weekdays_said, weekly_of, weekly_rules, weekly_said}
use Rattle.gtfs_tables.specs.declared.calendars.calendar.Weekly.{Weekly}

-- a row that breaks no rule is not there again
not_again : (service : Option (List ℕ)) (again : Bool) (days : Option (List Bool)) (from to : Option ServiceDate)
    → first_of (weekly_rules service again days from to) ≡ None → again ≡ true → ⊥
not_again None again days from to none is = cc
not_again (Some s) again days from to none is =
    let seven : first_of (weekly_rules (Some s) again days from to) ≡ Some 7 = ap (λ a. first_of (weekly_rules (Some s) a days from to)) is in
    cc

service_is : (service : Option (List ℕ)) (days : Option (List Bool)) (from to : Option ServiceDate) (w : Weekly)
    → weekly_of service days from to ≡ Some w → service ≡ Some w.service
service_is (Some s) (Some ds) (Some f) (Some t) w e = ap (λ (o : Option Weekly). service_of o) e
  where
    service_of : Option Weekly → Option (List ℕ)
    service_of None = None
    service_of (Some x) = Some x.service
service_is (Some s) (Some ds) (Some f) None w e = cc
service_is (Some s) (Some ds) None to w e = cc
service_is (Some s) None from to w e = cc
service_is None days from to w e = cc

-- what is read by values is read by values that are the same
pub reads_weekly : (service name : Option (List ℕ)) (again twice : Bool) (days recorded : Option (List Bool)) (from first to last : Option ServiceDate) (r : Result Weekly ℕ)
    → service ≡ name → again ≡ twice → days ≡ recorded → from ≡ first → to ≡ last
    → ReadsItem (first_of (weekly_rules service again days from to)) (weekly_of service days from to) r
    → ReadsItem (first_of (weekly_rules name twice recorded first last)) (weekly_of name recorded first last) r
reads_weekly service name again twice days recorded from first to last r a b c d e h =
    subst (λ (x : Option (List ℕ)). ReadsItem (first_of (weekly_rules x twice recorded first last)) (weekly_of x recorded first last) r) a
    (subst (λ (x : Bool). ReadsItem (first_of (weekly_rules service x recorded first last)) (weekly_of service recorded first last) r) b
    (subst (λ (x : Option (List Bool)). ReadsItem (first_of (weekly_rules service again x first last)) (weekly_of service x first last) r) c
    (subst (λ (x : Option ServiceDate). ReadsItem (first_of (weekly_rules service again days x last)) (weekly_of service days x last) r) d
    (subst (λ (x : Option ServiceDate). ReadsItem (first_of (weekly_rules service again days from x)) (weekly_of service days from x) r) e h))))

pub services_stand_once : (sheet : Sheet) (items : List Weekly) → IsUnbroken (calendar_rule sheet) (length sheet.rows)
    → map Some items ≡ map (weekly_said sheet) sheet.rows → HaveOneRowAService items
unfolding calendar_rule weekly_said
services_stand_once sheet items unbroken listed i j d before inside same =
    let size = as_many (weekly_said sheet) sheet.rows items listed in
    let field : List (List ℕ) → List ℕ = λ row. text_at sheet row (codes "service_id") in
    let in_rows : j < length sheet.rows = omega arith in
    let first : i < length items = omega arith in
    let says : (k : ℕ) → k < length items → field (row_at sheet k) ≡ (get_or items k d).service = λ k h.
    let row = row_at sheet k in
    id_is (field row) (get_or items k d).service
    (service_is (id_said (field row)) (weekdays_said sheet row) (date_said (text_at sheet row (codes "start_date"))) (date_said (text_at sheet row (codes "end_date"))) (get_or items k d)
    (item_at (weekly_said sheet) sheet.rows items listed k d [] h)) in
    let texts : field (row_at sheet i) ≡ field (row_at sheet j) = says i first ∙ same ∙ sym (says j inside) in
    let keyed : get_or (services_of sheet) i [] ≡ field (row_at sheet j) = get_or-map field sheet.rows i [] [] (omega arith) ∙ texts in
    let count : length (services_of sheet) ≡ length sheet.rows = length-map sheet.rows field in
    let row = row_at sheet j in
    not_again (id_said (field row)) (stands_twice bytes_eq (services_of sheet) j (field row)) (weekdays_said sheet row)
    (date_said (text_at sheet row (codes "start_date"))) (date_said (text_at sheet row (codes "end_date")))
    (unbroken j in_rows)
    (stands_again bytes_eq (services_of sheet) i j (field row) [] before (omega arith) ((bytes_eq-Decides (get_or (services_of sheet) i []) (field row)).1 keyed))
