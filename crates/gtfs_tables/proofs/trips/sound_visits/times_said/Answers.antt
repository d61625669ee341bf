use Rattle.std.proofs.Common.{◌≡◌, ◌∙◌, ◌&&◌, ◌||◌, ◌==◌, List, ap, ap₂, codes, length, not, sym, ℕ}
use Rattle.lc_time.specs.Clock.{gtfs_time_said}
use Rattle.gtfs_tables.specs.Fields.Columns.{row_at, text_at, text_in}
use Rattle.gtfs_tables.specs.Fields.Times.{is_wrong_time}
use Rattle.gtfs_tables.proofs.trips.sound_visits.times_said.Goals as goal

pub returns-else-has_unread_time : goal.returns-else-has_unread_time
returns-else-has_unread_time c =
    let sheet = c.args.rows.now in
    let row = row_at sheet c.args.place in
    let arr : c.text-arr_text.result.now ≡ text_at sheet row (codes "arrival_time") = c.text-arr_text.ensures.value ∙ ap (text_in row) c.requires.columns.arr.place in
    let dep : c.text-dep_text.result.now ≡ text_at sheet row (codes "departure_time") = c.text-dep_text.ensures.value ∙ ap (text_in row) c.requires.columns.dep.place in
    record {
      arr = c.read_time-arr.ensures ∙ ap gtfs_time_said arr;
      dep = c.read_time-dep.ensures ∙ ap gtfs_time_said dep;
      read = sym (ap₂ (λ (a d : List ℕ). not (length c.args.stop.now == 0) && (is_wrong_time a || is_wrong_time d)) arr dep) ∙ sym c.has_unread_time.ensures ∙ c.if-has_unread_time.false;
    }
