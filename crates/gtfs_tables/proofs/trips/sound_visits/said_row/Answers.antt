use Rattle.std.proofs.Common.{◌≡◌, ◌∙◌, ◌==◌, List, ap, length, sym, ℕ}
use Rattle.lc_time.specs.Digits.{u32_said}
use Rattle.gtfs_tables.specs.Fields.Columns.{row_at, text_in}
use Rattle.gtfs_tables.specs.Trips.Trips.{trip_id_of}
use Rattle.gtfs_tables.proofs.trips.sound_visits.said_row.Goals as goal

pub returns : goal.returns
returns c =
    let sheet = c.args.rows.now in
    let row = row_at sheet c.args.place in
    let trip : c.text-trip_id.result.now ≡ trip_id_of sheet row = c.text-trip_id.ensures.value ∙ ap (text_in row) c.requires.columns.trip.place in
    record {
      named = ap (λ (t : List ℕ). length t == 0) (sym trip) ∙ sym c.is_empty.ensures ∙ c.if-is_empty.false;
      within = c.in-Some.ensures.within;
      same = λ d. c.in-Some.ensures.same d ∙ trip;
      seq = c.in-Some-read_u32.ensures ∙ ap u32_said (c.text.ensures.value ∙ ap (text_in row) c.requires.columns.seq.place);
      arr = c.in-Some-times_said.ensures.arr;
      dep = c.in-Some-times_said.ensures.dep;
      timed = c.in-Some-times_said.ensures.read;
    }
