use Rattle.std.proofs.Common.{◌∙◌, ap}
use Rattle.gtfs_tables.specs.Fields.Columns.{row_at, text_in}
use Rattle.gtfs_tables.specs.Trips.Visits.{allows}
use Rattle.gtfs_tables.proofs.trips.sound_visits.rights_said.Goals as goal

pub returns : goal.returns
returns c =
    let row = row_at c.args.rows.now c.args.place in
    record {
      board = c.allows.ensures ∙ ap allows (c.text.ensures.value ∙ ap (text_in row) c.requires.columns.pickup.place);
      alight = c.allows-2.ensures ∙ ap allows (c.text-2.ensures.value ∙ ap (text_in row) c.requires.columns.drop_off.place);
    }
