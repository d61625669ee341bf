use Rattle.std.proofs.Common.{◌∙◌, ap, codes}
use Rattle.cli_drill.specs.Rows.{stops_text, times_text, trips_text}
use Rattle.cli_drill.proofs.RowsLemmas.{four_files, one_file}
use Rattle.cli_drill.proofs.files.push_feed.Goals as goal

pub returns : goal.returns
returns c =
    let side = c.side_of-side.ensures.side in
    four_files c.args.files.now.items _ _ _ _ _ _ _ _
    (one_file _ _ (codes "feed/stops.txt") _ _ c.in_ok-push_file.ensures (c.in_ok-stops_text.ensures ∙ ap stops_text side))
    (one_file _ _ (codes "feed/trips.txt") _ _ c.in_ok-push_file-2.ensures (c.in_ok-trips_text.ensures ∙ ap trips_text side))
    (one_file _ _ (codes "feed/stop_times.txt") _ _ c.in_ok-push_file-3.ensures (c.in_ok-times_text.ensures ∙ ap times_text side))
    (one_file _ _ (codes "feed/calendar_dates.txt") _ _ c.in_ok-push_file-4.ensures c.in_ok-dates_text.ensures)
