use Rattle.std.proofs.lemmas.Result.{err_from_is_err_and}
use Rattle.std.specs.Prelude.{slice_range}
use Rattle.trip_updates.specs.Table.{stop_time_update}
use Rattle.trip_updates.specs.Faults.{read}
use Rattle.trip_updates.specs.Shows.{ShowsNews, ShowsStop}
use Rattle.trip_updates.proofs.WalkingLemmas.{fault_as, no_memory, shown_by}
use Rattle.trip_updates.proofs.trip.read_news.Goals as goal

pub returns-in_err-stop : goal.returns-in_err-stop
returns-in_err-stop c =
    let p = err_from_is_err_and c.from_residual.result c.from_residual.ensures.1 in
    rw (p.1, p.2) (fault_as ShowsStop ShowsNews c.in_err-stop.field-0.0 (read 1 stop_time_update c.args.from (slice_range c.args.bytes.now c.args.from c.args.to)) c.in_err-stop.ensures)

pub returns-in_err-stop_news : goal.returns-in_err-stop_news
returns-in_err-stop_news c =
    let p = err_from_is_err_and c.from_residual-in_err-stop_news.result c.from_residual-in_err-stop_news.ensures.1 in
    rw p.1 (no_memory ShowsNews p.0 (read 1 stop_time_update c.args.from (slice_range c.args.bytes.now c.args.from c.args.to)) p.2)

pub returns : goal.returns
returns c =
    shown_by ShowsStop ShowsNews c.in_ok-stop.stop c.in_ok-stop_news.field-0 (read 1 stop_time_update c.args.from (slice_range c.args.bytes.now c.args.from c.args.to))
    (λ tree shows. c.in_ok-stop_news.ensures tree shows) c.in_ok-stop.ensures
