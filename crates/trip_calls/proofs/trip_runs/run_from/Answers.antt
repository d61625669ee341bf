use Rattle.std.proofs.Common.{refl}
use Rattle.trip_calls.proofs.RunLemmas.{run_is}
use Rattle.trip_calls.proofs.trip_runs.run_from.Goals as goal

pub returns : goal.returns
returns c = run_is _ c.args.rows.now c.args.trip.now c.args.date c.args.anchor c.args.start c.in_ok-copy.ensures refl refl c.in_ok-calls.ensures
