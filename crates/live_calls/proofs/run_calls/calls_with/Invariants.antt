use Rattle.std.proofs.Common.{◌≡◌, ◌++◌, drop}
use Rattle.lc_model.specs.Versions.Live.{calls_with, raised, stated_calls}
use Rattle.lc_model.specs.Versions.Naming.{namings}
use Rattle.live_calls.specs.Walk.{IsLateness}
use Rattle.live_calls.proofs.run_calls.calls_with.Given as goal

abbrev pub invariant-calls : goal.invariant-calls
invariant-calls l = record {
  late : IsLateness l.late;
  walk : l.live.items ++ raised l.before (stated_calls (namings l.calls 0 l.stops) l.place l.late (drop l.place l.calls)) ≡ calls_with l.calls l.stops;
}
