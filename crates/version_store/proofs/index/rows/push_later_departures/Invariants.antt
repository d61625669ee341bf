use Rattle.std.proofs.Common.{◌≡◌, ◌++◌}
use Rattle.version_store.proofs.IndexLemmas.RowsLemmas.{departures_at}
use Rattle.version_store.proofs.index.rows.push_later_departures.Given as goal

abbrev pub invariant-loop-place : goal.invariant-loop-place
invariant-loop-place l = l.departures.items ++ departures_at l.states l.version l.place-iterator ≡ l.initial.departures.items ++ departures_at l.states l.version l.places.keys
