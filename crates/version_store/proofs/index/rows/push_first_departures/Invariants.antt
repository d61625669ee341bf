use Rattle.std.proofs.Common.{◌≡◌, ◌++◌, take}
use Rattle.version_store.proofs.IndexLemmas.RowsLemmas.{departures_at}
use Rattle.version_store.proofs.index.rows.push_first_departures.Given as goal

abbrev pub invariant-loop-place : goal.invariant-loop-place
invariant-loop-place l = l.departures.items ≡ l.initial.departures.items ++ departures_at l.states l.version (take l.place-index l.places)
