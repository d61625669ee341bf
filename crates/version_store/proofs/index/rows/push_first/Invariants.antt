use Rattle.std.proofs.Common.{◌≡◌, ◌++◌, take}
use Rattle.std.specs.List.{filter_map}
use Rattle.version_store.specs.Index.Places.{shown}
use Rattle.version_store.proofs.index.rows.push_first.Given as goal

abbrev pub invariant-loop-place : goal.invariant-loop-place
invariant-loop-place l = l.list.items ≡ l.initial.list.items ++ filter_map (shown l.version l.states) (take l.place-index l.places)
