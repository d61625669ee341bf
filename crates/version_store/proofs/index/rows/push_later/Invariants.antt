use Rattle.std.proofs.Common.{◌≡◌, ◌++◌, filter}
use Rattle.std.specs.List.{filter_map}
use Rattle.version_store.specs.Index.Places.{is_between, shown}
use Rattle.version_store.proofs.index.rows.push_later.Given as goal

abbrev pub invariant-loop-place : goal.invariant-loop-place
invariant-loop-place l = l.list.items ++ filter_map (shown l.version l.states) l.place-iterator ≡ l.initial.list.items ++ filter_map (shown l.version l.states) (filter (is_between l.fn.from l.fn.to) l.places.keys)
