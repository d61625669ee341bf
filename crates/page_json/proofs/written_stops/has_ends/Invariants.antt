-- The ends so far are stops.
use Rattle.std.proofs.Common.{All, take}
use Rattle.lc_model.specs.Stop.{HasStop}
use Rattle.lc_model.specs.declared.change.Change.{Change}
use Rattle.page_json.proofs.written_stops.has_ends.Given as goal

abbrev pub invariant-loop-change : goal.invariant-loop-change
invariant-loop-change l = record {
  from : All (λ (c : Change). HasStop l.stops c.from) (take l.change-index l.changes);
  to : All (λ (c : Change). HasStop l.stops c.to) (take l.change-index l.changes);
}
