-- The parents so far are stops.
use Rattle.std.proofs.Common.{All, take}
use Rattle.std.specs.Option.{IfSome}
use Rattle.lc_model.specs.Stop.{HasStop}
use Rattle.lc_model.specs.declared.stop.Stop.{Stop}
use Rattle.page_json.proofs.written_stops.has_parents.Given as goal

abbrev pub invariant-loop-child : goal.invariant-loop-child
invariant-loop-child l = All (λ (s : Stop). IfSome s.parent (HasStop l.stops)) (take l.child-index l.children)
