-- The items so far are read.
use Rattle.std.specs.List.{All}
use Rattle.lc_model.specs.Stop.{HasStop}
use Rattle.lc_model.specs.declared.change.Change.{Change}
use Rattle.page_json.specs.StopsReading.{change_in}
use Rattle.page_json.proofs.ObjectMembersLemmas.EachLemmas.{AreReadTo}
use Rattle.page_json.proofs.change_reading.each_change.Given as goal

abbrev pub invariant-loop-value : goal.invariant-loop-value
invariant-loop-value l =
    AreReadTo (change_in l.stops) l.values l.value-index l.changes.items
    × All (λ (c : Change). HasStop l.stops c.from) l.changes.items × All (λ (c : Change). HasStop l.stops c.to) l.changes.items
