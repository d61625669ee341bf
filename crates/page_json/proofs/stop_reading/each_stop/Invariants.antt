-- The items so far are read.
use Rattle.page_json.specs.StopsReading.{stop_in}
use Rattle.page_json.proofs.ObjectMembersLemmas.EachLemmas.{AreReadTo}
use Rattle.page_json.proofs.stop_reading.each_stop.Given as goal

abbrev pub invariant-loop-value : goal.invariant-loop-value
invariant-loop-value l =
    AreReadTo (stop_in) l.values l.value-index l.stops.items
