-- The connections so far are read, and none arrives before it departs.
use Rattle.lc_model.specs.Connection.{NoneArrivesEarly}
use Rattle.page_json.specs.PageReading.{connection_in}
use Rattle.page_json.proofs.ObjectMembersLemmas.EachLemmas.{AreReadTo}
use Rattle.page_json.proofs.connection_reading.connections_in.Given as goal

abbrev pub invariant-loop-value : goal.invariant-loop-value
invariant-loop-value l =
    AreReadTo (connection_in l.base) l.values l.value-index l.connections.items × NoneArrivesEarly l.connections.items
