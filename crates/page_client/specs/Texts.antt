-- What the faults of a client are printed as: a refusal of its question, or a peer that is wrong.
use Rattle.std.specs.Prelude.{ℕ, List, ◌++◌, codes}
use Rattle.std.specs.Fmt.{decimal}
use Rattle.page_client.specs.declared.fault.PeerFault.{PeerFault}
use Rattle.page_client.specs.declared.fault.PeerFault.TheVariants as peers
use Rattle.page_client.specs.declared.fault.QueryFault.{QueryFault}
use Rattle.page_client.specs.declared.fault.QueryFault.TheVariants as queries

-- why a question is refused
abbrev pub query_fault_text : QueryFault → List ℕ
query_fault_text queries.HorizonRange = codes "refused horizon"
query_fault_text queries.SameStop = codes "refused same stop"
query_fault_text queries.UnknownFrom = codes "refused unknown from"
query_fault_text queries.UnknownTo = codes "refused unknown to"

-- which test a reply fails, and the status of one that has another
abbrev pub peer_fault_text : PeerFault → List ℕ
peer_fault_text (peers.Reply fault) = codes "peer wrong reply"
peer_fault_text (peers.Status got) = codes "peer wrong status " ++ decimal got
peer_fault_text peers.Location = codes "peer wrong location"
peer_fault_text (peers.Body fault) = codes "peer wrong body"
peer_fault_text peers.Identity = codes "peer wrong identity"
peer_fault_text peers.Advance = codes "peer wrong advance"
peer_fault_text (peers.GateWrong page) = codes "peer wrong gate"
peer_fault_text peers.Retreat = codes "peer wrong retreat"
