use Rattle.page_relay.proofs.NearLemmas as near
use Rattle.page_relay.proofs.near.near_memories.Goals as goal

pub returns-clause-time_gate : goal.returns-clause-time_gate
returns-clause-time_gate c = near.no_time_gate_fits

pub returns-clause-gate_request : goal.returns-clause-gate_request
returns-clause-gate_request c = near.no_time_gate_is_kept

pub returns-clause-other_status : goal.returns-clause-other_status
returns-clause-other_status c = near.no_other_status_is_kept

pub returns-clause-own : goal.returns-clause-own
returns-clause-own c = near.found_is_its_own

pub returns-clause-others : goal.returns-clause-others
returns-clause-others c = near.others_are_not_found
