use Rattle.std.proofs.Common.{refl}
use Rattle.page_relay.proofs.worked.worked_memories.Goals as goal

pub returns-clause-finds : goal.returns-clause-finds
returns-clause-finds c = record { stops_found = refl; first_found = refl; second_found = refl; other_query = refl; no_query = refl; other_authority = refl }

pub returns-clause-uses : goal.returns-clause-uses
returns-clause-uses c = record { used = refl; used_again = refl; not_kept = refl; room = refl; full = refl }
