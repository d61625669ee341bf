use Rattle.version_store.proofs.IndexLawsLemmas.HeldLemmas as held
use Rattle.version_store.proofs.index_laws.held.held_are_live.Goals as goal

pub returns : goal.returns
returns c = record { hold = held.live_hold; ordered = held.ordered_are_live; live = held.held_are_live; connections = held.same_connections; one = held.one_run }
