use Rattle.std.proofs.Common.{ap, sym, subst, ◌∙◌}
use Rattle.lc_model.specs.Connection.{NoneArrivesEarly, connections_of_calls}
use Rattle.live_calls.proofs.run_connections.connections.Goals as goal

pub from_list-requires : goal.from_list-requires
from_list-requires c = subst NoneArrivesEarly (sym (c.in_ok-list.ensures ∙ ap (connections_of_calls c.args.run.now.key) c.as_slice.ensures.value)) c.requires
