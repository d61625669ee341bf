use Rattle.std.proofs.Common.{◌≡◌, ◌+◌, ◌<◌, ◌^◌, length}
use Rattle.lc_cli.specs.Block.{client_status_of}
use Rattle.lc_cli.proofs.block.client_status.Given as goal

abbrev pub invariant-clients : goal.invariant-clients
invariant-clients l =
    (client_status_of 1 l.fn.ends.items ≡ client_status_of (l.client + 1) l.end-iterator.rest.items) × (l.client + length l.end-iterator.rest.items < 2 ^ 64)
