use Rattle.std.specs.Prelude.{IsTrue}
use Rattle.rows_sockets.proofs.server.serve_all.Given as goal

abbrev pub invariant-clients : goal.invariant-clients
invariant-clients g l = IsTrue (g.D.Door.seen l.door).listens
