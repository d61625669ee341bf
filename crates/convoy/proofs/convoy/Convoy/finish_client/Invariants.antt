use Rattle.std.proofs.Common.{◌≡◌}
use Rattle.lc_world.specs.GoneOn.{IsLeftByGets}
use Rattle.convoy.proofs.FinishLemmas.{SoFar, left_to}
use Rattle.convoy.proofs.convoy.Convoy.finish_client.Given as goal

abbrev pub invariant-loop-alloc : goal.invariant-loop-alloc
invariant-loop-alloc g l = record {
  so_far : SoFar g.L.Link.seen l.k l.initial.self l.self l.initial.link l.link;
  left : IsLeftByGets (g.L.Link.seen l.initial.link) (g.L.Link.seen l.link);
  behind : g.L.Link.behind l.link ≡ g.L.Link.behind l.initial.link;
}

abbrev pub decreases-loop-alloc : goal.decreases-loop-alloc
decreases-loop-alloc g l = left_to l.self.members l.k
