use Rattle.std.proofs.Common.{◌≡◌}
use Rattle.lc_world.specs.GoneOn.{IsLeftByGets}
use Rattle.convoy.proofs.RoundLemmas.{AfterRounds}
use Rattle.convoy.proofs.convoy.Convoy.finish.Given as goal

abbrev pub invariant-loop-index : goal.invariant-loop-index
invariant-loop-index g l = record {
  rounds : AfterRounds g.L.Link.seen l.index l.initial.self l.self l.initial.link l.link;
  left : IsLeftByGets (g.L.Link.seen l.initial.link) (g.L.Link.seen l.link);
  behind : g.L.Link.behind l.link ≡ g.L.Link.behind l.initial.link;
}
