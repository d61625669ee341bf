use Rattle.std.proofs.Common.{[]}
use Rattle.cli_replay.specs.ReplayLaws.Played.{Plays}
use Rattle.lc_world.specs.GoneOn.{IsLeftByGets}
use Rattle.cli_replay.proofs.planning.events.happen.Given as goal

abbrev pub invariant-events : goal.invariant-events
invariant-events g l = record {
  plays : Plays g.L.Link.seen l.yielded l.initial.convoy l.convoy l.initial.link l.link [];
  left : IsLeftByGets (g.L.Link.seen l.initial.link) (g.L.Link.seen l.link);
}
