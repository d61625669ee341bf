use Rattle.std.proofs.Common.{◌≡◌, ◌+◌}
use Rattle.cli_replay.specs.ReplayLaws.Played.{Plays}
use Rattle.lc_world.specs.GoneOn.{IsLeftByPasses}
use Rattle.cli_replay.specs.Home.{admitted_at, home_seen}
use Rattle.cli_replay.proofs.events.play.Given as goal

abbrev pub invariant-events : goal.invariant-events
invariant-events g l = record {
  plays : Plays (home_seen g.L.Link.seen) l.yielded l.initial.convoy l.convoy l.initial.home l.home l.heard.lines.items;
  admitted : admitted_at l.home ≡ admitted_at l.initial.home + l.heard.admitted;
  outer : IsLeftByPasses (g.L.Link.seen l.initial.home.outer) (g.L.Link.seen l.home.outer);
}
