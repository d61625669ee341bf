use Rattle.std.proofs.Common.{◌≡◌, ◌+◌, ◌<◌, ◌^◌}
use Rattle.lc_world.specs.GoneOn.{IsLeftByGets}
use Rattle.page_client.specs.Client.{shown}
use Rattle.page_client.specs.Shown.{exchanges_left}
use Rattle.convoy.specs.Steps.{IsDecided}
use Rattle.rounds_client.specs.Course.{Reads}
use Rattle.rounds_client.specs.Given.{was_given}
use Rattle.rounds_client.proofs.CourseLemmas.{SoFar}
use Rattle.rounds_client.proofs.ending.finish.Given as goal

abbrev pub invariant-loop-alloc : goal.invariant-loop-alloc
invariant-loop-alloc g l = record {
  decided : IsDecided (shown l.client);
  small : l.exchanges + exchanges_left (shown l.client) < 2 ^ 33;
  query : (shown l.client).query ≡ (shown l.initial.client).query;
  so_far : SoFar g.L.Link.seen l.base l.initial.client (was_given l.initial.given) l.initial.link l.client (was_given l.given) l.link l.exchanges;
  reads : Reads l.initial.client (was_given l.initial.given) → Reads l.client (was_given l.given);
  left : IsLeftByGets (g.L.Link.seen l.initial.link) (g.L.Link.seen l.link);
  behind : g.L.Link.behind l.link ≡ g.L.Link.behind l.initial.link;
}

abbrev pub decreases-loop-alloc : goal.decreases-loop-alloc
decreases-loop-alloc g l = exchanges_left (shown l.client)
