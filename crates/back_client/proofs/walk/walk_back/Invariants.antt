use Rattle.std.proofs.Common.{◌≡◌, ◌≤◌, ◌+◌, []}
use Rattle.lc_model.specs.declared.doc.StopsDoc.{StopsDoc}
use Rattle.lc_world.specs.GoneOn.{IsLeftByGets}
use Rattle.back_scan.specs.Forward.{forward_query}
use Rattle.back_scan.specs.StandsFor.{StandsFor}
use Rattle.back_client.proofs.WalkLemmas.{IsWalking}
use Rattle.back_client.proofs.walk.walk_back.Given as goal

abbrev pub invariant-pages : goal.invariant-pages
invariant-pages g l = record {
  falls : l.exchanges + l.name.departs ≤ 2 + l.fn.first.departs;
  walking : (doc : StopsDoc) → StandsFor l.initial.scan (forward_query l.query) doc [] →
      IsWalking g.L.Link.seen l.base l.query doc l.fn.gate l.fn.first l.initial.link l.scan l.place l.name l.exchanges l.link;
  left : IsLeftByGets (g.L.Link.seen l.initial.link) (g.L.Link.seen l.link);
  behind : g.L.Link.behind l.link ≡ g.L.Link.behind l.initial.link;
}

abbrev pub decreases-pages : goal.decreases-pages
decreases-pages g l = l.name.departs
