use Rattle.std.proofs.Common.{◌≡◌, take}
use Rattle.lc_model.specs.Connection.{NoneArrivesEarly}
use Rattle.rounds_client.specs.Given.{connections_of_pages}
use Rattle.rounds_client.proofs.ending.connections.Given as goal

abbrev pub invariant-pages : goal.invariant-pages
invariant-pages l = record {
  so_far : l.list.items ≡ connections_of_pages (take l.page-index l.pages);
  forward : NoneArrivesEarly l.list.items;
}
