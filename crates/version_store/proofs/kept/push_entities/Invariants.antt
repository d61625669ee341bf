use Rattle.std.proofs.Common.{◌≡◌, [], drop, map}
use Rattle.lc_model.specs.Versions.History.{filled}
use Rattle.version_store.specs.Kept.{then_all, then_entities}
use Rattle.version_store.specs.Spots.{StayAt}
use Rattle.version_store.proofs.kept.push_entities.Given as goal

abbrev pub invariant-entities : goal.invariant-entities
invariant-entities l = record {
  all : then_entities l.replaces (then_all [] l.marks.items) (map (filled l.date) (drop l.number l.entities)) ≡ then_entities l.replaces (then_all [] l.initial.marks.items) (map (filled l.date) l.entities);
  at : StayAt l.message l.entities l.initial.marks.items l.marks.items;
}
