use Rattle.std.specs.Prelude.{◌<◌, All}
use Rattle.lc_model.specs.Order.{AreApart}
use Rattle.version_store.specs.Index.Places.{place_cmp}
use Rattle.version_store.specs.declared.index.place.Place.{Place}
use Rattle.version_store.proofs.IndexLemmas.GatherLemmas.{HasUpTo}
use Rattle.version_store.proofs.index.gather.push_places.Given as goal

abbrev pub invariant-loop-next : goal.invariant-loop-next
invariant-loop-next l = record {
  has : HasUpTo l.of l.state l.next l.initial.places.items l.places.items;
  apart : All (λ (p : Place). p.state < l.of) l.initial.places.items → AreApart place_cmp l.initial.places.items → AreApart place_cmp l.places.items;
}
