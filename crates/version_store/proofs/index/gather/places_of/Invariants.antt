use Rattle.std.proofs.Common.{take}
use Rattle.lc_model.specs.Order.{AreApart}
use Rattle.version_store.specs.Index.Gathered.{AreOfStates}
use Rattle.version_store.specs.Index.Places.{place_cmp}
use Rattle.version_store.proofs.index.gather.places_of.Given as goal

abbrev pub invariant-loop-at : goal.invariant-loop-at
invariant-loop-at l = record { has : AreOfStates (take l.at l.states) l.places.items; apart : AreApart place_cmp l.places.items }
