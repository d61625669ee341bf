use Rattle.std.proofs.Common.{List, ap, map, refl, rules}
use Rattle.version_store.specs.IndexLaws.Kept.{entities_after}
use Rattle.version_store.specs.Dates.{date_in}
use Rattle.version_store.specs.Store.{entry_of}
use Rattle.version_store.specs.declared.store.Admission.{Admission}
use Rattle.version_store.proofs.ForceLemmas.{none_in_force}
use Rattle.version_store.proofs.IndexedLemmas.{indexed_base}
use Rattle.version_store.proofs.store.Store.new.Goals as goal

pub invariant_of-result : goal.invariant_of-result
invariant_of-result c = record {
  trips = c.in_ok-index.ensures.trips;
  versions = search rules;
  rising = search rules;
  bytes = search rules;
  within = search rules;
  force = none_in_force _ c.new-2.result _ c.new-2.ensures.ids c.new-2.ensures.trips (ap (λ (v : List Admission). entities_after (date_in c.args.zone) (map (λ (a : Admission). entry_of a.update a.bytes) v)) c.new.ensures.items);
  indexed = indexed_base _ c.in_ok-index.index _ (ap (map (λ (a : Admission). entry_of a.update a.bytes)) c.new.ensures.items) c.in_ok-index.ensures.newest refl (c.in_ok-index.ensures.runs c.args.stops);
}
