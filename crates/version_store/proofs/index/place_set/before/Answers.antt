use Rattle.std.proofs.Common.{Option, ℕ, ap, get_or, rules, sym, ◌∙◌}
use Rattle.std.specs.List.{filter}
use Rattle.std.proofs.lemmas.List.Sorted.{IsPartitionPoint-from_clause}
use Rattle.lc_model.proofs.RangesLemmas.{filter_all}
use Rattle.lc_model.specs.Versions.Pages.{is_before}
use Rattle.version_store.specs.declared.index.place.Place.{Place}
use Rattle.version_store.proofs.IndexLemmas.PlaceLemmas.{leaves_before, parted, to_point}
use Rattle.version_store.proofs.index.place_set.before.Goals as goal

pub returns-in-Some : goal.returns-in-Some
returns-in-Some c =
    let places = c.args.places.now in
    let found = c.partition_point-end.ensures in
    let to = c.in-Some.to in
    let point = IsPartitionPoint-from_clause (leaves_before to) places c.partition_point-end.result found.partitioned (parted places to c.requires) (λ a r q k. search rules) in
    to_point places to c.partition_point-end.result found.bound point ∙ ap (λ (o : Option ℕ). filter (λ (p : Place). is_before o p.dep) places) (sym c.in-Some.is)

pub returns-in-None : goal.returns-in-None
returns-in-None c =
    let places = c.args.places.now in
    sym (filter_all (λ (p : Place). is_before c.args.to p.dep) places (λ k d inside. ap (λ (o : Option ℕ). is_before o (get_or places k d).dep) c.in-None.is))
