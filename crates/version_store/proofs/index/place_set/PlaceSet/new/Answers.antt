use Rattle.std.proofs.Common.{List, ◌++◌, sym, subst, ap, ◌∙◌}
use Rattle.std.specs.List.{Contains}
use Rattle.std.proofs.lemmas.List.{append-nil}
use Rattle.std.proofs.lemmas.List.Sorted.{Contains-permutation, IsPermutation-sym, IsPermutation-trans}
use Rattle.lc_model.proofs.ListLemmas.{Contains-nil}
use Rattle.lc_model.proofs.OrdersLemmas.{IsStrict-from_sorted}
use Rattle.version_store.specs.Index.Places.{place_cmp}
use Rattle.version_store.specs.declared.index.place.Place.{Place}
use Rattle.version_store.proofs.IndexLemmas.PlaceLemmas.{place_cmp_total}
use Rattle.version_store.proofs.index.place_set.PlaceSet.new.Goals as goal

pub invariant_of-result : goal.invariant_of-result
invariant_of-result c = record {
  first =
      IsStrict-from_sorted place_cmp place_cmp_total c.args.list.items c.sort_unstable.new.self.items
      (IsPermutation-trans c.args.list.items c.in_ok-first.first.items c.sort_unstable.new.self.items c.in_ok-first.ensures c.sort_unstable.ensures.permutation) c.sort_unstable.ensures.sorted c.requires;
  later = c.new.ensures.ordered;
  apart = λ p h k. Contains-nil p (subst (λ (v : List Place). Contains v p) c.new.ensures.empty k);
}

pub returns : goal.returns
returns c = λ p.
    let list = c.args.list.items in
    let sorted = c.sort_unstable.new.self.items in
    let moved = IsPermutation-trans list c.in_ok-first.first.items sorted c.in_ok-first.ensures c.sort_unstable.ensures.permutation in
    let all = ap (λ (v : List Place). sorted ++ v) c.new.ensures.empty ∙ append-nil sorted in (
      λ h. Contains-permutation sorted list p (IsPermutation-sym list sorted moved) (subst (λ (v : List Place). Contains v p) all h),
      λ h. subst (λ (v : List Place). Contains v p) (sym all) (Contains-permutation list sorted p moved h),
    )
