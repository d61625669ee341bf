-- The search finds the change, where there is one.
use Rattle.std.proofs.Common.{◌≡◌, ℕ, ◌<◌, List, Some, None, Ok, Err, get_or, length, subst, sym, rules}
use Rattle.std.proofs.lemmas.Fn.{always_returns_same}
use Rattle.std.specs.List.Sorted.{IsBinarySearchResult, IsSearchInRange}
use Rattle.lc_model.specs.Change.{change_between}
use Rattle.lc_model.specs.declared.change.Change.{Change}
use Rattle.lc_model.proofs.ChangeSearchLemmas.{found_between, none_between, stands}
use Rattle.lc_model.proofs.changes.Changes.between.Goals as goal

pub returns-in-Ok : goal.returns-in-Ok
returns-in-Ok c =
    let from : List ℕ = c.args.from.now in
    let to : List ℕ = c.args.to.now in
    let xs : List Change = c.as_slice-changes.result.now in
    let position = c.binary_search_by.ensures.position (stands from to) (always_returns_same _ _ _ (λ a r g called. (search rules, search rules))) in
    let found : IsBinarySearchResult (stands from to) xs (Ok c.in-Ok.place) = subst (λ r. IsBinarySearchResult (stands from to) xs r) c.in-Ok.is position in
    let inside : c.in-Ok.place < length xs = subst (λ r. IsSearchInRange r (length xs)) c.in-Ok.is c.binary_search_by.ensures.bound in
    sym (subst (λ changes. change_between changes from to ≡ Some (get_or xs c.in-Ok.place c.index-changes-place.result).seconds) c.as_slice-changes.ensures.value
    (found_between xs from to c.in-Ok.place c.index-changes-place.result c.as_slice-changes.ensures.in_order inside c.index-changes-place.is found))

pub returns-in-Err : goal.returns-in-Err
returns-in-Err c =
    let from : List ℕ = c.args.from.now in
    let to : List ℕ = c.args.to.now in
    let xs : List Change = c.as_slice-changes.result.now in
    let position = c.binary_search_by.ensures.position (stands from to) (always_returns_same _ _ _ (λ a r g called. (search rules, search rules))) in
    let found : IsBinarySearchResult (stands from to) xs (Err c.in-Err.field-0) = subst (λ r. IsBinarySearchResult (stands from to) xs r) c.in-Err.is position in
    sym (subst (λ changes. change_between changes from to ≡ None) c.as_slice-changes.ensures.value
    (none_between xs from to c.in-Err.field-0 c.as_slice-changes.ensures.in_order found))
