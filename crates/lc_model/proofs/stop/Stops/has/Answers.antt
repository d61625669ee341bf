-- The search says whether the stop is there.
use Rattle.std.proofs.Common.{ℕ, List, subst, rules}
use Rattle.std.proofs.lemmas.Cmp.{nat_list_cmp_total, on_total}
use Rattle.std.proofs.lemmas.Fn.{always_returns_same}
use Rattle.std.specs.Ordering.{on}
use Rattle.lc_model.specs.Text.{id_cmp}
use Rattle.lc_model.specs.declared.stop.Stop.{Stop}
use Rattle.lc_model.proofs.SearchLemmas.{Tells, search_tells, sorted_from_strict}
use Rattle.lc_model.proofs.stop.Stops.has.Goals as goal

pub returns : goal.returns
returns c =
    let id : Stop → List ℕ = λ s. s.id in
    let found = c.binary_search_by.ensures.position (λ (s : Stop). id_cmp s.id c.args.id.now) (always_returns_same _ _ _ (λ a r g called. (search rules, search rules))) in
    subst (λ stops. Tells id stops c.args.id.now c.is_ok.result) c.as_slice.ensures.value
    (search_tells id c.as_slice.result.now c.args.id.now c.binary_search_by.result c.is_ok.result
    (sorted_from_strict (on id id_cmp) (on_total id nat_list_cmp_total) c.as_slice.result.now c.as_slice.ensures.in_order)
    c.binary_search_by.ensures.bound found c.is_ok.ensures.value)
