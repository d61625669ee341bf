-- The search says whether the id is there.
use Rattle.std.proofs.Common.{Bor, ℕ, List, subst}
use Rattle.lc_model.proofs.SearchLemmas.{Tells, search_tells}
use Rattle.lc_model.proofs.id.Id.is_among.Goals as goal

pub returns : goal.returns
returns c =
    let now : Bor (List ℕ) → List ℕ = λ x. x.now in
    subst (λ id. Tells now c.args.sorted.now id c.is_ok.result) c.bytes.ensures.value
    (search_tells now c.args.sorted.now c.bytes.result.now c.binary_search.result c.is_ok.result c.requires c.binary_search.ensures.bound c.binary_search.ensures.position c.is_ok.ensures.value)
