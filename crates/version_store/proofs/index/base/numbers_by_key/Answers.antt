use Rattle.std.proofs.Common.{◌∙◌, subst}
use Rattle.std.specs.Prelude.{IfOk}
use Rattle.std.specs.BTreeMap.{IsFromIterResult}
use Rattle.std.proofs.lemmas.Iterator.Adapters.{YieldsList-from_vec, fact_from_collect}
use Rattle.lc_model.specs.RunKey.{key_cmp}
use Rattle.version_store.proofs.IndexLemmas.BaseLemmas.{numbered_map}
use Rattle.version_store.proofs.index.base.numbers_by_key.Goals as goal

pub returns : goal.returns
returns c =
    let list = c.in_ok-numbers.numbers.items in
    let made =
    fact_from_collect (IsFromIterResult key_cmp) c.collect.result c.collect.ensures.ran
    (YieldsList-from_vec list c.into_iter.ensures.rest (c.into_iter.ensures.len ∙ c.in_ok-numbers.numbers.ok.0)) in
    numbered_map c.args.states.now list c.in_ok-collect.field-0 c.requires c.in_ok-numbers.ensures (subst (λ r. IfOk r (IsFromIterResult key_cmp list)) c.in_ok-collect.was made)
