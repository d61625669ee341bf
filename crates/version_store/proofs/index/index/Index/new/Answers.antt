use Rattle.std.proofs.Common.{List, ap, subst, sym, ◌∙◌}
use Rattle.version_store.specs.Index.Base.{AreKeysInOrder, AreNumbered}
use Rattle.version_store.specs.Index.Gathered.{AreOfStates}
use Rattle.version_store.specs.Index.Spans.{held}
use Rattle.version_store.specs.declared.index.state.State.{State}
use Rattle.version_store.proofs.IndexLemmas.BaseLemmas.{are_also, base_held, base_kept, keys_in_order}
use Rattle.version_store.proofs.index.index.Index.new.Goals as goal

pub numbers_by_key-requires : goal.numbers_by_key-requires
numbers_by_key-requires c = subst AreKeysInOrder (sym (c.as_slice-2.ensures.value ∙ c.in_ok-states.ensures)) (keys_in_order c.args.runs.items c.requires.in_order)

pub new-requires : goal.new-requires
new-requires c = c.in_ok-places_of.ensures.apart

pub invariant_of-result : goal.invariant_of-result
invariant_of-result c =
    let keys = c.in_ok-places.places in
    let numbers = c.in_ok-running.running in
    base_kept c.args.runs.items c.in_ok-states.states.items keys numbers c.requires.in_order c.requires.forward c.in_ok-states.ensures
    (subst (λ (v : List State). AreOfStates v keys) c.as_slice.ensures.value (are_also c.as_slice.result.now c.in_ok-places_of.field-0.items keys c.in_ok-places_of.ensures.has c.in_ok-places.ensures))
    (subst (λ (v : List State). AreNumbered v numbers) c.as_slice-2.ensures.value c.in_ok-running.ensures)

pub returns-clause-runs : goal.returns-clause-runs
returns-clause-runs c = λ version. ap (held version) c.in_ok-states.ensures ∙ base_held version c.args.runs.items
