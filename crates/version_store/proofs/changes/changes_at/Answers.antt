use Rattle.std.proofs.Common.{◌≡◌, ◌∙◌, ◌∷◌, List, arith, map, refl, rules, subst, sym}
use Rattle.std.specs.List.{Contains}
use Rattle.std.proofs.lemmas.Map.Iter.{rest_all, rest_more, rest_so_far}
use Rattle.std.proofs.lemmas.List.Elements.{Contains-append_right}
use Rattle.std.specs.Map.Iter.{deref}
use Rattle.lc_model.specs.declared.key.RunKey.{RunKey}
use Rattle.version_store.specs.Changes.{AreChangesAt}
use Rattle.version_store.proofs.ChangesLemmas.{changes_more, no_changes}
use Rattle.version_store.proofs.changes.changes_at.Goals as goal

pub loop-key-init : goal.loop-key-init
loop-key-init c = λ before after in_old in_new.
    let all : c.into_iter-key-iterator.result ≡ c.args.keys.now.keys = search rules in
    no_changes c.args.runs.now c.args.stops.now before after c.args.keys.now c.into_iter-key-iterator.result (record { ended = c.new.result; begun = c.new-2.result })
    all c.new.ensures.items c.new-2.ensures.empty

pub loop-key-preserved : goal.loop-key-preserved
loop-key-preserved c = λ before after in_old in_new.
    let key = c.in-Some.key.now in
    let all : c.into_iter-key-iterator.result ≡ c.args.keys.now.keys = search rules in
    let first = rest_more deref _ _ _ c.in-Some.key c.in-Some.is c.next.ensures.steps in
    let so_far = rest_so_far deref c.loop-key.yielded c.into_iter-key-iterator.result c.loop-key.key-iterator c.loop-key.yielded_by in
    let head : Contains (key ∷ c.next.new.self) key = (0, omega arith, refl) in
    let left : Contains c.loop-key.key-iterator key = subst (λ (v : List RunKey). Contains v key) (sym first) head in
    let here : Contains c.args.keys.now.keys key =
    subst (λ (v : List RunKey). Contains v key) (sym so_far ∙ all) (Contains-append_right (map deref c.loop-key.yielded) c.loop-key.key-iterator key left) in
    changes_more c.args.runs.now c.args.stops.now before after c.requires c.args.keys.now key c.loop-key.key-iterator c.next.new.self c.loop-key.changes c.put_turn.new.changes first
    (c.loop-key.invariant before after in_old in_new)
    (c.in_ok-put_turn.ensures before after (in_old key here) (in_new key here))

pub returns : goal.returns
returns c = λ before after in_old in_new.
    subst (λ (left : List RunKey). AreChangesAt c.args.runs.now c.args.stops.now before after c.args.keys.now left c.loop-key.changes)
    (rest_all deref _ _ _ c.in-None.is c.next.ensures.steps)
    (c.loop-key.invariant before after in_old in_new)
