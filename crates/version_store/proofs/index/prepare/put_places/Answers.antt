use Rattle.std.proofs.Common.{List, rules, subst, sym}
use Rattle.std.specs.List.{Contains}
use Rattle.std.specs.Vec.Iter.{into_iter_items, into_iter_len}
use Rattle.version_store.specs.declared.index.place.Place.{Place}
use Rattle.version_store.proofs.IndexLemmas.PrepareLemmas.{PutsSome, nothing_left, puts_all, puts_none, puts_one}
use Rattle.version_store.proofs.index.prepare.put_places.Goals as goal

pub loop-place-init : goal.loop-place-init
loop-place-init c =
    let old = c.args.places.now in
    let more = c.args.more.items in
    subst (PutsSome old old more) (sym c.into_iter-place-iterator.ensures.into_iter_gives.0) (puts_none old more)

pub loop-place-preserved : goal.loop-place-preserved
loop-place-preserved c =
    puts_one c.args.places.now c.loop-place.places c.insert.new.self c.args.more.items _ _ c.in-Some.place c.in-Some.ensures.steps.0 c.in_ok-insert.ensures.ok c.loop-place.invariant

pub returns : goal.returns
returns c =
    let it = c.loop-place.place-iterator in
    let done = nothing_left (into_iter_items it) (into_iter_len it) it.rest.ok.0 c.in-None.ensures.steps.0 in
    let puts = c.loop-place.invariant in
    record { kept = puts.stay; only = puts.only; all = puts_all c.args.places.now c.loop-place.places c.args.more.items _ done puts }

pub returns-in_err-insert : goal.returns-in_err-insert
returns-in_err-insert c =
    let puts = c.loop-place.invariant in
    let same = c.in_err-insert.ensures.err in
    record {
      kept = λ p h. subst (λ (v : List Place). Contains v p) (sym same) (puts.stay p h);
      only = λ p h. puts.only p (subst (λ (v : List Place). Contains v p) same h);
      all = search rules;
    }
