use Rattle.std.proofs.Common.{rules}
use Rattle.std.proofs.lemmas.Map.Iter.{rest_all, rest_more}
use Rattle.std.specs.Map.Iter.{deref_pair}
use Rattle.version_store.proofs.ExchangeLemmas.{alike_itself, alike_then, all_so_far, none_so_far, one_so_far}
use Rattle.version_store.proofs.exchange.make_room.Goals as goal

pub loop-label-init : goal.loop-label-init
loop-label-init c = record {
  alike = alike_itself c.args.filed.now;
  has = none_so_far c.args.patch.now c.args.filed.now c.into_iter-label-iterator.result (search rules);
}

pub loop-label-preserved : goal.loop-label-preserved
loop-label-preserved c = record {
  alike = alike_then c.args.filed.now c.loop-label.filed c.put_label.new.filed c.loop-label.invariant.alike c.in_ok-put_label.ensures.alike;
  has = one_so_far c.args.patch.now c.loop-label.filed c.put_label.new.filed c.loop-label.label-iterator c.next.new.self c.in-Some.label.now _ (rest_more deref_pair _ _ _ _ c.in-Some.is c.next.ensures.steps)
      c.in_ok-put_label.ensures.stay c.in_ok-put_label.ensures.has c.loop-label.invariant.has;
}

pub returns-clause-has : goal.returns-clause-has
returns-clause-has c = all_so_far c.args.patch.now c.loop-label.filed c.loop-label.label-iterator (rest_all deref_pair _ _ _ c.in-None.is c.next.ensures.steps) c.loop-label.invariant.has

pub returns-in_err-put_label : goal.returns-in_err-put_label
returns-in_err-put_label c = record {
  alike = alike_then c.args.filed.now c.loop-label.filed c.put_label.new.filed c.loop-label.invariant.alike c.in_err-put_label.ensures.alike;
  has = search rules;
}
