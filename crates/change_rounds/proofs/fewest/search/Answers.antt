use Rattle.std.proofs.Common.{Option, suc, subst, arith, ◌+◌}
use Rattle.lc_model.specs.declared.journey.Journey.{Journey}
use Rattle.change_rounds.specs.Rounds.{IsChainWithin}
use Rattle.change_rounds.proofs.EndsLemmas.{fewest_below, one_more}
use Rattle.change_rounds.proofs.fewest.search.Goals as goal

pub loop-round-preserved : goal.loop-round-preserved
loop-round-preserved c =
    let query = c.args.query.now in
    let doc = c.args.doc.now in
    let list = c.args.list.now in
    let best = c.args.best in
    let made = c.loop-round.invariant.made in
    let is = made.1 in
    let are = c.in_ok-advance.ensures.one_more made.0 c.requires.asked made.2 in
    let P : Option Journey → Type 0 = λ o. IsChainWithin query doc list best (suc made.0) o in
    let none = subst P c.in_default.is (c.in_ok-journey.ensures query list (suc made.0) c.requires.asked are) in
    record {
      one_each = c.in_ok-advance.ensures.one_each;
      same_length = c.in_ok-advance.ensures.same_length;
      made = (suc made.0, omega arith, are);
      many = one_more query doc list best (suc made.0) (c.loop-round.round + 1) (omega arith) none;
    }

pub returns-in-Some : goal.returns-in-Some
returns-in-Some c =
    let query = c.args.query.now in
    let doc = c.args.doc.now in
    let list = c.args.list.now in
    let best = c.args.best in
    let made = c.loop-round.invariant.made in
    let is = made.1 in
    let are = c.in_ok-advance.ensures.one_more made.0 c.requires.asked made.2 in
    let P : Option Journey → Type 0 = λ o. IsChainWithin query doc list best (suc made.0) o in
    let some = subst P c.in-Some.is (c.in_ok-journey.ensures query list (suc made.0) c.requires.asked are) in
    fewest_below query doc list best (suc made.0) c.loop-round.round c.args.rides (omega arith) c.loop-round.invariant.many c.in-Some.journey some
