-- What was handed on leaves a relay as honest as the link below: with a reply, which may be kept, or without one.
use Rattle.std.proofs.Common.{ap, Err, refl}
use Rattle.lc_world.specs.declared.link.LinkFail.TheVariants.{Failed, NoMemory}
use Rattle.page_relay.specs.Exchanger.{KeeperState}
use Rattle.page_relay.proofs.HonestLemmas.{below_is, by_failure, by_reply}
use Rattle.page_relay.proofs.exchanger.Exchanger.hand_on.Goals as goal

pub returns-in_err-keep-in-Ok-clause-honest : goal.returns-in_err-keep-in-Ok-clause-honest
returns-in_err-keep-in-Ok-clause-honest g c =
    let honest = rw c.as_slice.ensures at c.in-Ok.ensures.honest in
    let same = c.in_err-keep-in-Ok.ensures.unchanged in
    rw (← c.self.view_is, same) (λ base side get is. by_failure base _ _ _ _ _ _ _ side _ _ _ _ c.from_residual.result c.from_residual.ensures.0 is (honest base side get (below_is base _ _ _ side is)))

pub returns-in-Ok-clause-kept : goal.returns-in-Ok-clause-kept
returns-in-Ok-clause-kept g c = rw (← c.self.view_is) (rw c.as_slice-in-Ok.ensures.value at c.in_ok-keep-in-Ok.ensures.kept)

pub returns-in-Ok-clause-honest : goal.returns-in-Ok-clause-honest
returns-in-Ok-clause-honest g c =
    let honest = rw c.as_slice.ensures at c.in-Ok.ensures.honest in
    let keeps = rw c.as_slice-in-Ok.ensures.value at c.in_ok-keep-in-Ok.ensures.kept in
    let own = ap (λ (k : KeeperState). k.base) c.keep.ensures.rest in
    rw (← c.self.view_is, own) (λ base side get is. by_reply _ base _ _ _ _ _ _ _ _ _ side c.args.sent _ _ tt is (honest base side get (below_is base _ _ _ side is)) keeps)

pub returns-in-Err-Failed-clause-honest : goal.returns-in-Err-Failed-clause-honest
returns-in-Err-Failed-clause-honest g c =
    let honest = rw c.as_slice.ensures at c.in-Err-Failed.ensures.honest in
    rw (← c.self.view_is) (λ base side get is. by_failure base _ _ _ _ _ _ _ side _ _ _ _ (Err Failed) refl is (honest base side get (below_is base _ _ _ side is)))

pub returns-clause-honest : goal.returns-clause-honest
returns-clause-honest g c =
    let honest = rw c.as_slice.ensures at c.in-Err-NoMemory.ensures.honest in
    rw (← c.self.view_is) (λ base side get is. by_failure base _ _ _ _ _ _ _ side _ _ _ _ (Err NoMemory) refl is (honest base side get (below_is base _ _ _ side is)))
