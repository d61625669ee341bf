use Rattle.std.proofs.Common.{List, ◌-◌, ◌<◌, ◌≤◌, ap, arith, get_or, length, refl, subst}
use Rattle.lc_model.specs.declared.call.Call.{Call}
use Rattle.version_store.specs.declared.index.place.Place.{Place}
use Rattle.version_store.proofs.IndexLemmas.GatherLemmas.{up_to_all, up_to_apart, up_to_more, up_to_none}
use Rattle.version_store.proofs.index.gather.push_places.Goals as goal

pub loop-next-init : goal.loop-next-init
loop-next-init c = record { has = up_to_none c.args.of c.args.state.now 1 c.args.places.now.items (omega arith); apart = λ below apart. apart }

pub loop-next-preserved : goal.loop-next-preserved
loop-next-preserved c =
    let calls = c.as_slice-calls.ensures.value in
    let d = c.index-calls-next.result in
    let next = c.loop-next.next in
    let old = c.args.places.now.items in
    let list = c.loop-next.places.items in
    let new = c.push.new.self.items in
    let pushed : Place = record { dep = (get_or c.as_slice-calls.result.now (next - 1) d).dep; state = c.args.of; at = c.in_ok-at.at } in
    record {
      has =
          up_to_more c.args.of c.args.state.now next (next - 1) d old list new pushed (omega arith)
          (subst (λ (v : List Call). next < length v) calls c.loop-next-test.true) refl c.in_ok-at.ensures
          (ap (λ (v : List Call). (get_or v (next - 1) d).dep) calls) c.in_ok-push.ensures.items c.loop-next.invariant.has;
      apart = λ below apart.
          up_to_apart c.args.of c.args.state.now next (next - 1) old list new pushed (omega arith) refl c.in_ok-at.ensures c.in_ok-push.ensures.items c.loop-next.invariant.has below
          (c.loop-next.invariant.apart below apart);
    }

pub returns : goal.returns
returns c = record {
  has =
      up_to_all c.args.of c.args.state.now c.loop-next.next c.args.places.now.items c.loop-next.places.items
      (subst (λ (v : List Call). length v ≤ c.loop-next.next) c.as_slice-calls.ensures.value c.loop-next-test.false) c.loop-next.invariant.has;
  apart = c.loop-next.invariant.apart;
}
