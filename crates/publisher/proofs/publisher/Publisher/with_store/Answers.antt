use Rattle.std.proofs.Common.{◌≡◌, ap, arith, length, subst, sym, List}
use Rattle.std.specs.List.{All}
use Rattle.lc_model.specs.Call.{InSequence}
use Rattle.lc_model.specs.Run.{InKeyOrder}
use Rattle.lc_model.specs.declared.run.Run.{Run}
use Rattle.version_store.specs.Store.{Stored}
use Rattle.publisher.proofs.CutsLemmas.{keeps_none}
use Rattle.publisher.proofs.publisher.Publisher.with_store.Goals as goal

pub invariant_of-result : goal.invariant_of-result
invariant_of-result g c =
    let store = c.in_ok-store.ensures.store in
    let runs : c.in_ok-store.store.runs ≡ c.args.runs = ap (λ (s : Stored). s.runs) store in
    record {
      stops = ap (λ (s : Stored). s.stops) store;
      runs = subst InKeyOrder (sym runs) c.runs_are_in_order.ensures;
      calls = subst (λ (list : List Run). All (λ (run : Run). InSequence run.calls) list) (sym runs) c.in_ok-store.ensures.calls;
      cuts = keeps_none _ c.args.made.cuts c.requires.cuts;
      few = let none : length c.args.made.cuts ≡ 0 = ap length c.requires.cuts in omega arith;
      text = c.requires.text;
      sound = c.requires.sound;
    }
