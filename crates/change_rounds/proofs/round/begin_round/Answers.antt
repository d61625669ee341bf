use Rattle.std.proofs.Common.{◌≡◌, List, None, replicate, sym, subst, arith}
use Rattle.std.proofs.lemmas.Grind.{common_steps}
use Rattle.csa_scan.specs.Linked.{IsLinked}
use Rattle.csa_scan.specs.declared.trace.Arrival.{Arrival}
use Rattle.change_rounds.proofs.BoardingLemmas.{linked-cleared}
use Rattle.change_rounds.proofs.round.begin_round.Goals as goal

pub invariant_of-progress-2 : goal.invariant_of-progress-2
invariant_of-progress-2 c =
    let p = c.args.progress.now in
    let none : c.in_ok-progress.field-0.items ≡ replicate c.args.runs None = grind (arith, common_steps) in
    let P : List Arrival → Type 0 = λ l. IsLinked c.in_ok-progress.field-0.items p.ready.items p.reached.items l p.best in
    record {
      linked = subst P (sym c.reserve.ensures.items)
          (linked-cleared p.boardings.items p.ready.items p.reached.items p.arrivals.items p.best p.linked c.args.runs c.requires c.in_ok-progress.field-0.items none);
    }
