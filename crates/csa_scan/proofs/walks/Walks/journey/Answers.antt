use Rattle.std.proofs.Common.{List, Option, ℕ, sym, subst, arith}
use Rattle.csa_scan.specs.Near.{IsWalkAt}
use Rattle.csa_scan.specs.declared.side.Side.TheVariants.{After}
use Rattle.csa_scan.specs.declared.trace.Near.{Near}
use Rattle.csa_scan.proofs.WayBackLemmas.{alight_of-last}
use Rattle.csa_scan.proofs.walks.Walks.journey.Goals as goal

pub returns-clause-after : goal.returns-clause-after
returns-clause-after c =
    let stops = c.args.stops.now in
    let last = c.index-last.result.now in
    let after = c.in_ok-after.after in
    let is = alight_of-last c.args.rides.items last c.requires.not_empty c.len.result (grind arith) c.index-last.ensures in
    let N : List (Option Near) → Type 0 = λ near. IsWalkAt After stops near last.alight after in
    let P : List ℕ → Type 0 = λ id. IsWalkAt After stops c.args.self.now.ends.items id after in
    subst P (sym is) (subst N c.as_slice.ensures.value c.in_ok-after.ensures)
