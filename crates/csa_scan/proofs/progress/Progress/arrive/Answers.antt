use Rattle.std.proofs.Common.{◌≡◌, [], ◌∷◌, ◌++◌, length, take, drop, arith}
use Rattle.std.proofs.lemmas.Grind.{common_steps}
use Rattle.csa_scan.proofs.LinkingLemmas.{linked-written}
use Rattle.csa_scan.proofs.progress.Progress.arrive.Goals as goal

pub invariant_of-self : goal.invariant_of-self
invariant_of-self c =
    let p = c.args.self.now in
    let a = c.args.arrival in
    let same = c.relax.ensures.relaxed.same_stops in
    let written : take p.ready.len (c.relax.new.ready ++ drop (length c.relax.new.ready) p.ready.items) ≡ c.relax.new.ready = grind (arith, common_steps) in
    let place : c.len-place.result ≡ length p.arrivals.items = grind arith in
    let pushed : c.push.new.self.items ≡ p.arrivals.items ++ a ∷ [] = grind (arith, common_steps) in
    record {
      linked = linked-written c.args.query.now c.args.doc.now c.args.ends.now p.boardings.items p.ready.items p.reached.items p.arrivals.items p.best p.linked a c.requires.within
          c.len-place.result place _ c.relax.new.ready _ c.deref_mut.ensures.value c.relax.ensures written c.goal_of-goal.result c.better-self.result c.goal_of-goal.ensures c.better-self.ensures _ pushed;
    }
