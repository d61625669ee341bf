use Rattle.std.proofs.Common.{arith}
use Rattle.std.proofs.lemmas.Grind.{common_steps}
use Rattle.csa_scan.proofs.NearStepsLemmas.{alone_more}
use Rattle.csa_scan.proofs.near.ends_alone.Goals as goal

pub loop-place-preserved : goal.loop-place-preserved
loop-place-preserved c = record {
  so_far = grind (arith, common_steps);
  alone = alone_more c.args.stops.now c.args.named.now c.loop-place.near.items c.push.new.self.items c.loop-place.place c.itself.result
      c.loop-place.invariant.so_far c.in_ok-push.ensures.items c.loop-place.invariant.alone c.itself.ensures;
}
