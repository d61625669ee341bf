use Rattle.std.proofs.Common.{length, refl, subst, arith}
use Rattle.lc_model.specs.Leg.{in_time}
use Rattle.csa_scan.specs.Kept.{kept_of}
use Rattle.csa_scan.specs.Numbers.{AreDistinct}
use Rattle.csa_scan.proofs.BegunLemmas.{numbers_known}
use Rattle.change_rounds.proofs.BeginsLemmas.{after_none}
use Rattle.change_rounds.proofs.rounds.Rounds.over.Goals as goal

pub invariant_of-result : goal.invariant_of-result
invariant_of-result c = record {
  each_walk = c.requires.each_walk;
  numbered = omega (arith, c.requires.not_boarded);
  known = numbers_known c.number_each.new.runs c.args.list.now c.in_ok-numbers.numbers.items (length c.number_each.new.runs) c.in_ok-numbers.ensures.each refl;
}

pub returns : goal.returns
returns c = λ query doc near nothing. record {
  walks = near;
  distinct = subst AreDistinct c.as_slice-distinct.ensures.value c.as_slice-distinct.ensures.distinct;
  numbers = c.in_ok-numbers.ensures.each;
  after = after_none query doc c.number_each.new.runs (kept_of c.args.progress) (in_time query c.args.list.now) (length doc.stops) nothing;
}
