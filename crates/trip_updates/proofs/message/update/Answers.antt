use Rattle.std.proofs.Common.{refl}
use Rattle.trip_updates.specs.Meaning.{stated, counts}
use Rattle.trip_updates.proofs.SaidLemmas.{one_more, count_more}
use Rattle.trip_updates.proofs.message.update.Goals as goal

pub loop-entity-preserved : goal.loop-entity-preserved
loop-entity-preserved c = record {
  said = one_more (stated c.args.head.full) c.push_stated.new.said.items c.loop-entity.said.items (stated c.args.head.full c.in-Some.entity) c.loop-entity.yielded c.in-Some.entity c.in_ok-passed.ensures.said c.loop-entity.invariant.said refl;
  passed = count_more (counts c.args.head.full) c.in_ok-passed.passed c.loop-entity.passed c.loop-entity.yielded c.in-Some.entity c.in_ok-passed.ensures.passed c.loop-entity.invariant.passed;
}
