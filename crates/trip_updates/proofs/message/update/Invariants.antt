use Rattle.std.proofs.Common.{◌≡◌, map}
use Rattle.std.specs.Prelude.{count_by}
use Rattle.trip_updates.specs.Meaning.{stated, counts}
use Rattle.trip_updates.proofs.message.update.Given as goal

abbrev pub invariant-loop-entity : goal.invariant-loop-entity
invariant-loop-entity l = record {
  said : l.said.items ≡ map (stated l.head.full) l.yielded;
  passed : l.passed ≡ count_by (counts l.head.full) l.yielded;
}
