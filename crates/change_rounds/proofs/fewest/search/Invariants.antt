use Rattle.std.proofs.Common.{◌≡◌, ℕ, suc, length}
use Rattle.change_rounds.specs.Rounds.{AreRounds, HaveAtLeast}
use Rattle.change_rounds.proofs.fewest.search.Given as goal

abbrev pub invariant-loop-round : goal.invariant-loop-round
invariant-loop-round l = record {
  one_each : length l.rounds.walks.starts.items ≡ length l.doc.stops;
  same_length : length l.rounds.numbers.items ≡ length l.list;
  made : (n : ℕ) × (suc n ≡ l.round) × AreRounds l.query l.doc l.list n l.rounds;
  many : HaveAtLeast l.query l.doc l.list l.best l.round;
}
