-- Counts that increase one after the other.
use Rattle.std.proofs.Common.{ℕ, ◌+◌, ◌≤◌, arith}
use Rattle.lc_io.specs.Counts.{RoseBy}

-- a count that has not fallen increased at least by nothing
pub RoseBy-none : (a b : ℕ) → a ≤ b → RoseBy 0 a b
RoseBy-none a b not_fallen = omega arith

-- what it increased by adds up
pub RoseBy-then : (m n a b c : ℕ) → RoseBy m a b → RoseBy n b c → RoseBy (m + n) a c
RoseBy-then m n a b c first next = omega arith

-- an increase stays where the count does not fall after it
pub RoseBy-later : (m a b c : ℕ) → RoseBy m a b → b ≤ c → RoseBy m a c
RoseBy-later m a b c rose not_fallen = omega arith
