-- Sinks in memory of which no write fails.
use Rattle.std.specs.Prelude.{ℕ, List}

-- the bytes written, and how many writes wanted memory
pub record SureSinkState : Type 0 where
  pub written : List ℕ
  pub wants : ℕ
