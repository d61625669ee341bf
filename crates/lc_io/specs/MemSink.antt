-- Sinks in memory.
use Rattle.std.specs.Prelude.{ℕ, List}

-- the bytes written, the numbers of the writes that fail, how many writes there were, how many failed, and how many wanted memory
pub record MemSinkState : Type 0 where
  pub written : List ℕ
  pub fails : List ℕ
  pub writes : ℕ
  pub faults : ℕ
  pub wants : ℕ
