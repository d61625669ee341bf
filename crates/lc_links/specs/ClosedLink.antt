-- Links to nobody.
use Rattle.std.specs.Prelude.{ℕ}

-- how often an exchange was asked for, each of which failed
pub record ClosedLinkState : Type 0 where
  pub faults : ℕ
