-- Links to an in-process publisher.
use Rattle.std.specs.Prelude.{ℕ, List}
use Rattle.lc_world.specs.declared.entry.Entry.{Entry}
use Rattle.publisher.specs.Held.{Held}

-- what the publisher has, the exchanges without their replies, and how often an exchange was asked for
pub record LocalLinkState (G : Type 0) : Type 0 where
  pub publisher : Held G
  pub recorded : List Entry
  pub asked : ℕ
