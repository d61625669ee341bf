-- What a talk is seen to be.
use Rattle.std.specs.Prelude.{ℕ, Bool, List}

-- How many bytes a talk was fed, as long as it goes on. What of its output was not sent yet. How many requests its output answers, and
-- whether it has ended.
pub record TalkSeen : Type 0 where
  pub count : ℕ
  pub pending : List ℕ
  pub requests : ℕ
  pub ended : Bool

-- what is said for bytes: the whole output, how many requests it answers, and whether nothing is added to it for later bytes
pub record Said : Type 0 where
  pub output : List ℕ
  pub requests : ℕ
  pub ended : Bool
