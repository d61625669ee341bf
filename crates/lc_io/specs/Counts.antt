-- Counts of faults. A count is a number of 64 bits that stays at its last value once it has reached it.
use Rattle.std.specs.Prelude.{◌≡◌, ℕ, ◌+◌, ◌-◌, ◌^◌, ◌≤◌, min}

-- The count increased at least by this number, or is at its last value, where any number may have been added.
abbrev pub RoseBy : ℕ → ℕ → ℕ → Type 0
RoseBy times before now = min (before + times) (2 ^ 64 - 1) ≤ now

-- the count increased
abbrev pub Rose : ℕ → ℕ → Type 0
Rose before now = RoseBy 1 before now

-- The count has not fallen, and the outcome that it counts comes only where it increased.
pub record HasCause (before now : ℕ) (outcome : Type 0) : Type 0 where
  pub not_fallen : before ≤ now
  pub rose : outcome → Rose before now

-- one more, up to the last value
abbrev pub one_more : ℕ → ℕ
one_more count = min (count + 1) (2 ^ 64 - 1)

-- the count increased by one where the outcome came that it counts, and stayed where it did not
pub record Counts (before now : ℕ) (outcome : Type 0) : Type 0 where
  pub counted : outcome → now ≡ one_more before
  pub stayed : ¬ outcome → now ≡ before
