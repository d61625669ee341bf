-- Numbers that are drawn from a seed, by a linear congruential generator of 64 bits.
use Rattle.std.specs.Prelude.{◌≡◌, ℕ, zero, suc, ◌+◌, ◌*◌, ◌/◌, ◌%◌, ◌^◌, ◌<◌, List, length, slice_index}

-- the state after another one
abbrev pub next_state : ℕ → ℕ
next_state state = (state * 6_364_136_223_846_793_005 + 1_442_695_040_888_963_407) % 2 ^ 64

-- the state after so many draws; the first one is the seed
unfoldable pub state_after : ℕ → ℕ → ℕ
state_after seed zero = seed
state_after seed (suc count) = next_state (state_after seed count)

-- the upper 31 bits of the state that the draw at this place leaves, where the first place is 0
abbrev pub bits_drawn : ℕ → ℕ → ℕ
bits_drawn seed place = state_after seed (suc place) / 2 ^ 33

-- what is drawn at this place among so many numbers from 0 on
abbrev pub drawn : ℕ → ℕ → ℕ → ℕ
drawn seed place among = bits_drawn seed place % among

-- the bits of so many draws, in their order
pub record AreBits (seed count : ℕ) (bits : List ℕ) : Type 0 where
  pub counted : length bits ≡ count
  pub each : (place : ℕ) → place < count → slice_index bits place ≡ bits_drawn seed place
