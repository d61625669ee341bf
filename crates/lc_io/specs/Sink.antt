-- What a sink is seen to be.
use Rattle.std.specs.Prelude.{ℕ, List, ◌++◌, take, Option, option_map}

-- The bytes written until now, where the sink records them, how often a write failed, and how often memory ran out.
pub record SinkSeen : Type 0 where
  pub written : Option (List ℕ)
  pub faults : ℕ
  pub wants : ℕ

-- what is written after the first n bytes of a piece are taken
abbrev pub written_after : Option (List ℕ) → List ℕ → ℕ → Option (List ℕ)
written_after written piece n = option_map (λ bytes. bytes ++ take n piece) written
