-- Varints, as the encoding of Protocol Buffers has them ("Base 128 Varints").
use Rattle.std.specs.Prelude.{◌≡◌, ℕ, ◌+◌, ◌*◌, ◌%◌, ◌^◌, ◌<◌, ◌≤◌, ◌⊎◌, List, [], ◌∷◌, length, take}
use Rattle.std.specs.List.{AllByRecursion}

-- A byte below 128 is the last, and says itself. One from 128 on has seven bits, and the bytes after it spell
-- the rest of the number, of which these are the lowest bits.
abbrev pub Spells : List ℕ → ℕ → Type 0
Spells [] n = ⊥
Spells (b ∷ bytes) n = ((b < 128) × (bytes ≡ []) × (n ≡ b)) ⊎ ((128 ≤ b) × ((high : ℕ) × (n + 128 ≡ b + 128 * high) × Spells bytes high))

-- A varint has one to ten bytes. The bits above 64 are dropped.
abbrev pub IsVarint : List ℕ → ℕ → Type 0
IsVarint bytes n = (length bytes ≤ 10) × ((whole : ℕ) × Spells bytes whole × (n ≡ whole % 2 ^ 64))

-- the bytes end before the last byte of the varint at their front
abbrev pub IsCutVarint : List ℕ → Type 0
IsCutVarint bytes = (length bytes < 10) × AllByRecursion (λ b. 128 ≤ b) bytes

-- the varint at the front goes on after its tenth byte
abbrev pub IsLongVarint : List ℕ → Type 0
IsLongVarint bytes = (10 ≤ length bytes) × AllByRecursion (λ b. 128 ≤ b) (take 10 bytes)
