-- Connections in memory.
use Rattle.std.specs.Prelude.{◌≡◌, ℕ, ◌<◌, ◌==◌, Bool, false, List, [], ◌∷◌, ◌++◌, length, take, drop, min, get_or, if◌then◌else◌}
use Rattle.std.specs.List.{concat}
use Rattle.lc_io.specs.Door.{Wire}

-- The pieces that are still to come, the bytes that were read, and those that were sent. Whether a read or a write failed, and whether a
-- read did.
pub record MemWireState : Type 0 where
  pub to_come : List (List ℕ)
  pub read : List ℕ
  pub sent : List ℕ
  pub failed : Bool
  pub read_failed : Bool

-- the connection as a door records it, where pieces are not seen
abbrev pub wire_of : MemWireState → Wire
wire_of wire = record { to_come = concat wire.to_come; read = wire.read; sent = wire.sent; failed = wire.failed; read_failed = wire.read_failed }

-- a connection on which nothing was read or sent yet
abbrev pub fresh_pieces : List (List ℕ) → MemWireState
fresh_pieces pieces = record { to_come = pieces; read = []; sent = []; failed = false; read_failed = false }

-- the pieces without the first bytes of the first one
abbrev pub without_front : ℕ → List (List ℕ) → List (List ℕ)
without_front count [] = []
without_front count (piece ∷ rest) = drop count piece ∷ rest

-- what is still to come of pieces that were read so far, some whole and one in part
abbrev pub left_of : List (List ℕ) → ℕ → ℕ → List (List ℕ)
left_of pieces whole part = without_front part (drop whole pieces)

-- what was read of pieces that were read so far
abbrev pub read_of : List (List ℕ) → ℕ → ℕ → List ℕ
read_of pieces whole part = concat (take whole pieces) ++ take part (get_or pieces whole [])

-- The first bytes of the next piece are in the front of the buffer, as many as fit, and the others are still to come. At the end no bytes are.
abbrev pub TakesPiece : List (List ℕ) → List (List ℕ) → List ℕ → List ℕ → ℕ → Type 0
TakesPiece [] after old new count = (count ≡ 0) × (new ≡ old) × (after ≡ [])
TakesPiece (piece ∷ rest) after old new count =
    (count ≡ min (length piece) (length old)) × (new ≡ take count piece ++ drop count old)
    × (after ≡ (if count == length piece then rest else drop count piece ∷ rest))

-- the bytes that were taken are read, and nothing else has changed; none are only where none are to come
pub record ReadsPiece (before after : MemWireState) (old new : List ℕ) (count : ℕ) : Type 0 where
  pub taken : TakesPiece before.to_come after.to_come old new count
  pub moved : after ≡ record before { to_come = after.to_come; read = before.read ++ take count new }
  pub ended : 0 < length old → count ≡ 0 → before.to_come ≡ []
