-- The parts of each list of bytes, by recursion on the rest of the bytes.
use Rattle.std.specs.Prelude.{◌≡◌, ℕ, zero, suc, ◌+◌, ◌-◌, ◌*◌, ◌/◌, ◌%◌, ◌^◌, List, [], ◌∷◌, length, take, drop, Result, Ok, Err, nat_lt, ◌==◌, ◌||◌, if◌then◌else◌}
use Rattle.std.specs.Int.{w32, w64, from_le_bytes}
use Rattle.rt_protobuf.specs.declared.fault.WireFault.{WireFault}
use Rattle.rt_protobuf.specs.declared.fault.WireFault.TheVariants.{Cut, LongVarint, Group, BadField}
use Rattle.rt_protobuf.specs.Grammar.{Content, varint, eight, text, four, WireField}
use Rattle.rt_protobuf.specs.Parts.{Parts, whole, broken, field}

-- what goes on from a value, and stops at a fault
infixl 10 ◌>>=◌
abbrev pub ◌>>=◌ : {A B : Type 0} → Result A WireFault → (A → Result B WireFault) → Result B WireFault
(Ok x) >>= f = f x
(Err e) >>= f = Err e

-- the varint at the front, of at most so many bytes, and the bytes after it
unfoldable pub varint_at : ℕ → ℕ → List ℕ → Result (ℕ × List ℕ) WireFault
varint_at place left [] = if left == 0 then Err (LongVarint place) else Err (Cut place)
varint_at place left (b ∷ bytes) =
    if left == 0 then Err (LongVarint place)
    else (if nat_lt b 128 then Ok (b, bytes)
    else (varint_at place (left - 1) bytes >>= λ high. Ok ((b - 128 + 128 * high.0) % 2 ^ 64, high.1)))

-- the bytes of a length that is said before them, and what comes after
unfoldable pub text_at : ℕ → List ℕ → Result (List ℕ × List ℕ) WireFault
text_at place bytes = do
  n ← varint_at place 10 bytes
  if nat_lt (length n.1) n.0 then Err (Cut place) else Ok (take n.0 n.1, drop n.0 n.1)

-- eight bytes as a number, and what comes after
unfoldable pub eight_at : ℕ → List ℕ → Result (ℕ × List ℕ) WireFault
eight_at place bytes = if nat_lt (length bytes) 8 then Err (Cut place) else Ok (from_le_bytes w64 (take 8 bytes), drop 8 bytes)

-- four bytes as a number, and what comes after
unfoldable pub four_at : ℕ → List ℕ → Result (ℕ × List ℕ) WireFault
four_at place bytes = if nat_lt (length bytes) 4 then Err (Cut place) else Ok (from_le_bytes w32 (take 4 bytes), drop 4 bytes)

-- content of a wire type, and what comes after
unfoldable pub content_at : ℕ → ℕ → List ℕ → Result (Content × List ℕ) WireFault
content_at place wire bytes =
    if wire == 0 then (varint_at place 10 bytes >>= λ n. Ok (varint n.0, n.1))
    else (if wire == 1 then (eight_at place bytes >>= λ n. Ok (eight n.0, n.1))
    else (if wire == 2 then (text_at place bytes >>= λ t. Ok (text t.0, t.1))
    else (if wire == 5 then (four_at place bytes >>= λ n. Ok (four n.0, n.1))
    else (if nat_lt 5 wire then Err (BadField place) else Err (Group place)))))

-- a field, and what comes after
unfoldable pub field_at : ℕ → List ℕ → Result (WireField × List ℕ) WireFault
field_at place bytes = do
  tag ← varint_at place 10 bytes
  if (tag.0 / 8 == 0) || nat_lt 536_870_911 (tag.0 / 8) then Err (BadField place) else (content_at place (tag.0 % 8) tag.1 >>= λ c. Ok (record { number = tag.0 / 8; content = c.0 }, c.1))

-- a field and then the others, or the fault
abbrev pub begin : (ℕ → List ℕ → Parts) → ℕ → List ℕ → Result (WireField × List ℕ) WireFault → Parts
begin others place bytes (Ok x) = field place (place + (length bytes - length x.1)) x.0 (others (place + (length bytes - length x.1)) x.1)
begin others place bytes (Err fault) = broken fault

-- the parts of bytes that are no more than so many
unfoldable pub parts_within : ℕ → ℕ → List ℕ → Parts
parts_within zero place bytes = whole
parts_within (suc most) place [] = whole
parts_within (suc most) place (b ∷ bytes) = begin (λ next rest. parts_within most next rest) place (b ∷ bytes) (field_at place (b ∷ bytes))

-- the parts of these bytes
unfoldable pub parts_of : ℕ → List ℕ → Parts
parts_of place bytes = parts_within (length bytes) place bytes

-- what a function returned, seen by view, is what reading gives
abbrev pub Gives : {X Y : Type 0} → (X → Y) → Result X WireFault → Result Y WireFault → Type 0
Gives view (Ok x) read = read ≡ Ok (view x)
Gives view (Err e) read = read ≡ Err e
