-- Values of which a contract says that there are some are one.
use Rattle.std.specs.Prelude.{◌≡◌, ℕ, Bool, false, List}
use Rattle.lc_io.specs.Door.{DoorRecorded, Opens, Takes, Wire}
use Rattle.lc_io.specs.Serving.{Exchanges}

-- a read of so many bytes into a piece leaves one connection
abbrev pub OneRead : Type 0
OneRead = (piece : List ℕ) (count : ℕ) (before a b : Wire) → Takes piece count before a → Takes piece count before b → a ≡ b

-- one connection is the next
abbrev pub OneNext : Type 0
OneNext = (before a b : DoorRecorded) → Opens before a → Opens before b → a ≡ b

-- what was read and what was sent is seen on the connection, and whether a read failed, where none had failed before
abbrev pub OneExchange : Type 0
OneExchange = (read sent other_read other_sent : List ℕ) (failed other_failed read_failed other_read_failed : Bool) (before after : Wire) → Exchanges read sent failed read_failed before after
    → Exchanges other_read other_sent other_failed other_read_failed before after
    → (read ≡ other_read) × (sent ≡ other_sent) × (before.read_failed ≡ false → read_failed ≡ other_read_failed)
