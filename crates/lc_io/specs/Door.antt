-- What a door is seen to be.
use Rattle.std.specs.Prelude.{◌≡◌, ℕ, ◌<◌, ◌||◌, Bool, true, false, List, [], ◌∷◌, ◌++◌, length, take, Option, Some, None, Result, Ok, Err}
use Rattle.std.specs.Option.{is_some, option_to_list}
use Rattle.std.specs.Result.{is_ok}
use Rattle.lc_io.specs.declared.door.DoorFail.{DoorFail}
use Rattle.lc_io.specs.declared.door.DoorFail.TheVariants.{Failed, NoMemory}
use Rattle.lc_io.specs.declared.door.Next.{Next}
use Rattle.lc_io.specs.declared.door.Next.TheVariants.{Connection, Closed}

-- The bytes of one connection that are still to come, those that were read, and those that were sent. Whether a read or a write failed,
-- and whether a read did.
pub record Wire : Type 0 where
  pub to_come : List ℕ
  pub read : List ℕ
  pub sent : List ℕ
  pub failed : Bool
  pub read_failed : Bool

-- What a door records: the port where it listens, the bytes of each connection that waits, the past connections and the current one.
pub record DoorRecorded : Type 0 where
  pub port : Option ℕ
  pub waiting : List (List ℕ)
  pub past : List Wire
  pub current : Option Wire

-- Whether the door listens and whether it has a current connection. Its record, where it has one. How often `listen` or `next` has
-- failed, and how often `read` or `write`.
pub record DoorSeen : Type 0 where
  pub listens : Bool
  pub connected : Bool
  pub recorded : Option DoorRecorded
  pub faults : ℕ
  pub broken : ℕ

-- the record says too whether the door listens and whether there is a current connection
pub record AgreesWith (listens connected : Bool) (recorded : DoorRecorded) : Type 0 where
  pub port : is_some recorded.port ≡ listens
  pub current : is_some recorded.current ≡ connected

-- what is recorded goes on by a step; where nothing is recorded, nothing is later
abbrev pub GoesOn : {T : Type 0} → (T → T → Type 0) → Option T → Option T → Type 0
GoesOn step None after = after ≡ None
GoesOn step (Some before) None = ⊥
GoesOn step (Some before) (Some after) = step before after

-- a connection on which nothing was read or sent yet
abbrev pub fresh : List ℕ → Wire
fresh bytes = record { to_come = bytes; read = []; sent = []; failed = false; read_failed = false }

-- the current connection, if there is one, has become a past one
abbrev pub hung_up : DoorRecorded → DoorRecorded
hung_up recorded = record recorded { past = recorded.past ++ option_to_list recorded.current; current = None }

-- a door that has listened listens from then on
abbrev pub listens_after : {T : Type 0} → Result T DoorFail → Bool → Bool
listens_after result before = is_ok result || before

-- the port of the last `listen` that was Ok stays
abbrev pub Listens : {T : Type 0} → ℕ → Result T DoorFail → DoorRecorded → DoorRecorded → Type 0
Listens port (Ok _) before after = after ≡ record before { port = Some port }
Listens port (Err _) before after = after ≡ before

-- there is a current connection after `next` exactly where it answered that one came
abbrev pub connected_after : Result Next DoorFail → Bool
connected_after (Ok Connection) = true
connected_after (Ok Closed) = false
connected_after (Err _) = false

-- the first connection that waited is the current one
pub record Opens (before after : DoorRecorded) : Type 0 where
  pub bytes : List ℕ
  pub next : before.waiting ≡ bytes ∷ after.waiting
  pub opened : after ≡ record (hung_up before) { waiting = after.waiting; current = Some (fresh bytes) }

-- no connection waited, and none is the current one
pub record Closes (before after : DoorRecorded) : Type 0 where
  pub none_left : before.waiting ≡ []
  pub closed : after ≡ hung_up before

-- what `next` makes of what is recorded
abbrev pub Comes : Result Next DoorFail → DoorRecorded → DoorRecorded → Type 0
Comes (Ok Connection) before after = Opens before after
Comes (Ok Closed) before after = Closes before after
Comes (Err _) before after = after ≡ hung_up before

-- a step of the current connection changes nothing else that is recorded
pub record OnCurrent (step : Wire → Wire → Type 0) (before after : DoorRecorded) : Type 0 where
  pub others : after ≡ record before { current = after.current }
  pub current : GoesOn step before.current after.current

-- The first bytes to come were read into the front of the piece; none into a piece that is not empty only at their end.
pub record Takes (piece : List ℕ) (count : ℕ) (before after : Wire) : Type 0 where
  pub came : before.to_come ≡ take count piece ++ after.to_come
  pub moved : after ≡ record before { to_come = after.to_come; read = before.read ++ take count piece }
  pub ended : 0 < length piece → count ≡ 0 → after.to_come ≡ []

-- what `read` makes of a connection, where the piece is this afterwards
abbrev pub Reads : List ℕ → Result ℕ DoorFail → Wire → Wire → Type 0
Reads piece (Ok count) before after = Takes piece count before after
Reads piece (Err Failed) before after = after ≡ record before { failed = true; read_failed = true }
Reads piece (Err NoMemory) before after = after ≡ before

-- what `write` of a piece makes of a connection
abbrev pub Writes : List ℕ → Result ℕ DoorFail → Wire → Wire → Type 0
Writes piece (Ok count) before after = after ≡ record before { sent = before.sent ++ take count piece }
Writes piece (Err Failed) before after = after ≡ record before { failed = true }
Writes piece (Err NoMemory) before after = after ≡ before
