-- What a door records of visits.
use Rattle.std.specs.Prelude.{◌≡◌, ◌⊎◌, ℕ, true, false, List, [], ◌∷◌, ◌++◌, map, Option, Some, IfSome}
use Rattle.std.specs.Option.{option_to_list}
use Rattle.lc_io.specs.Door.{DoorRecorded, Wire}
use Rattle.cli_serve.specs.Visit.{Visit}

-- all connections that came, in their order
abbrev pub came : DoorRecorded → List Wire
came recorded = recorded.past ++ option_to_list recorded.current

-- all bytes of a connection: those that were read, and those that are to come
abbrev pub bytes_of : Wire → List ℕ
bytes_of wire = wire.read ++ wire.to_come

-- The connection of a visit. Without a fault its bytes were read to their end, or the session ended.
pub record IsWireOf (visit : Visit) (wire : Wire) : Type 0 where
  pub read_is : wire.read ≡ visit.read
  pub sent_is : wire.sent ≡ visit.sent
  pub failed_is : wire.failed ≡ visit.failed
  pub read_failed_is : wire.read_failed ≡ visit.read_failed
  pub heard : visit.failed ≡ false → visit.lost ≡ false → (wire.to_come ≡ []) ⊎ (visit.ended ≡ true)

-- the connections of the visits, one of each, in their order
abbrev pub AreWiresOf : List Visit → List Wire → Type 0
AreWiresOf [] [] = Unit {0}
AreWiresOf [] (wire ∷ wires) = ⊥
AreWiresOf (visit ∷ visits) [] = ⊥
AreWiresOf (visit ∷ visits) (wire ∷ wires) = IsWireOf visit wire × AreWiresOf visits wires

-- The connections of the visits came, and no others. They were the first ones that waited, and the port has not changed.
pub record AreRecorded (visits : List Visit) (before after : DoorRecorded) : Type 0 where
  pub wires : List Wire
  pub wires_are : AreWiresOf visits wires
  pub came_more : came after ≡ came before ++ wires
  pub waited : before.waiting ≡ map bytes_of wires ++ after.waiting
  pub port_is : after.port ≡ before.port

-- the door listens at the port, and nothing else has changed
abbrev pub opened_at : ℕ → DoorRecorded → DoorRecorded
opened_at port recorded = record recorded { port = Some port }

-- no connection waits, where that is recorded
abbrev pub NoneWaits : Option DoorRecorded → Type 0
NoneWaits recorded = IfSome recorded (λ (t : DoorRecorded). t.waiting ≡ [])
