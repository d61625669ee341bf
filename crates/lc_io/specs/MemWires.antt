-- The connections of a door in memory.
use Rattle.std.specs.Prelude.{◌≡◌, ℕ, List, [], ◌∷◌, ◌++◌, map, Option, Some, None, Result, Ok, Err, refl}
use Rattle.std.specs.List.{concat}
use Rattle.std.specs.Option.{is_some, option_map, option_to_list}
use Rattle.lc_io.specs.Door.{AgreesWith, DoorSeen, DoorRecorded}
use Rattle.lc_io.specs.MemWire.{MemWireState, fresh_pieces, wire_of}
use Rattle.lc_io.specs.declared.door.DoorFail.{DoorFail}
use Rattle.lc_io.specs.declared.door.Next.{Next}
use Rattle.lc_io.specs.declared.door.Next.TheVariants.{Connection, Closed}

-- the port where the door listens, the connections that are still to come in their pieces, the past connections and the current one
pub record MemWiresState : Type 0 where
  pub port : Option ℕ
  pub waiting : List (List (List ℕ))
  pub past : List MemWireState
  pub current : Option MemWireState

-- a door at which these connections come
abbrev pub opened_for : List (List (List ℕ)) → MemWiresState
opened_for connections = record { port = None; waiting = connections; past = []; current = None }

-- what a door records that has these connections
abbrev pub recorded_of : MemWiresState → DoorRecorded
recorded_of wires = record {
  port = wires.port;
  waiting = map concat wires.waiting;
  past = map wire_of wires.past;
  current = option_map wire_of wires.current;
}

-- a door in memory with these connections and counts
abbrev pub seen_of : MemWiresState → ℕ → ℕ → DoorSeen
seen_of wires faults broken = record {
  listens = is_some wires.port;
  connected = is_some wires.current;
  recorded = Some (recorded_of wires);
  faults = faults;
  broken = broken;
}

-- the current connection, if there is one, has become a past one
abbrev pub let_go : MemWiresState → MemWiresState
let_go wires = record wires { past = wires.past ++ option_to_list wires.current; current = None }

-- the first connection that waited is the current one
pub record OpensWire (before after : MemWiresState) : Type 0 where
  pub pieces : List (List ℕ)
  pub next : before.waiting ≡ pieces ∷ after.waiting
  pub opened : after ≡ record (let_go before) { waiting = after.waiting; current = Some (fresh_pieces pieces) }

-- no connection waited, and none is the current one
pub record ClosesWires (before after : MemWiresState) : Type 0 where
  pub none_left : before.waiting ≡ []
  pub closed : after ≡ let_go before

-- what came
abbrev pub ComesTo : Result Next DoorFail → MemWiresState → MemWiresState → Type 0
ComesTo (Ok Connection) before after = OpensWire before after
ComesTo (Ok Closed) before after = ClosesWires before after
ComesTo (Err _) before after = after ≡ let_go before

-- all connections that came, in their order
abbrev pub came : MemWiresState → List MemWireState
came wires = wires.past ++ option_to_list wires.current

pub is_some-map : {A B : Type 0} (f : A → B) (o : Option A) → is_some (option_map f o) ≡ is_some o
is_some-map f None = refl
is_some-map f (Some x) = refl

-- what is recorded agrees with whether the door listens and whether it has a current connection
pub recorded_agrees : (wires : MemWiresState) → AgreesWith (is_some wires.port) (is_some wires.current) (recorded_of wires)
recorded_agrees wires = record { port = refl; current = is_some-map wire_of wires.current }
