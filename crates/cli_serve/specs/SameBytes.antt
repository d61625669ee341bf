-- Servings that begin from one side and hear the same bytes: what it means that they answer the same.
use Rattle.std.specs.Prelude.{◌≡◌, ◌≢◌, ℕ, true, false, List, ◌++◌, map, Some}
use Rattle.lc_io.specs.Door.{DoorRecorded, DoorSeen, Wire}
use Rattle.lc_io.specs.Counts.{Rose}
use Rattle.lc_io.specs.Sink.{SinkSeen}
use Rattle.lc_model.specs.declared.versions.update.Update.{Update}
use Rattle.lc_world.specs.Sides.Side.{Side, date_in, with_message}
use Rattle.wire_session.specs.SessionOut.{Said, SessionOut}
use Rattle.cli_serve.specs.Recorded.{came}
use Rattle.cli_serve.specs.Serve.{Asked, IsServedWhole, Outside}
use Rattle.cli_serve.specs.Written.{Wrote}

-- The first side is the second one, but for its zone, which may be written down in another way and shows the same dates.
pub record AreOneSide (a b : Side) : Type 0 where
  pub dates : (moment : ℕ) → date_in a.zone moment ≡ date_in b.zone moment
  pub is : a ≡ record b { zone = a.zone }

-- the replies are the same, and so is whether the connection ends; the sides that are left are one
pub record SayOne (a b : Said) : Type 0 where
  pub replies : a.replies ≡ b.replies
  pub ended : a.ended ≡ b.ended
  pub sides : AreOneSide a.side b.side

-- what is said to the same bytes from sides that are one is one
abbrev pub OneSession : Type 0
OneSession = (a b : Side) (bytes : List ℕ) (x y : Said) → AreOneSide a b → SessionOut a bytes x → SessionOut b bytes y → SayOne x y

-- one side, the same bytes to be written first, one port, and as many connections at most
pub record AskOne (a b : Asked) : Type 0 where
  pub sides : AreOneSide a.first b.first
  pub opening : a.opening ≡ b.opening
  pub port : a.port ≡ b.port
  pub connections : a.connections ≡ b.connections

-- the door records this before serving and that after it, and no read or write failed in between
pub record RecordsWell (before after : DoorSeen) (had has : DoorRecorded) : Type 0 where
  pub before_is : before.recorded ≡ Some had
  pub after_is : after.recorded ≡ Some has
  pub no_fault : Rose before.broken after.broken → ⊥

-- As many connections came in both servings. The same bytes were sent on each, and one text was written.
pub record ServeAlike (had has held holds : DoorRecorded) (before after from to : SinkSeen) : Type 0 where
  pub wires : List Wire
  pub others : List Wire
  pub came_first : came has ≡ came had ++ wires
  pub came_second : came holds ≡ came held ++ others
  pub sent : map (λ (wire : Wire). wire.sent) wires ≡ map (λ (wire : Wire). wire.sent) others
  pub text : List ℕ
  pub wrote_first : Wrote before after text
  pub wrote_second : Wrote from to text

-- Where one thing is asked for, and the same bytes waited at both doors, connection by connection, servings that are Ok are alike.
abbrev pub OneOverBytes : Type 0
OneOverBytes =
    (asked other : Asked) (before after from to : Outside) (had has held holds : DoorRecorded) → AskOne asked other
    → RecordsWell before.door after.door had has → RecordsWell from.door to.door held holds → had.waiting ≡ held.waiting
    → IsServedWhole asked before after → IsServedWhole other from to → ServeAlike had has held holds before.sink after.sink from.sink to.sink

-- a side that has a message more is another one
abbrev pub NotOneMore : Type 0
NotOneMore = (side : Side) (update : Update) (bytes : ℕ) → ¬ AreOneSide (with_message side update bytes) side

-- a side that takes messages, where the other takes none, is another one too
abbrev pub NotOneTaker : Type 0
NotOneTaker = (a b : Side) → a.accepts_updates ≡ true → b.accepts_updates ≡ false → ¬ AreOneSide a b

-- and one whose base version is of another moment
abbrev pub NotOtherBase : Type 0
NotOtherBase = (a b : Side) → a.base_moment ≢ b.base_moment → ¬ AreOneSide a b
