-- The laws of serving: what comes of it is one where the door records, and near values are refused.
use Rattle.std.specs.Prelude.{◌≡◌, ◌≢◌, ◌⊎◌, ℕ, true, false, List, [], ◌∷◌, ◌++◌, Some}
use Rattle.std.specs.List.{concat}
use Rattle.lc_io.specs.Door.{DoorRecorded, DoorSeen, Wire}
use Rattle.lc_world.specs.Sides.Side.{Side}
use Rattle.wire_session.specs.SessionOut.{Said, SessionOut}
use Rattle.cli_serve.specs.Serve.{Asked, IsServedWhole, Outside, WasVisited}
use Rattle.cli_serve.specs.Recorded.{IsWireOf}
use Rattle.cli_serve.specs.Visit.{AreVisits, IsVisit, NoneLost, Visit}

-- Where the door records, visits are one on none of which memory ran out, however serving ended after them.
abbrev pub OneVisiting : Type 0
OneVisiting =
    (asked : Asked) (before after : DoorSeen) (recorded_before recorded_after : DoorRecorded) → before.recorded ≡ Some recorded_before → after.recorded ≡ Some recorded_after
    → (visits others : List Visit) → WasVisited asked visits before after → WasVisited asked others before after → NoneLost visits → NoneLost others → visits ≡ others

-- where the door records, the visits are one, and so is the line that counts them
abbrev pub OneServing : Type 0
OneServing =
    (asked : Asked) (before after : Outside) (recorded_before recorded_after : DoorRecorded) → before.door.recorded ≡ Some recorded_before → after.door.recorded ≡ Some recorded_after
    → (a b : IsServedWhole asked before after) → a.visits ≡ b.visits

-- The bytes sent on a visit without a fault, or on one whose read failed, are the replies from its side, if memory did not run out.
abbrev pub OneVisit : Type 0
OneVisit = (side next : Side) (visit : Visit) (said : Said) → SessionOut side visit.read said → visit.lost ≡ false → (visit.failed ≡ false) ⊎ (visit.read_failed ≡ true)
    → IsVisit visit.lost side visit next → (visit.sent ≡ concat said.replies) × (next ≡ said.side)

-- a second visit that is not answered from the side that the first one has left
abbrev pub NoneForgotten : Type 0
NoneForgotten =
    (first last : Side) (one two : Visit) (said after : Said) → SessionOut first one.read said → SessionOut said.side two.read after
    → one.lost ≡ false → two.lost ≡ false → two.failed ≡ false → two.sent ≢ concat after.replies → ¬ AreVisits first (one ∷ two ∷ []) last

-- a visit that was hung up without a fault before all was sent
abbrev pub NoneUnsent : Type 0
NoneUnsent =
    (side next : Side) (visit : Visit) (said : Said) (byte : ℕ) (rest : List ℕ) → SessionOut side visit.read said → visit.lost ≡ false → visit.failed ≡ false
    → concat said.replies ≡ visit.sent ++ byte ∷ rest → ¬ IsVisit visit.lost side visit next

-- a visit whose read failed before all was sent
abbrev pub NoneHeldBack : Type 0
NoneHeldBack =
    (side next : Side) (visit : Visit) (said : Said) (byte : ℕ) (rest : List ℕ) → SessionOut side visit.read said → visit.lost ≡ false → visit.read_failed ≡ true
    → concat said.replies ≡ visit.sent ++ byte ∷ rest → ¬ IsVisit visit.lost side visit next

-- a visit that was hung up without a fault before all was read, while the session went on
abbrev pub NoneUnread : Type 0
NoneUnread =
    (visit : Visit) (wire : Wire) (byte : ℕ) (rest : List ℕ) → visit.lost ≡ false → visit.failed ≡ false → visit.ended ≡ false
    → wire.to_come ≡ byte ∷ rest → ¬ IsWireOf visit wire

-- a reply that is sent twice, with a fault or without
abbrev pub NoneTwice : Type 0
NoneTwice =
    (side next : Side) (visit : Visit) (said : Said) (reply : List ℕ) → SessionOut side visit.read said → visit.lost ≡ false → reply ≢ []
    → visit.sent ≡ concat said.replies ++ reply → ¬ IsVisit visit.lost side visit next
