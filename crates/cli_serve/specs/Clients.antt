-- How clients are served, one after the other.
use Rattle.std.specs.Prelude.{◌≡◌, ◌⊎◌, ℕ, ◌<◌, ◌≤◌, false, List, length, Option, Result, Ok, Err}
use Rattle.lc_io.specs.Door.{DoorSeen, DoorRecorded, GoesOn}
use Rattle.lc_io.specs.declared.door.DoorFail.{DoorFail}
use Rattle.lc_io.specs.declared.door.DoorFail.TheVariants.{Failed, NoMemory}
use Rattle.lc_io.specs.Counts.{RoseBy}
use Rattle.lc_world.specs.Sides.Side.{Side}
use Rattle.cli_serve.specs.Tally.{Fits, IsTallyOf}
use Rattle.cli_serve.specs.Recorded.{AreRecorded, NoneWaits}
use Rattle.cli_serve.specs.Visit.{AreVisits, NoneLost, Visit, faults_of}
use Rattle.cli_serve.specs.declared.tally.Tally.{Tally}

-- visits from a side to another, one after the other
pub record HasGone (visits : List Visit) (first last : Side) (before after : DoorSeen) : Type 0 where
  pub visits_are : AreVisits first visits last
  pub recorded : GoesOn (AreRecorded visits) before.recorded after.recorded
  pub listens : after.listens ≡ before.listens
  pub faults : before.faults ≤ after.faults
  pub broken : before.broken ≤ after.broken
  pub rose : RoseBy (faults_of visits) before.broken after.broken

-- At most this many clients are served, one after the other: these visits were made until now, and are counted.
pub record HasServedSoFar (first side : Side) (connections : ℕ) (tally : Tally) (before now : DoorSeen) : Type 0 where
  pub visits : List Visit
  pub gone : HasGone visits first side before now
  pub tally_is : IsTallyOf visits tally
  pub fits : Fits tally
  pub few : tally.connections ≤ connections
  pub nobody : 0 < tally.connections → now.connected ≡ false

-- All were served that were asked for, or no further client waits. Or the door failed before that, and memory had run out on no visit. Or
-- memory ran out.
abbrev pub AreAll : List Visit → ℕ → Result Tally DoorFail → Option DoorRecorded → Type 0
AreAll visits connections (Ok tally) recorded = IsTallyOf visits tally × ((length visits ≡ connections) ⊎ NoneWaits recorded)
AreAll visits connections (Err Failed) recorded = (length visits < connections) × NoneLost visits
AreAll visits connections (Err NoMemory) recorded = length visits < connections

-- clients were served, one after the other, so many at most
pub record HasTaken (first : Side) (connections : ℕ) (result : Result Tally DoorFail) (before after : DoorSeen) : Type 0 where
  pub visits : List Visit
  pub last : Side
  pub gone : HasGone visits first last before after
  pub at_most : length visits ≤ connections
  pub all : AreAll visits connections result after.recorded
  pub nobody : after.connected ≡ false
