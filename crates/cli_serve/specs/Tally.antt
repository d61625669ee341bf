-- How visits are counted.
use Rattle.std.specs.Prelude.{◌≡◌, ◌*◌, ◌≤◌, Bool, true, false, List, length}
use Rattle.lc_io.specs.declared.door.DoorFail.{DoorFail}
use Rattle.lc_io.specs.declared.door.DoorFail.TheVariants.{NoMemory}
use Rattle.cli_serve.specs.Visit.{NoneLost, Visit, faults_of, requests_of}
use Rattle.cli_serve.specs.declared.tally.Tally.{Tally}

-- the counts are those of the visits
pub record IsTallyOf (visits : List Visit) (tally : Tally) : Type 0 where
  pub connections_are : tally.connections ≡ length visits
  pub requests_are : tally.requests ≡ requests_of visits
  pub faults_are : tally.faults ≡ faults_of visits
  pub lost_is : tally.lost ≡ false → NoneLost visits

-- each visit has a number of requests of 32 bits, and one fault at most
pub record Fits (tally : Tally) : Type 0 where
  pub requests : tally.requests ≤ 4294967295 * tally.connections
  pub faults : tally.faults ≤ tally.connections

-- why no further client is taken where the door fails so: memory that ran out on a visit comes first
abbrev pub ended_so : Bool → DoorFail → DoorFail
ended_so true fail = NoMemory
ended_so false fail = fail
