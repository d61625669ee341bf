-- Visits of clients to a publisher, one after the other.
use Rattle.std.specs.Prelude.{◌≡◌, ℕ, Bool, true, false, List, [], ◌∷◌, length, count_by, sum_by}
use Rattle.std.specs.List.{All, concat}
use Rattle.lc_io.specs.Serving.{IsFront}
use Rattle.lc_world.specs.Sides.Side.{Side}
use Rattle.wire_session.specs.SessionOut.{Said, SessionOut}

-- What was read on a connection and what was sent. How many requests were answered, and whether the session ended. Whether a read or a
-- write failed, whether a read did, and whether memory ran out.
pub record Visit : Type 0 where
  pub read : List ℕ
  pub sent : List ℕ
  pub requests : ℕ
  pub ended : Bool
  pub failed : Bool
  pub read_failed : Bool
  pub lost : Bool

-- The replies to what was read are sent, or a front of them where a write failed. Where a read failed all of them are sent, since each was
-- sent before more was read. The next side is the one that they leave.
pub record IsServed (side : Side) (visit : Visit) (next : Side) : Type 0 where
  pub said : Said
  pub said_is : SessionOut side visit.read said
  pub sent_is : IsFront visit.sent (concat said.replies)
  pub all_sent : visit.failed ≡ false → visit.sent ≡ concat said.replies
  pub in_turn : visit.read_failed ≡ true → visit.sent ≡ concat said.replies
  pub requests_are : visit.requests ≡ length said.replies
  pub ended_is : visit.ended ≡ said.ended
  pub next_is : next ≡ said.side

-- Memory ran out: what was sent is a front of the replies to a front of what was read, and no request is counted.
pub record IsLost (side : Side) (visit : Visit) : Type 0 where
  pub heard : List ℕ
  pub said : Said
  pub heard_is : IsFront heard visit.read
  pub said_is : SessionOut side heard said
  pub sent_is : IsFront visit.sent (concat said.replies)
  pub requests_are : visit.requests ≡ 0
  pub ended_is : visit.ended ≡ false
  pub failed_is : visit.failed ≡ false
  pub read_failed_is : visit.read_failed ≡ false

-- A visit from a side to the next, by whether memory ran out. Where it did, nothing is said of the next side.
abbrev pub IsVisit : Bool → Side → Visit → Side → Type 0
IsVisit false side visit next = IsServed side visit next
IsVisit true side visit next = IsLost side visit

-- each visit begins from the side that the one before has left
abbrev pub AreVisits : Side → List Visit → Side → Type 0
AreVisits first [] last = last ≡ first
AreVisits first (visit ∷ visits) last = (next : Side) × IsVisit visit.lost first visit next × AreVisits next visits last

-- memory ran out on none of them
abbrev pub NoneLost : List Visit → Type 0
NoneLost visits = All (λ (visit : Visit). visit.lost ≡ false) visits

-- how many requests were answered
abbrev pub requests_of : List Visit → ℕ
requests_of visits = sum_by (λ (visit : Visit). visit.requests) visits

-- on how many connections a read or a write failed
abbrev pub faults_of : List Visit → ℕ
faults_of visits = count_by (λ (visit : Visit). visit.failed) visits
