-- How one connection is served.
use Rattle.std.specs.Prelude.{◌≡◌, ◌⊎◌, ℕ, ◌||◌, Bool, true, false, List, [], ◌++◌, Option, IfSome, Result, Ok, Err}
use Rattle.lc_io.specs.Door.{DoorRecorded, GoesOn, OnCurrent, Wire}
use Rattle.lc_io.specs.Talk.{Said, TalkSeen}
use Rattle.lc_io.specs.declared.door.DoorFail.{DoorFail}
use Rattle.lc_io.specs.declared.door.DoorFail.TheVariants.{Failed, NoMemory}

-- the connection after the first bytes to come were read, and others were sent; a failed call is recorded, and whether it was a read
pub record Exchanges (read sent : List ℕ) (failed read_failed : Bool) (before after : Wire) : Type 0 where
  pub came : before.to_come ≡ read ++ after.to_come
  pub read_more : after.read ≡ before.read ++ read
  pub sent_more : after.sent ≡ before.sent ++ sent
  pub failed_too : after.failed ≡ (failed || before.failed)
  pub read_failed_too : after.read_failed ≡ (read_failed || before.read_failed)

-- the talk was fed the first bytes, and has sent the second ones, after all that it was fed and has sent before
abbrev pub Carries : {T Start : Type 0} → (T → Start → List ℕ → List ℕ → Type 0) → T → T → List ℕ → List ℕ → Type 0
Carries {T} {Start} stands before after fed sent =
    (start : Start) (was_fed was_sent : List ℕ) → stands before start was_fed was_sent → stands after start (was_fed ++ fed) (was_sent ++ sent)

-- What was read from the connection is what the talk was fed, and what was sent on it is what the talk has sent.
pub record Agrees {T Start : Type 0} (stands : T → Start → List ℕ → List ℕ → Type 0) (failed read_failed : Bool) (before after : T) (recorded_before recorded_after : Option DoorRecorded) : Type 0 where
  pub fed : List ℕ
  pub sent : List ℕ
  pub talk : Carries stands before after fed sent
  pub door : GoesOn (OnCurrent (Exchanges fed sent failed read_failed)) recorded_before recorded_after

-- A read or a write failed. Where a read did, nothing was pending: it was asked for once all that was said had been sent.
pub record BreaksOff {T Start : Type 0} (stands : T → Start → List ℕ → List ℕ → Type 0) (before after : T) (seen_after : TalkSeen) (recorded_before recorded_after : Option DoorRecorded) : Type 0 where
  pub read_failed : Bool
  pub agrees : Agrees stands true read_failed before after recorded_before recorded_after
  pub in_turn : read_failed ≡ true → seen_after.pending ≡ []

-- the first bytes are a front of the others
pub record IsFront (front bytes : List ℕ) : Type 0 where
  pub rest : List ℕ
  pub is : bytes ≡ front ++ rest

-- the bytes sent are a front of what is said for a front of the bytes read
pub record SendsFront (says : List ℕ → Said → Type 0) (read sent : List ℕ) : Type 0 where
  pub heard : List ℕ
  pub said : Said
  pub heard_is : IsFront heard read
  pub is_said : says heard said
  pub sent_is : IsFront sent said.output

-- memory has run out: what was sent is a front of what the talk would say for a front of what was read
pub record Halts {T Start : Type 0} (stands : T → Start → List ℕ → List ℕ → Type 0) (says : Start → List ℕ → Said → Type 0) (before : T) (recorded_before recorded_after : Option DoorRecorded) : Type 0 where
  pub read : List ℕ
  pub sent : List ℕ
  pub door : GoesOn (OnCurrent (Exchanges read sent false false)) recorded_before recorded_after
  pub front : (start : Start) (was_fed was_sent : List ℕ) → stands before start was_fed was_sent → SendsFront (says start) (was_fed ++ read) (was_sent ++ sent)

-- how the talk and the door have gone on where a call failed
abbrev pub TalksFailed : {T Start : Type 0} → (T → Start → List ℕ → List ℕ → Type 0) → (Start → List ℕ → Said → Type 0) → DoorFail → T → T → TalkSeen → Option DoorRecorded → Option DoorRecorded → Type 0
TalksFailed stands says Failed before after seen_after recorded_before recorded_after = BreaksOff stands before after seen_after recorded_before recorded_after
TalksFailed stands says NoMemory before after seen_after recorded_before recorded_after = Halts stands says before recorded_before recorded_after

-- how the talk and the door have gone on, by how a part of serving ended
abbrev pub Talks : {T Start A : Type 0} → (T → Start → List ℕ → List ℕ → Type 0) → (Start → List ℕ → Said → Type 0) → Result A DoorFail → T → T → TalkSeen → Option DoorRecorded → Option DoorRecorded → Type 0
Talks stands says (Ok _) before after seen_after recorded_before recorded_after = Agrees stands false false before after recorded_before recorded_after
Talks stands says (Err fail) before after seen_after recorded_before recorded_after = TalksFailed stands says fail before after seen_after recorded_before recorded_after

-- nothing is to come on the current connection, where that is recorded
abbrev pub NothingToCome : Option DoorRecorded → Type 0
NothingToCome recorded = IfSome recorded (λ (t : DoorRecorded). IfSome t.current (λ (wire : Wire). wire.to_come ≡ []))

-- all that was said is sent, and the input has ended or the talk has
pub record IsServed (talk : TalkSeen) (recorded : Option DoorRecorded) : Type 0 where
  pub all_sent : talk.pending ≡ []
  pub ended : NothingToCome recorded ⊎ (talk.ended ≡ true)

-- What the talk says from a start for what was read: the bytes sent, and those that are pending. Where a read failed none are pending, since
-- all that was said is sent before each read.
pub record Serves {T Start : Type 0} (stands : T → Start → List ℕ → List ℕ → Type 0) (says : Start → List ℕ → Said → Type 0) (failed : Bool) (before after : T) (seen_after : TalkSeen)
    (recorded_before recorded_after : Option DoorRecorded) : Type 0 where
  pub fed : List ℕ
  pub sent : List ℕ
  pub read_failed : Bool
  pub talk : Carries stands before after fed sent
  pub door : GoesOn (OnCurrent (Exchanges fed sent failed read_failed)) recorded_before recorded_after
  pub in_turn : read_failed ≡ true → seen_after.pending ≡ []
  pub output : (start : Start) → stands before start [] [] → says start fed (record { output = sent ++ seen_after.pending; requests = seen_after.requests; ended = seen_after.ended })
