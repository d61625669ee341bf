-- One client more.
use Rattle.std.proofs.Common.{◌≡◌, ◌∙◌, ℕ, ◌+◌, ◌<◌, ◌≤◌, min, Bool, true, false, List, [], ◌∷◌, ◌++◌, length, Option, None, Some, Result, Ok, Err, refl, sym, ap, subst, arith, inl, inr}
use Rattle.std.proofs.lemmas.List.Sums.{sum_by-append}
use Rattle.lc_io.specs.Door.{Closes, Comes, DoorSeen, DoorRecorded, GoesOn, Opens, connected_after, hung_up}
use Rattle.lc_io.specs.declared.door.DoorFail.{DoorFail}
use Rattle.lc_io.specs.declared.door.DoorFail.TheVariants.{Failed, NoMemory}
use Rattle.lc_io.specs.declared.door.Next.{Next}
use Rattle.lc_io.specs.declared.door.Next.TheVariants.{Connection, Closed}
use Rattle.lc_io.specs.declared.serving.Served.{Served}
use Rattle.lc_io.proofs.CountLemmas.{RoseBy-none, RoseBy-then}
use Rattle.lc_io.specs.Counts.{Rose, RoseBy}
use Rattle.lc_model.specs.declared.memory.NoMemory.{NoMemory as OutOfMemory}
use Rattle.lc_world.specs.Sides.Side.{Side}
use Rattle.cli_serve.specs.Clients.{AreAll, HasGone, HasTaken, HasServedSoFar}
use Rattle.cli_serve.specs.Tally.{Fits, IsTallyOf, ended_so}
use Rattle.cli_serve.specs.Recorded.{AreRecorded, NoneWaits}
use Rattle.cli_serve.specs.Visit.{AreVisits, IsVisit, NoneLost, Visit, faults_of}
use Rattle.cli_serve.specs.Visiting.{CameOut, IsOver, Visits}
use Rattle.cli_serve.specs.declared.tally.Tally.{Tally}
use Rattle.cli_serve.proofs.RecordedLemmas.{goes_then, none_recorded, over_recorded, recorded_one_more}

-- nobody came yet
none_seen : (recorded : Option DoorRecorded) → GoesOn (AreRecorded []) recorded recorded
none_seen None = refl
none_seen (Some recorded) = none_recorded recorded

pub none_gone : (side : Side) (door : DoorSeen) → HasGone [] side side door door
none_gone side door = record {
  visits_are = refl;
  recorded = none_seen door.recorded;
  listens = refl;
  faults = omega arith;
  broken = omega arith;
  rose = RoseBy-none door.broken door.broken (omega arith);
}

visits_more : (visits : List Visit) (visit : Visit) (first side next : Side) → AreVisits first visits side → IsVisit visit.lost side visit next
    → AreVisits first (visits ++ visit ∷ []) next
visits_more [] visit first side next are is =
    let Goal : Side → Type 0 = λ s. IsVisit visit.lost s visit next in
    (next, subst Goal are is, refl)
visits_more (v ∷ visits) visit first side next are is = (are.0, are.1, visits_more visits visit are.0 side next are.2 is)

pub rose_before : (most before middle after : ℕ) → before ≤ middle → min (middle + 1) most ≤ after → min (before + 1) most ≤ after
rose_before most before middle after earlier rose = omega arith

count_none : (visit : Visit) → visit.failed ≡ false → faults_of (visit ∷ []) ≡ 0
count_none visit well = rw well refl

count_one : (visit : Visit) → visit.failed ≡ true → faults_of (visit ∷ []) ≡ 1
count_one visit failed = rw failed refl

-- a fault of the visit was counted
rose_once : (failed : Bool) (visit : Visit) (middle after : ℕ) → visit.failed ≡ failed → middle ≤ after → (visit.failed ≡ true → Rose middle after) → RoseBy (faults_of (visit ∷ [])) middle after
rose_once true visit middle after is later now = subst (λ (n : ℕ). RoseBy n middle after) (sym (count_one visit is)) (now is)
rose_once false visit middle after is later now = subst (λ (n : ℕ). RoseBy n middle after) (sym (count_none visit is)) (RoseBy-none middle after later)

rose_more : (visits : List Visit) (visit : Visit) (before middle after : ℕ) → middle ≤ after → RoseBy (faults_of visits) before middle → (visit.failed ≡ true → Rose middle after)
    → RoseBy (faults_of (visits ++ visit ∷ [])) before after
rose_more visits visit before middle after later was now =
    subst (λ (n : ℕ). RoseBy n before after) (sym (sum_by-append _ visits (visit ∷ [])))
    (RoseBy-then (faults_of visits) (faults_of (visit ∷ [])) before middle after was (rose_once visit.failed visit middle after refl later now))

-- what is recorded, where one more came
recorded_then : (visits : List Visit) (visit : Visit) (a b c d : Option DoorRecorded) → GoesOn (AreRecorded visits) a b → GoesOn Opens b c → GoesOn (IsOver visit) c d
    → GoesOn (AreRecorded (visits ++ visit ∷ [])) a d
recorded_then visits visit a b c d recorded opens over =
    goes_then (AreRecorded visits) (λ (x y : DoorRecorded). (m : DoorRecorded) × Opens x m × IsOver visit m y) (AreRecorded (visits ++ visit ∷ []))
    (λ x y z recorded both. recorded_one_more visits visit x y both.0 z recorded both.1 both.2) a b d recorded
    (goes_then Opens (IsOver visit) (λ (x y : DoorRecorded). (m : DoorRecorded) × Opens x m × IsOver visit m y) (λ x y z p q. (y, p, q)) b c d opens over)

-- one more came, and was served
pub one_gone : (visits : List Visit) (visit : Visit) (outcome : Result Served OutOfMemory) (first side next : Side) (before middle opened after : DoorSeen)
    → HasGone visits first side before middle → GoesOn Opens middle.recorded opened.recorded → middle.faults ≤ opened.faults → opened.listens ≡ middle.listens → opened.broken ≡ middle.broken
    → Visits visit outcome side next opened after → HasGone (visits ++ visit ∷ []) first next before after
one_gone visits visit outcome first side next before middle opened after gone opens faults listens broken is =
    let still : opened.faults ≡ after.faults = sym (ap (λ (s : DoorSeen). s.faults) is.others) in
    let caused : middle.broken ≤ after.broken = let fell = is.broken.not_fallen in omega arith in
    record {
      visits_are = visits_more visits visit first side next gone.visits_are is.visit_is;
      recorded = recorded_then visits visit before.recorded middle.recorded opened.recorded after.recorded gone.recorded opens is.recorded;
      listens = ap (λ (s : DoorSeen). s.listens) is.others ∙ (listens ∙ gone.listens);
      faults = let was = gone.faults in omega arith;
      broken = let was = gone.broken in omega arith;
      rose = rose_more visits visit before.broken middle.broken after.broken caused gone.rose
          (λ failed. let rose : Rose opened.broken after.broken = is.broken.rose failed in subst (λ (n : ℕ). Rose n after.broken) broken rose);
    }

over_seen : (visits : List Visit) (a b c : Option DoorRecorded) → GoesOn (AreRecorded visits) a b → GoesOn (λ x y. y ≡ hung_up x) b c → GoesOn (AreRecorded visits) a c
over_seen visits a b c recorded is = goes_then (AreRecorded visits) (λ (x y : DoorRecorded). y ≡ hung_up x) (AreRecorded visits) (over_recorded visits) a b c recorded is

-- nobody more came
pub gone_over : (visits : List Visit) (first side : Side) (before middle after : DoorSeen) → HasGone visits first side before middle
    → GoesOn (λ x y. y ≡ hung_up x) middle.recorded after.recorded → middle.faults ≤ after.faults → after.listens ≡ middle.listens → after.broken ≡ middle.broken
    → HasGone visits first side before after
gone_over visits first side before middle after gone over faults listens broken = record {
  visits_are = gone.visits_are;
  recorded = over_seen visits before.recorded middle.recorded after.recorded gone.recorded over;
  listens = listens ∙ gone.listens;
  faults = let was = gone.faults in omega arith;
  broken = let was = gone.broken in omega arith;
  rose = subst (λ (n : ℕ). RoseBy (faults_of visits) before.broken n) (sym broken) gone.rose;
}

-- no client waits where none comes
closed_over : (a b : Option DoorRecorded) → GoesOn Closes a b → GoesOn (λ x y. y ≡ hung_up x) a b
closed_over None b closes = closes
closed_over (Some a) None closes = closes
closed_over (Some a) (Some b) closes = closes.closed

none_waits : (a b : Option DoorRecorded) → GoesOn Closes a b → NoneWaits b
none_waits a None closes = tt
none_waits None (Some b) closes = absurd (cc)
none_waits (Some a) (Some b) closes = ap (λ (t : DoorRecorded). t.waiting) closes.closed ∙ closes.none_left

pub closed : (visits : List Visit) (first side : Side) (before middle after : DoorSeen) → HasGone visits first side before middle
    → GoesOn Closes middle.recorded after.recorded → middle.faults ≤ after.faults → after.listens ≡ middle.listens → after.broken ≡ middle.broken
    → HasGone visits first side before after × NoneWaits after.recorded
closed visits first side before middle after gone closes faults listens broken =
    (gone_over visits first side before middle after gone (closed_over middle.recorded after.recorded closes) faults listens broken, none_waits middle.recorded after.recorded closes)

-- what `next` has answered
pub record NextSaid (result : Result Next DoorFail) (before after : DoorSeen) : Type 0 where
  pub connected : after.connected ≡ connected_after result
  pub recorded : GoesOn (Comes result) before.recorded after.recorded
  pub faults : before.faults ≤ after.faults
  pub listens : after.listens ≡ before.listens
  pub broken : after.broken ≡ before.broken

-- no client has come yet
pub starts_out : (side : Side) (connections : ℕ) (tally : Tally) (door : DoorSeen) → IsTallyOf [] tally → Fits tally → HasServedSoFar side side connections tally door door
starts_out side connections tally door is fits = record {
  visits = [];
  gone = none_gone side door;
  tally_is = is;
  fits = fits;
  few = let none : tally.connections ≡ 0 = is.connections_are in omega arith;
  nobody = λ some. let none : tally.connections ≡ 0 = is.connections_are in absurd (omega arith);
}

-- why no client was taken, by whether memory had run out on one before
all_but : (lost : Bool) (fail : DoorFail) (visits : List Visit) (connections : ℕ) (recorded : Option DoorRecorded) → length visits < connections → (lost ≡ false → NoneLost visits)
    → AreAll visits connections (Err (ended_so lost fail)) recorded
all_but true fail visits connections recorded fewer none = fewer
all_but false Failed visits connections recorded fewer none = (fewer, none refl)
all_but false NoMemory visits connections recorded fewer none = fewer

-- a fault of the door is one that it had
pub failed_alone : (lost : Bool) (fail : DoorFail) → ended_so lost fail ≡ Failed → fail ≡ Failed
failed_alone true fail is = absurd (cc)
failed_alone false fail is = is

-- the door failed
pub fails_next : (first side : Side) (connections : ℕ) (tally : Tally) (fail : DoorFail) (before middle after : DoorSeen) → HasServedSoFar first side connections tally before middle
    → tally.connections < connections → NextSaid (Err fail) middle after → HasTaken first connections (Err (ended_so tally.lost fail)) before after
fails_next first side connections tally fail before middle after way fewer asked = record {
  visits = way.visits;
  last = side;
  gone = gone_over way.visits first side before middle after way.gone asked.recorded asked.faults asked.listens asked.broken;
  at_most = let long : tally.connections ≡ length way.visits = way.tally_is.connections_are in omega arith;
  all = let long : tally.connections ≡ length way.visits = way.tally_is.connections_are in
      all_but tally.lost fail way.visits connections after.recorded (omega arith) way.tally_is.lost_is;
  nobody = asked.connected;
}

-- nobody more came
pub none_next : (first side : Side) (connections : ℕ) (tally : Tally) (before middle after : DoorSeen) → HasServedSoFar first side connections tally before middle
    → tally.connections < connections → NextSaid (Ok Closed) middle after → HasTaken first connections (Ok tally) before after
none_next first side connections tally before middle after way fewer asked =
    let over = closed way.visits first side before middle after way.gone asked.recorded asked.faults asked.listens asked.broken in
    record {
      visits = way.visits;
      last = side;
      gone = over.0;
      at_most = let long : tally.connections ≡ length way.visits = way.tally_is.connections_are in omega arith;
      all = (way.tally_is, inr over.1);
      nobody = asked.connected;
    }

-- all have come that were asked for
pub all_came : (first side : Side) (connections : ℕ) (tally : Tally) (before after : DoorSeen) → HasServedSoFar first side connections tally before after
    → connections ≤ tally.connections → 1 ≤ connections → HasTaken first connections (Ok tally) before after
all_came first side connections tally before after way all some = record {
  visits = way.visits;
  last = side;
  gone = way.gone;
  at_most = let long : tally.connections ≡ length way.visits = way.tally_is.connections_are in let few = way.few in omega arith;
  all = (way.tally_is, inl (let long : tally.connections ≡ length way.visits = way.tally_is.connections_are in let few = way.few in omega arith));
  nobody = way.nobody (omega arith);
}

-- one more came
pub one_next : (visit : Visit) (outcome : Result Served OutOfMemory) (first side next : Side) (connections : ℕ) (tally counted : Tally) (before middle opened after : DoorSeen)
    → HasServedSoFar first side connections tally before middle → tally.connections < connections → NextSaid (Ok Connection) middle opened
    → Visits visit outcome side next opened after
    → ((visits : List Visit) (visit : Visit) → IsTallyOf visits tally → CameOut outcome visit → IsTallyOf (visits ++ visit ∷ []) counted)
    → counted.connections ≡ tally.connections + 1 → Fits counted → HasServedSoFar first next connections counted before after
one_next visit outcome first side next connections tally counted before middle opened after way fewer asked is more one fits = record {
  visits = way.visits ++ visit ∷ [];
  gone = one_gone way.visits visit outcome first side next before middle opened after way.gone asked.recorded asked.faults asked.listens asked.broken is;
  tally_is = more way.visits visit way.tally_is is.came_out;
  fits = fits;
  few = omega arith;
  nobody = λ some. ap (λ (s : DoorSeen). s.connected) is.others;
}
