-- How serving ends, by how its parts have ended.
use Rattle.std.proofs.Common.{◌≡◌, ◌∙◌, ℕ, ◌≤◌, ◌-◌, ◌^◌, Bool, true, false, List, ◌++◌, length, Option, Result, Ok, Err, inl, inr, refl, sym, ap, subst, IsErrOf}
use Rattle.lc_io.specs.Door.{DoorSeen, DoorRecorded, GoesOn}
use Rattle.lc_io.specs.declared.door.DoorFail.{DoorFail}
use Rattle.lc_io.specs.declared.door.DoorFail.TheVariants as doors
use Rattle.lc_io.specs.Counts.{HasCause, Rose, RoseBy}
use Rattle.lc_io.specs.Sink.{SinkSeen}
use Rattle.cli_serve.specs.Clients.{HasTaken}
use Rattle.cli_serve.specs.Lines.{line_of, served_line}
use Rattle.cli_serve.specs.Serve.{Asked, IsEndedByMemory, IsNotClosed, IsServedWhole, IsStopped, Outside, WasServed, WasVisited, opening_of}
use Rattle.cli_serve.specs.Steps.{Announces, Closes, ClosesKept, IsAnnounced, IsLeft, PutsLine, StopsTo, line_for}
use Rattle.cli_serve.specs.Stop.{stop_of_door}
use Rattle.cli_serve.specs.Tally.{IsTallyOf}
use Rattle.cli_serve.specs.Recorded.{AreRecorded, opened_at}
use Rattle.cli_serve.specs.Visit.{Visit, faults_of, requests_of}
use Rattle.cli_serve.specs.Written.{Wrote, WroteFront, WroteThenFront}
use Rattle.cli_serve.specs.declared.stop.Stop.{Stop}
use Rattle.cli_serve.specs.declared.stop.Stop.TheVariants.{Door, Sink, NoMemory}
use Rattle.cli_serve.specs.declared.tally.Tally.{Tally}
use Rattle.cli_serve.proofs.ClientLemmas.{rose_before}
use Rattle.cli_serve.proofs.RecordedLemmas.{goes_then}
use Rattle.cli_serve.proofs.WrittenLemmas.{then_front, then_whole}

-- the opening was not written whole
pub not_announced : (asked : Asked) (before after : Outside) (stop : Stop) → Announces asked before after (Err stop) → StopsTo asked before after (Err stop)
not_announced asked before after Door is = record { count_is = refl; now_is = refl; rose = is.0; so_far = inl is.1 }
not_announced asked before after Sink is = record { count_is = refl; now_is = refl; rose = is.0; so_far = inl is.1 }
not_announced asked before after NoMemory is = elim is [ inl closed ↦ inl closed | inr front ↦ inr (inl front) ]

recorded_since : (port : ℕ) (visits : List Visit) (a b c : Option DoorRecorded) → GoesOn (λ x y. y ≡ opened_at port x) a b → GoesOn (AreRecorded visits) b c
    → GoesOn (λ x y. AreRecorded visits (opened_at port x) y) a c
recorded_since port visits a b c announced recorded =
    goes_then (λ (x y : DoorRecorded). y ≡ opened_at port x) (AreRecorded visits) (λ (x y : DoorRecorded). AreRecorded visits (opened_at port x) y)
    (λ x y z is recorded. subst (λ (t : DoorRecorded). AreRecorded visits t z) is recorded) a b c announced recorded

-- the door was visited so since it listened
pub visited : (asked : Asked) (outcome : Result Tally DoorFail) (before middle : Outside) (after : DoorSeen) → IsAnnounced asked before middle
    → middle.door.broken ≡ before.door.broken → (taken : HasTaken asked.first asked.connections outcome middle.door after) → WasVisited asked taken.visits before.door after
visited asked outcome before middle after announced broken taken = record {
  last = taken.last;
  visits_are = taken.gone.visits_are;
  at_most = taken.at_most;
  recorded = recorded_since asked.port taken.visits before.door.recorded middle.door.recorded after.recorded announced.recorded taken.gone.recorded;
  listens = taken.gone.listens ∙ announced.listens;
  nobody = taken.nobody;
  broken = subst (λ (n : ℕ). RoseBy (faults_of taken.visits) n after.broken) broken taken.gone.rose;
}

-- the door was visited like this where memory ran out on a visit
pub stopped : (asked : Asked) (outcome : Result Tally DoorFail) (before middle : Outside) (after : DoorSeen) → IsAnnounced asked before middle
    → middle.door.broken ≡ before.door.broken → (taken : HasTaken asked.first asked.connections outcome middle.door after)
    → IsStopped asked taken.visits before (record { door = after; sink = middle.sink })
stopped asked outcome before middle after announced broken taken = record { visited = visited asked outcome before middle after announced broken taken; wrote = announced.wrote }

out_of_memory : (asked : Asked) (outcome : Result Tally DoorFail) (before middle : Outside) (after : DoorSeen) → IsAnnounced asked before middle
    → middle.door.broken ≡ before.door.broken → HasTaken asked.first asked.connections outcome middle.door after
    → IsEndedByMemory asked before (record { door = after; sink = middle.sink })
out_of_memory asked outcome before middle after announced broken taken =
    inr (inr (inl (taken.visits, stopped asked outcome before middle after announced broken taken)))

-- the door failed, or had no memory
door_failed : (asked : Asked) (fail : DoorFail) (before middle : Outside) (after : DoorSeen) → IsAnnounced asked before middle
    → middle.door.broken ≡ before.door.broken → before.door.faults ≤ middle.door.faults → HasTaken asked.first asked.connections (Err fail) middle.door after
    → (IsErrOf {T = Tally} (Err fail) doors.Failed → Rose middle.door.faults after.faults)
    → StopsTo asked before (record { door = after; sink = middle.sink }) (Err (stop_of_door fail))
door_failed asked doors.Failed before middle after announced broken faults taken rose = record {
  count_is = refl;
  now_is = refl;
  rose = rose_before (2 ^ 64 - 1) before.door.faults middle.door.faults after.faults faults (rose refl);
  so_far = inr (taken.visits, taken.all.0, taken.all.1, stopped asked (Err doors.Failed) before middle after announced broken taken);
}
door_failed asked doors.NoMemory before middle after announced broken faults taken rose =
    out_of_memory asked (Err doors.NoMemory) before middle after announced broken taken

-- all visits were served
served : (asked : Asked) (tally : Tally) (before middle : Outside) (after : DoorSeen) → IsAnnounced asked before middle
    → middle.door.broken ≡ before.door.broken → (taken : HasTaken asked.first asked.connections (Ok tally) middle.door after) → tally.lost ≡ false
    → WasServed asked taken.visits before.door after
served asked tally before middle after announced broken taken kept = record {
  visited = visited asked (Ok tally) before middle after announced broken taken;
  all = taken.all.1;
  none_lost = taken.all.0.lost_is kept;
}

line_is : (tally : Tally) (visits : List Visit) → IsTallyOf visits tally → line_for tally ≡ line_of visits
line_is tally visits is =
    ap (λ (n : ℕ). served_line n tally.requests tally.faults) is.connections_are
    ∙ (ap (λ (n : ℕ). served_line (length visits) n tally.faults) is.requests_are ∙ ap (λ (n : ℕ). served_line (length visits) (requests_of visits) n) is.faults_are)

-- all was written
served_whole : (asked : Asked) (tally : Tally) (before middle : Outside) (door : DoorSeen) (sink : SinkSeen) → IsAnnounced asked before middle
    → middle.door.broken ≡ before.door.broken → HasTaken asked.first asked.connections (Ok tally) middle.door door → tally.lost ≡ false
    → Wrote middle.sink sink (line_for tally) → IsServedWhole asked before (record { door = door; sink = sink })
served_whole asked tally before middle door sink announced broken taken kept wrote = record {
  visits = taken.visits;
  served = served asked tally before middle door announced broken taken kept;
  wrote = subst (λ (l : List ℕ). Wrote before.sink sink (opening_of asked ++ l)) (line_is tally taken.visits taken.all.0)
      (then_whole before.sink middle.sink sink (opening_of asked) (line_for tally) announced.wrote wrote);
}

not_closed : (asked : Asked) (tally : Tally) (before middle : Outside) (door : DoorSeen) (sink : SinkSeen) → IsAnnounced asked before middle
    → middle.door.broken ≡ before.door.broken → HasTaken asked.first asked.connections (Ok tally) middle.door door → tally.lost ≡ false
    → WroteFront middle.sink sink (line_for tally) → IsNotClosed asked before (record { door = door; sink = sink })
not_closed asked tally before middle door sink announced broken taken kept wrote = record {
  visits = taken.visits;
  served = served asked tally before middle door announced broken taken kept;
  wrote = subst (λ (l : List ℕ). WroteThenFront before.sink sink (opening_of asked) l) (line_is tally taken.visits taken.all.0)
      (then_front before.sink middle.sink sink (opening_of asked) (line_for tally) announced.wrote wrote);
}

-- the line at the end was written, or a front of it
put : (asked : Asked) (tally : Tally) (before middle : Outside) (door : DoorSeen) (sink : SinkSeen) (result : Result (Unit {0}) Stop) → IsAnnounced asked before middle
    → middle.door.broken ≡ before.door.broken → before.sink.faults ≤ middle.sink.faults → HasTaken asked.first asked.connections (Ok tally) middle.door door → tally.lost ≡ false
    → PutsLine tally middle.sink sink result → StopsTo asked before (record { door = door; sink = sink }) result
put asked tally before middle door sink (Ok done) announced broken faults taken kept puts =
    served_whole asked tally before middle door sink announced broken taken kept puts
put asked tally before middle door sink (Err Door) announced broken faults taken kept puts = absurd puts
put asked tally before middle door sink (Err Sink) announced broken faults taken kept puts = record {
  count_is = refl;
  now_is = refl;
  rose = rose_before (2 ^ 64 - 1) before.sink.faults middle.sink.faults sink.faults faults puts.0;
  so_far = inr (not_closed asked tally before middle door sink announced broken taken kept puts.1);
}
put asked tally before middle door sink (Err NoMemory) announced broken faults taken kept puts =
    inr (inr (inr (not_closed asked tally before middle door sink announced broken taken kept puts)))

-- nothing was written after the opening
left : (asked : Asked) (stop : Stop) (before middle : Outside) (door : DoorSeen) (sink : SinkSeen) (result : Result (Unit {0}) Stop)
    → StopsTo asked before (record { door = door; sink = middle.sink }) (Err stop) → IsLeft stop middle.sink sink result
    → StopsTo asked before (record { door = door; sink = sink }) result
left asked stop before middle door sink result stops is =
    let Now : SinkSeen → Type 0 = λ s. StopsTo asked before (record { door = door; sink = s }) result in
    let Ended : Result (Unit {0}) Stop → Type 0 = λ r. StopsTo asked before (record { door = door; sink = middle.sink }) r in
    subst Now (sym is.sink) (subst Ended (sym is.stopped) stops)

kept : (lost : Bool) (asked : Asked) (tally : Tally) (before middle : Outside) (door : DoorSeen) (sink : SinkSeen) (result : Result (Unit {0}) Stop) → tally.lost ≡ lost
    → IsAnnounced asked before middle → middle.door.broken ≡ before.door.broken → before.sink.faults ≤ middle.sink.faults
    → HasTaken asked.first asked.connections (Ok tally) middle.door door → ClosesKept lost tally middle.sink sink result
    → StopsTo asked before (record { door = door; sink = sink }) result
kept true asked tally before middle door sink result is announced broken faults taken closes =
    left asked NoMemory before middle door sink result (out_of_memory asked (Ok tally) before middle door announced broken taken) closes
kept false asked tally before middle door sink result is announced broken faults taken closes =
    put asked tally before middle door sink result announced broken faults taken is closes

-- how serving ends after what was taken
pub closed_so : (asked : Asked) (taken : Result Tally DoorFail) (before middle : Outside) (door : DoorSeen) (sink : SinkSeen) (result : Result (Unit {0}) Stop)
    → IsAnnounced asked before middle → middle.door.broken ≡ before.door.broken → before.door.faults ≤ middle.door.faults → before.sink.faults ≤ middle.sink.faults
    → HasTaken asked.first asked.connections taken middle.door door → HasCause middle.door.faults door.faults (IsErrOf taken doors.Failed) → Closes taken middle.sink sink result
    → StopsTo asked before (record { door = door; sink = sink }) result
closed_so asked (Ok tally) before middle door sink result announced broken door_faults sink_faults taken cause closes =
    kept tally.lost asked tally before middle door sink result refl announced broken sink_faults taken closes
closed_so asked (Err fail) before middle door sink result announced broken door_faults sink_faults taken cause closes =
    left asked (stop_of_door fail) before middle door sink result (door_failed asked fail before middle door announced broken door_faults taken cause.rose) closes
