-- What a session has answered on a connection is a visit.
use Rattle.std.proofs.Common.{◌≡◌, ◌∙◌, ℕ, Bool, true, false, List, [], ◌++◌, Option, None, Some, Result, Ok, Err, IfOk, OnErr, IsTrue, refl, sym, ap, append-nil, arith}
use Rattle.std.specs.List.{concat}
use Rattle.std.specs.Result.{IsOkAnd}
use Rattle.fragmenter.specs.Cutting.{chosen_cuts}
use Rattle.fragmenter.specs.declared.cutting.Cutting.{Cutting}
use Rattle.lc_io.specs.Door.{DoorSeen, DoorRecorded, GoesOn, OnCurrent, Wire}
use Rattle.lc_io.specs.Serving.{Exchanges, Halts, NothingToCome, SendsFront, Serves}
use Rattle.lc_io.specs.Serving as serve_one
use Rattle.lc_io.specs.declared.serving.Served.{Served}
use Rattle.lc_io.specs.Counts.{HasCause}
use Rattle.lc_model.specs.declared.memory.NoMemory.{NoMemory}
use Rattle.publisher.specs.Held.{side_of}
use Rattle.lc_world.specs.Sides.Side.{Side}
use Rattle.cli_serve.specs.Said.{none_out}
use Rattle.cli_serve.specs.Serving.{SaysOut, ServingState, StandsOut, serving_seen}
use Rattle.wire_session.specs.Phase.{is_ended}
use Rattle.wire_session.specs.Stands.{IsOutput, Stands, fresh}
use Rattle.wire_session.specs.Stands as session
use Rattle.wire_session.specs.declared.phase.Phase.TheVariants.{Open}
use Rattle.cli_serve.specs.Visit.{IsLost, IsServed, Visit}
use Rattle.cli_serve.specs.Visiting.{Answers}

no_exchange : (a : Wire) → Exchanges [] [] false false a a
no_exchange a = record { came = refl; read_more = sym (append-nil a.read); sent_more = sym (append-nil a.sent); failed_too = refl; read_failed_too = refl }

none_current : (a : Option Wire) → GoesOn (Exchanges [] [] false false) a a
none_current None = refl
none_current (Some a) = no_exchange a

-- nothing was exchanged
none_recorded : (a : Option DoorRecorded) → GoesOn (OnCurrent (Exchanges [] [] false false)) a a
none_recorded None = refl
none_recorded (Some a) = record { others = refl; current = none_current a.current }

-- a visit on which memory ran out
abbrev lost_visit : List ℕ → List ℕ → Visit
lost_visit read sent = record { read = read; sent = sent; requests = 0; ended = false; failed = false; read_failed = false; lost = true }

is_lost : (side : Side) (read sent : List ℕ) → SendsFront (SaysOut side) read sent → IsLost side (lost_visit read sent)
is_lost side read sent front = record {
  heard = front.heard;
  said = front.is_said.answer;
  heard_is = front.heard_is;
  said_is = front.is_said.answer_is;
  sent_is = record { rest = front.sent_is.rest; is = sym front.is_said.output_is ∙ front.sent_is.is };
  requests_are = refl;
  ended_is = refl;
  failed_is = refl;
  read_failed_is = refl;
}

loses : (side next : Side) (read sent : List ℕ) (before after : DoorSeen) (fault : NoMemory) → SendsFront (SaysOut side) read sent
    → GoesOn (OnCurrent (Exchanges read sent false false)) before.recorded after.recorded → HasCause before.broken after.broken ⊥ → after ≡ record before { recorded = after.recorded; broken = after.broken }
    → Answers (lost_visit read sent) (Err fault) side next before after
loses side next read sent before after fault front recorded broken others = record {
  visit_is = is_lost side read sent front;
  came_out = (refl, refl, refl);
  recorded = recorded;
  heard = λ failed lost. absurd (cc);
  broken = record { not_fallen = broken.not_fallen; rose = λ failed. absurd (cc) };
  others = others;
}

-- no session could be made
pub none_answered : (side : Side) (door : DoorSeen) (fault : NoMemory) → (visit : Visit) × Answers visit (Err fault) side side door door
none_answered side door fault = (
  lost_visit [] [],
  loses side side [] [] door door fault
      (record { heard = []; said = record { output = []; requests = 0; ended = false }; heard_is = record { rest = []; is = refl }; is_said = none_out side; sent_is = record { rest = []; is = refl } })
      (none_recorded door.recorded) (record { not_fallen = omega arith; rose = λ no. absurd no }) refl,
)

-- a session that received nothing stands for no bytes
pub starts : (side : Side) (serving : ServingState Cutting) → serving.session ≡ fresh → Stands serving.session side [] [] (side_of chosen_cuts serving.publisher)
    → StandsOut chosen_cuts serving side [] []
starts side serving is stands =
    let goes_on : serving.session.phase ≡ Open = ap (λ (held : session.Held). held.phase) is in
    record { enough = λ spent. absurd (cc); stands = stands }

-- the talk's states, and the bytes that they stand for
abbrev stands_out : ServingState Cutting → Side → List ℕ → List ℕ → Type 0
stands_out serving start fed sent = StandsOut chosen_cuts serving start fed sent

-- a visit on which all was answered
abbrev served_visit : List ℕ → List ℕ → ℕ → Bool → Bool → Bool → Visit
served_visit read sent requests ended failed read_failed =
    record { read = read; sent = sent; requests = requests; ended = ended; failed = failed; read_failed = read_failed; lost = false }

whole : (sent pending text : List ℕ) → pending ≡ [] → sent ++ pending ≡ text → sent ≡ text
whole sent pending text none is = sym (append-nil sent) ∙ (ap (λ (l : List ℕ). sent ++ l) (sym none) ∙ is)

is_served : (side next : Side) (fed sent pending : List ℕ) (requests : ℕ) (ended failed read_failed : Bool) → IsOutput side fed (sent ++ pending) requests next ended
    → (failed ≡ false → pending ≡ []) → (read_failed ≡ true → pending ≡ []) → IsServed side (served_visit fed sent requests ended failed read_failed) next
is_served side next fed sent pending requests ended failed read_failed out none in_turn = record {
  said = out.said;
  said_is = out.says;
  sent_is = record { rest = pending; is = sym out.text_is };
  all_sent = λ well. whole sent pending (concat out.said.replies) (none well) out.text_is;
  in_turn = λ read. whole sent pending (concat out.said.replies) (in_turn read) out.text_is;
  requests_are = out.count_is;
  ended_is = sym out.ended_is;
  next_is = out.side_is;
}

not_true : (b : Bool) → b ≡ false → ¬ IsTrue b
not_true b well = λ (failed : b ≡ true). absurd (cc)

-- what is known of a call of `serve_one`
pub record Called (served : Result Served NoMemory) (talk after : ServingState Cutting) (door door_after : DoorSeen) : Type 0 where
  pub serves : IfOk served (λ s. Serves stands_out SaysOut s.fault talk after (serving_seen after) door.recorded door_after.recorded)
  pub whole : IfOk served (λ s. ¬ IsTrue s.fault → serve_one.IsServed (serving_seen after) door_after.recorded)
  pub requests : IfOk served (λ s. s.requests ≡ (serving_seen after).requests)
  pub out_of_memory : OnErr served (Halts stands_out SaysOut talk door.recorded door_after.recorded)
  pub broken : HasCause door.broken door_after.broken (IsOkAnd served (λ s. IsTrue s.fault))
  pub others : door_after ≡ record door { recorded = door_after.recorded; broken = door_after.broken }

-- what was answered by a talk at its start is a visit
pub all_answered : (served : Result Served NoMemory) (side next : Side) (talk after : ServingState Cutting) (door door_after : DoorSeen) → StandsOut chosen_cuts talk side [] []
    → ((start : Side) (fed sent : List ℕ) → StandsOut chosen_cuts after start fed sent
    → IsOutput start fed (sent ++ after.session.pending) after.session.requests next (is_ended after.session.phase))
    → Called served talk after door door_after → (visit : Visit) × Answers visit served side next door door_after
all_answered (Ok s) side next talk after door door_after start left call =
    let fed : List ℕ = call.serves.fed in
    let sent : List ℕ = call.serves.sent in
    let out = left side fed sent (call.serves.talk side [] [] start) in (
      served_visit fed sent after.session.requests (is_ended after.session.phase) s.fault call.serves.read_failed,
      record {
        visit_is = is_served side next fed sent after.session.pending after.session.requests (is_ended after.session.phase) s.fault call.serves.read_failed out
            (λ well. (call.whole (not_true s.fault well)).all_sent) call.serves.in_turn;
        came_out = (refl, sym call.requests, refl);
        recorded = call.serves.door;
        heard = λ well kept. (call.whole (not_true s.fault well)).ended;
        broken = record { not_fallen = call.broken.not_fallen; rose = λ failed. call.broken.rose failed };
        others = call.others;
      },
    )
all_answered (Err fault) side next talk after door door_after start left call =
    let halts : Halts stands_out SaysOut talk door.recorded door_after.recorded = call.out_of_memory in (
      lost_visit halts.read halts.sent,
      loses side next halts.read halts.sent door door_after fault (halts.front side [] [] start) halts.door call.broken call.others,
    )
