-- An event sequence is played, event after event.
use Rattle.std.proofs.Common.{◌≡◌, ℕ, List, [], ◌∷◌, ◌++◌, length, refl, ap, sym, subst, ◌∙◌}
use Rattle.std.proofs.Math.Seq.{take-append_seam}
use Rattle.std.proofs.lemmas.List.{append-nil, append_assoc}
use Rattle.convoy.specs.ClientLaws.Laws.{WantsStay}
use Rattle.convoy.specs.Replies.Met.{Met}
use Rattle.cli_words.specs.declared.command.Publishing.{Publishing}
use Rattle.convoy.specs.Finish.{IsStep, Rounds}
use Rattle.convoy.specs.State.{ConvoyState, begun}
use Rattle.convoy.specs.declared.turn.Turn.{Turn}
use Rattle.convoy.specs.Agreement.Laws.{AddedAgrees, LaterAgrees, NoneAgrees}
use Rattle.convoy.specs.Agreement.Names.{Round}
use Rattle.convoy.specs.Agreement.Rounds.{round_at, rounds_up_to}
use Rattle.lc_world.specs.Link.{LinkSeen}
use Rattle.page_client.specs.Client.{shown}
use Rattle.lc_world.specs.Sides.Short.{IsShort}
use Rattle.journey_text.specs.Script.{IsClient}
use Rattle.timetable.specs.declared.timetable.Timetable.{Timetable}
use Rattle.version_store.specs.Store.{Stored}
use Rattle.cli_ask.specs.Publishing.{side_with, store_of}
use Rattle.cli_ask.specs.declared.end.ClientEnd.{ClientEnd}
use Rattle.cli_replay.specs.ReplayLaws.Laws.{IsQuietAt, PlaysRight}
use Rattle.cli_replay.specs.ReplayLaws.Rounds.{rounds_along}
use Rattle.cli_replay.proofs.ReplayLawsLemmas.BeginsLemmas.{asks, begins}
use Rattle.cli_replay.proofs.ReplayLawsLemmas.EventLemmas.{turns_in_front}
use Rattle.cli_replay.proofs.ReplayLawsLemmas.HearsLemmas.{hears}
use Rattle.cli_replay.proofs.ReplayLawsLemmas.PlayedTo.{IsPlayedTo}
use Rattle.cli_replay.proofs.ReplayLawsLemmas.RepliedLemmas.{tells_own}
use Rattle.cli_replay.specs.ReplayLaws.Events.{TurnsAreOfClients, questions_in}
use Rattle.cli_replay.specs.ReplayLaws.History.{AreMetIn}
use Rattle.cli_replay.specs.ReplayLaws.Played.{HaveEndedSo, Plays}
use Rattle.cli_replay.specs.ReplayLaws.Replied.{TellsOwn}
use Rattle.cli_replay.specs.ReplayLaws.Right.{ArePlayedRight}
use Rattle.cli_replay.specs.ReplayLaws.Turns.{order_of}
use Rattle.cli_replay.specs.ReplayLaws.Versions.{AreShort, HasHeard}
use Rattle.cli_replay.specs.declared.replay_laws.event.Event.{Event}
use Rattle.cli_replay.specs.declared.replay_laws.event.Event.TheVariants as events

-- if the publisher's texts are short in an event sequence, they are short after the beginning of it
pub short_behind : (made : Timetable) (publishing : Publishing) (front rest : List Event) → AreShort made publishing (front ++ rest) → (store : Stored) (lines : List ℕ) →
    HasHeard front (store_of made publishing.base_moment) store lines → IsShort (side_with made publishing store)
short_behind made publishing front rest short store lines heard =
    short (length front) store lines (subst (λ (course : List Event). HasHeard course (store_of made publishing.base_moment) store lines) (sym (take-append_seam front rest)) heard)

-- a turn of a client keeps what holds of an event sequence
abbrev pub TurnsGoOn : {X : Type 0} → (X → LinkSeen) → Timetable → Publishing → ℕ → X → Type 0
TurnsGoOn {X} seen made publishing cache start =
    (done : List Event) (old new : ConvoyState) (before after : X) (lines : List ℕ) (rounds : List Round) (client : ℕ) (turn : Turn)
    → IsPlayedTo made publishing cache done old (seen start) (seen before) lines rounds → IsClient (length (questions_in done)) client → (step : IsStep seen client old new before after turn)
    → IsPlayedTo made publishing cache (done ++ events.Turn client ∷ []) new (seen start) (seen after) lines (rounds ++ round_at turn (shown step.turned.was.client) (shown step.turned.is.client) ∷ [])

module _ {X : Type 0} (seen : X → LinkSeen) (made : Timetable) (publishing : Publishing) (cache : ℕ) (start : X) (added : AddedAgrees) (later : LaterAgrees) (wants_stay : WantsStay)
    (go_on : TurnsGoOn seen made publishing cache start) where
  -- what is left of an event sequence is played
  pub plays_on : (done rest : List Event) (old new : ConvoyState) (before after : X) (lines more : List ℕ) (rounds : List Round) → TurnsAreOfClients (done ++ rest) → AreShort made publishing (done ++ rest) →
      IsPlayedTo made publishing cache done old (seen start) (seen before) lines rounds → (plays : Plays seen rest old new before after more) →
      IsPlayedTo made publishing cache (done ++ rest) new (seen start) (seen after) (lines ++ more) (rounds ++ rounds_along seen rest old new before after more plays)
  plays_on done [] old new before after lines more rounds turns short played (same, still, none) =
      subst (λ (r : List Round). IsPlayedTo made publishing cache (done ++ []) new (seen start) (seen after) (lines ++ more) r) (sym (append-nil rounds))
      (subst (λ (course : List Event). IsPlayedTo made publishing cache course new (seen start) (seen after) (lines ++ more) rounds) (sym (append-nil done))
      (subst (λ (l : List ℕ). IsPlayedTo made publishing cache done new (seen start) (seen after) l rounds) (sym (ap (λ (l : List ℕ). lines ++ l) none ∙ append-nil lines))
      (subst (λ (x : X). IsPlayedTo made publishing cache done new (seen start) (seen x) lines rounds) (sym still)
      (subst (λ (convoy : ConvoyState). IsPlayedTo made publishing cache done convoy (seen start) (seen before) lines rounds) (sym same) played))))
  plays_on done (events.Ask query ∷ rest) old new before after lines more rounds turns short played (between, adds, plays) =
      let whole : (done ++ events.Ask query ∷ []) ++ rest ≡ done ++ events.Ask query ∷ rest = append_assoc done (events.Ask query ∷ []) rest in
      subst (λ (course : List Event). IsPlayedTo made publishing cache course new (seen start) (seen after) (lines ++ more) (rounds ++ rounds_along seen rest between new before after more plays)) whole
      (plays_on (done ++ events.Ask query ∷ []) rest between new before after lines more rounds (subst TurnsAreOfClients (sym whole) turns) (subst (AreShort made publishing) (sym whole) short)
      (asks made publishing cache done query old between (seen start) (seen before) lines (turns_in_front done (events.Ask query ∷ rest) turns) adds rounds played added) plays)
  plays_on done (events.Message message ∷ rest) old new before after lines more rounds turns short played (link, line, behind, given, plays, all) =
      let whole : (done ++ events.Message message ∷ []) ++ rest ≡ done ++ events.Message message ∷ rest = append_assoc done (events.Message message ∷ []) rest in
      let still_short : AreShort made publishing ((done ++ events.Message message ∷ []) ++ rest) = subst (AreShort made publishing) (sym whole) short in
      let then_rounds = rounds ++ rounds_along seen rest old new link after behind plays in
      subst (λ (l : List ℕ). IsPlayedTo made publishing cache (done ++ events.Message message ∷ rest) new (seen start) (seen after) l then_rounds)
      (append_assoc lines line behind ∙ sym (ap (λ (l : List ℕ). lines ++ l) all))
      (subst (λ (course : List Event). IsPlayedTo made publishing cache course new (seen start) (seen after) ((lines ++ line) ++ behind) then_rounds) whole
      (plays_on (done ++ events.Message message ∷ []) rest old new link after (lines ++ line) behind rounds (subst TurnsAreOfClients (sym whole) turns) still_short
      (hears made publishing cache done message old (seen start) (seen before) (seen link) lines line later wants_stay rounds played given
      (short_behind made publishing (done ++ events.Message message ∷ []) rest still_short)) plays))
  plays_on done (events.Turn client ∷ rest) old new before after lines more rounds turns short played (between, link, turn, step, plays) =
      let whole : (done ++ events.Turn client ∷ []) ++ rest ≡ done ++ events.Turn client ∷ rest = append_assoc done (events.Turn client ∷ []) rest in
      let round = round_at turn (shown step.turned.was.client) (shown step.turned.is.client) in
      let later_rounds = rounds_along seen rest between new link after more plays in
      subst (λ (r : List Round). IsPlayedTo made publishing cache (done ++ events.Turn client ∷ rest) new (seen start) (seen after) (lines ++ more) r) (append_assoc rounds (round ∷ []) later_rounds)
      (subst (λ (course : List Event). IsPlayedTo made publishing cache course new (seen start) (seen after) (lines ++ more) ((rounds ++ round ∷ []) ++ later_rounds)) whole
      (plays_on (done ++ events.Turn client ∷ []) rest between new link after lines more (rounds ++ round ∷ []) (subst TurnsAreOfClients (sym whole) turns) (subst (AreShort made publishing) (sym whole) short)
      (go_on done old between before link lines rounds client turn played (turns done rest client refl) step) plays))

  -- an event sequence is played from its beginning over a quiet link
  pub plays : (all : List Event) (played : ConvoyState) (behind : X) (lines : List ℕ) → NoneAgrees → TurnsAreOfClients all → IsQuietAt made publishing (seen start) → AreShort made publishing all →
      (course : Plays seen all (begun publishing.base cache) played start behind lines) →
      IsPlayedTo made publishing cache all played (seen start) (seen behind) lines (rounds_along seen all (begun publishing.base cache) played start behind lines course)
  plays all played behind lines none_agrees turns quiet short course =
      plays_on [] all (begun publishing.base cache) played start behind [] lines [] turns short
      (begins made publishing cache (seen start) none_agrees quiet (short_behind made publishing [] all short (store_of made publishing.base_moment) [] (refl, refl))) course

-- an event sequence that was played rightly up to now ends right once each client has reached its end
abbrev pub FinishesRight : {X : Type 0} → (X → LinkSeen) → Type 0
FinishesRight {X} seen =
    (made : Timetable) (publishing : Publishing) (all : List Event) (cache : ℕ) (played ended : ConvoyState) (start behind after : X) (lines : List ℕ) (ends : List ClientEnd) (met : List Met)
    (front : List Round) → TurnsAreOfClients all → IsPlayedTo made publishing cache all played (seen start) (seen behind) lines front
    → (rounds : Rounds seen (length played.members) played ended behind after) → HaveEndedSo ended.members ends
    → AreMetIn (order_of all) (front ++ rounds_up_to seen (length played.members) played ended behind after rounds) met
    → TellsOwn made publishing all (front ++ rounds_up_to seen (length played.members) played ended behind after rounds) (seen start).recorded (seen after).recorded
    → ArePlayedRight made publishing all cache (seen start).recorded (seen after).recorded (seen start).faults (seen after).faults lines ends met

pub plays_right : {X : Type 0} (seen : X → LinkSeen) → NoneAgrees → AddedAgrees → LaterAgrees → WantsStay
    → ((made : Timetable) (publishing : Publishing) (cache : ℕ) (start : X) → TurnsGoOn seen made publishing cache start) → FinishesRight seen → PlaysRight seen
plays_right seen none added later wants_stay go_on finishes made publishing all cache played ended start behind after lines ends met turns quiet short course rounds have_ended met_in =
    finishes made publishing all cache played ended start behind after lines ends met (rounds_along seen all (begun publishing.base cache) played start behind lines course) turns
    (plays seen made publishing cache start added later wants_stay (go_on made publishing cache start) all played behind lines none turns quiet short course) rounds have_ended met_in
    (tells_own seen made publishing all cache played ended start behind after lines quiet short course rounds)
