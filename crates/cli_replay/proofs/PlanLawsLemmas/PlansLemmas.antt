-- Clients that plan over an honest link, from the first event to the last end, end rightly.
use Rattle.std.proofs.Common.{◌≡◌, ◌∙◌, ◌+◌, ◌<◌, ◌≤◌, ℕ, List, [], ◌∷◌, ◌++◌, Option, Some, length, refl, sym, subst, arith, append-nil, append_assoc}
use Rattle.std.specs.List.{slice_get}
use Rattle.std.proofs.lemmas.List.Elements.{All-head, All-tail}
use Rattle.std.proofs.lemmas.Option.{slice_get_within}
use Rattle.cli_ask.proofs.ClientLemmas.{at_end, same_end}
use Rattle.cli_ask.specs.Client.{shown_of}
use Rattle.cli_ask.specs.declared.end.ClientEnd.{ClientEnd}
use Rattle.connection_uri.specs.Base.{BaseParts}
use Rattle.convoy.specs.State.{ConvoyState, begun}
use Rattle.convoy.specs.declared.member.Member.{Member}
use Rattle.convoy.specs.ClientLaws.Fits.{FitsSide, HasEnded}
use Rattle.convoy.specs.ClientLaws.Laws.{WantsStay}
use Rattle.convoy.proofs.AgreementLemmas.PlaceLemmas.{at_place}
use Rattle.convoy.specs.Agreement.Laws.{AddedAgrees, EndKeepsAgreement, NoneAgrees, TurnKeepsAgreement}
use Rattle.convoy.specs.Agreement.Names.{Round}
use Rattle.convoy.specs.Agreement.Rounds.{round_at}
use Rattle.cli_replay.proofs.PlanLawsLemmas.AsksLemmas.{asks, begins}
use Rattle.cli_replay.proofs.PlanLawsLemmas.FaultVersionLemmas.{lacks_version}
use Rattle.cli_replay.proofs.PlanLawsLemmas.MetLemmas.{HasFinished, HasMetAt, HaveFinished}
use Rattle.cli_replay.proofs.PlanLawsLemmas.PlannedTo.{IsMemberAt, IsPlannedTo}
use Rattle.cli_replay.proofs.PlanLawsLemmas.StepLemmas.{HasStepped}
use Rattle.cli_replay.proofs.PlanLawsLemmas.TurnLemmas.{rounds_planned, turn_planned}
use Rattle.cli_replay.specs.PlanLaws.Laws.{PlansRight}
use Rattle.cli_replay.specs.PlanLaws.Planned.{ArePlanned, EndsAt, IsNoMessage, NoneIsMessage}
use Rattle.cli_replay.specs.PlanLaws.Sides.{sides_of}
use Rattle.cli_replay.proofs.ReplayLawsLemmas.EventLemmas.{questions_behind_turn, questions_in-append, turns_behind_ask, turns_in-append, turns_in_front, turns_of_clients}
use Rattle.cli_replay.proofs.ReplayLawsLemmas.FinishesLemmas.{end_at}
use Rattle.cli_replay.specs.ReplayLaws.Caused.{AreCaused}
use Rattle.cli_replay.specs.ReplayLaws.Events.{TurnsAreOfClients, questions_in, turns_in}
use Rattle.cli_replay.specs.ReplayLaws.History.{AreMetIn}
use Rattle.cli_replay.specs.ReplayLaws.Played.{HasEndedSo, HaveEndedSo, Plays}
use Rattle.cli_replay.specs.ReplayLaws.Right.{FailsWith}
use Rattle.cli_replay.specs.ReplayLaws.Rounds.{all_rounds, rounds_along}
use Rattle.cli_replay.specs.ReplayLaws.Turns.{counted, failed_in, given_in, order_of, rounds_of}
use Rattle.cli_replay.specs.declared.replay_laws.event.Event.{Event}
use Rattle.cli_replay.specs.declared.replay_laws.event.Event.TheVariants as events
use Rattle.cli_replay.proofs.ReplayLawsLemmas.PlayedTo.{HasFailedSo}
use Rattle.lc_model.specs.declared.query.Query.{Query}
use Rattle.lc_world.specs.Link.{LinkSeen}
use Rattle.page_client.specs.Client.{shown}
use Rattle.page_client.specs.declared.want.Want.{Want}
use Rattle.lc_world.specs.Sides.Side.{Side}

module _ {X : Type 0} (seen : X → LinkSeen) (added : AddedAgrees) (wants_stay : WantsStay) (keeps : TurnKeepsAgreement seen) (base : BaseParts) (first : Side) (cache : ℕ) (start : LinkSeen) where
  -- the events that are left happen
  pub plays_on : (done rest : List Event) (old new : ConvoyState) (before after : X) (lines : List ℕ) (rounds : List Round) (sides : List Side) → TurnsAreOfClients (done ++ rest) → NoneIsMessage rest →
      IsPlannedTo HasMetAt base first cache (questions_in done) (turns_in done) old start (seen before) rounds sides → (plays : Plays seen rest old new before after lines) →
      HasStepped HasMetAt base first cache (questions_in (done ++ rest)) (turns_in (done ++ rest)) new start (seen after) (rounds ++ rounds_along seen rest old new before after lines plays)
  plays_on done [] old new before after lines rounds sides turns none p (same, still, nothing) =
      subst (HasStepped HasMetAt base first cache (questions_in (done ++ [])) (turns_in (done ++ [])) new start (seen after)) (sym (append-nil rounds))
      (subst (λ (all : List Event). HasStepped HasMetAt base first cache (questions_in all) (turns_in all) new start (seen after) rounds) (sym (append-nil done))
      (subst (λ (x : X). HasStepped HasMetAt base first cache (questions_in done) (turns_in done) new start (seen x) rounds) (sym still)
      (subst (λ (convoy : ConvoyState). HasStepped HasMetAt base first cache (questions_in done) (turns_in done) convoy start (seen before) rounds) (sym same) (record { sides = sides; so = p }))))
  plays_on done (events.Ask query ∷ rest) old new before after lines rounds sides turns none p (between, adds, plays) =
      let whole : (done ++ events.Ask query ∷ []) ++ rest ≡ done ++ events.Ask query ∷ rest = append_assoc done (events.Ask query ∷ []) rest in
      let asked = asks base first cache (questions_in done) (turns_in done) query old between start (seen before) rounds sides
      (turns_of_clients done (turns_in_front done (events.Ask query ∷ rest) turns)) adds p added in
      subst (λ (all : List Event). HasStepped HasMetAt base first cache (questions_in all) (turns_in all) new start (seen after) (rounds ++ rounds_along seen rest between new before after lines plays)) whole
      (plays_on (done ++ events.Ask query ∷ []) rest between new before after lines rounds sides (subst TurnsAreOfClients (sym whole) turns) (All-tail IsNoMessage (events.Ask query) rest none)
      (subst (λ (questions : List Query). IsPlannedTo HasMetAt base first cache questions (turns_in (done ++ events.Ask query ∷ [])) between start (seen before) rounds sides)
      (sym (questions_in-append done (events.Ask query ∷ [])))
      (subst (λ (order : List ℕ). IsPlannedTo HasMetAt base first cache (questions_in done ++ query ∷ []) order between start (seen before) rounds sides) (sym (turns_behind_ask done query)) asked)) plays)
  plays_on done (events.Message message ∷ rest) old new before after lines rounds sides turns none p plays = absurd (All-head IsNoMessage (events.Message message) rest none)
  plays_on done (events.Turn client ∷ rest) old new before after lines rounds sides turns none p (between, link, turn, step, plays) =
      let whole : (done ++ events.Turn client ∷ []) ++ rest ≡ done ++ events.Turn client ∷ rest = append_assoc done (events.Turn client ∷ []) rest in
      let round = round_at turn (shown step.turned.was.client) (shown step.turned.is.client) in
      let later = rounds_along seen rest between new link after lines plays in
      let turned = turn_planned seen wants_stay base first cache start (questions_in done) keeps (turns_in done) client old between before link rounds sides turn p (turns done rest client refl) step in
      subst (HasStepped HasMetAt base first cache (questions_in (done ++ events.Turn client ∷ rest)) (turns_in (done ++ events.Turn client ∷ rest)) new start (seen after)) (append_assoc rounds (round ∷ []) later)
      (subst (λ (all : List Event). HasStepped HasMetAt base first cache (questions_in all) (turns_in all) new start (seen after) ((rounds ++ round ∷ []) ++ later)) whole
      (plays_on (done ++ events.Turn client ∷ []) rest between new link after lines (rounds ++ round ∷ []) turned.sides (subst TurnsAreOfClients (sym whole) turns)
      (All-tail IsNoMessage (events.Turn client) rest none)
      (subst (λ (questions : List Query). IsPlannedTo HasMetAt base first cache questions (turns_in (done ++ events.Turn client ∷ [])) between start (seen link) (rounds ++ round ∷ []) turned.sides)
      (sym (questions_behind_turn done client))
      (subst (λ (order : List ℕ). IsPlannedTo HasMetAt base first cache (questions_in done) order between start (seen link) (rounds ++ round ∷ []) turned.sides)
      (sym (turns_in-append done (events.Turn client ∷ []))) turned.so)) plays))

-- all clients have ended
module _ (base : BaseParts) (first : Side) (all : List Event) (cache n : ℕ) (ended : ConvoyState) (start after : LinkSeen) (ends : List ClientEnd) (rounds : List Round) (sides : List Side)
    (p : IsPlannedTo (HaveFinished n) base first cache (questions_in all) (order_of all) ended start after rounds sides) (count : n ≡ length (questions_in all))
    (have_ended : HaveEndedSo ended.members ends) (caused : AreCaused base all cache start.recorded after.recorded start.faults after.faults ends) (met_in : AreMetIn (order_of all) rounds caused.met) where
  within : (place n count : ℕ) → n ≡ count → place < count → place < n
  within place n count same lt = omega (arith, same)

  -- one client
  client_ends : (place : ℕ) (query : Query) (end : ClientEnd) (member : Member) (own : List Want) → slice_get (questions_in all) place ≡ Some query → slice_get ends place ≡ Some end → place < n →
      FitsSide p.last member.client own → HasEndedSo member end →
      IsMemberAt (HaveFinished n place) p.last query member own (rounds_of (place + 1) (order_of all) rounds) (sides_of (place + 1) (order_of all) sides) →
      EndsAt p.last query (rounds_of (place + 1) (order_of all) rounds) (sides_of (place + 1) (order_of all) sides) end
  client_ends place query end member own asked has lt fits so m =
      let mine : List Round = rounds_of (place + 1) (order_of all) rounds in
      let f : HasFinished mine (shown member.client).outcome = m.turns.finished lt in
      let outcome : HasEnded p.last (shown member.client) own (Some end.outcome) =
      subst (HasEnded p.last (shown member.client) own) so.outcome (at_end p.last member.client own member.client.phase f.ended fits.fits) in
      let is_ended : HasEnded p.last (shown_of query end) (given_in mine) (Some end.outcome) =
      subst (λ (l : List Want). HasEnded p.last (shown_of query end) l (Some end.outcome)) m.given_is
      (same_end p.last (shown member.client) (shown_of query end) own m.question (sym so.version) end.outcome outcome) in
      let in_vain : FailsWith p.last query end.version (given_in mine) (failed_in mine) end.outcome =
      subst (λ (v : Option ℕ). FailsWith p.last query v (given_in mine) (failed_in mine) end.outcome) (sym so.version)
      (subst (HasFailedSo p.last query (shown member.client).version (given_in mine) (failed_in mine)) so.outcome m.failed) in
      record {
        ended = is_ended;
        version = so.version ∙ m.version;
        exchanges = so.exchanges ∙ m.count;
        each = f.each;
        at_last = f.at_last;
        failed = in_vain;
        fits_fault =
            lacks_version p.last base query (place + 1) (order_of all) rounds caused.met start.faults after.faults met_in end end.outcome is_ended in_vain
            (caused.clients place query end asked has).ends;
      }

  clients : (place : ℕ) (query : Query) (end : ClientEnd) → slice_get (questions_in all) place ≡ Some query → slice_get ends place ≡ Some end →
      EndsAt p.last query (rounds_of (place + 1) (order_of all) rounds) (sides_of (place + 1) (order_of all) sides) end
  clients place query end asked has =
      let there = end_at ended.members ends place end have_ended has in
      let at = at_place p.last ended.members p.given place there.member p.fits.clients there.is in
      client_ends place query end there.member at.own asked has (within place n (length (questions_in all)) count (slice_get_within (questions_in all) place query asked)) at.fits there.so
      (p.members place query there.member at.own asked there.is at.is)

  pub are_planned : ArePlanned base first all cache start after ends caused.met
  are_planned = record {
    last = p.last;
    leaves = p.leaves;
    sides = sides;
    sides_are = record { one_each = p.sides_each; later = p.later; one_side = p.one_side };
    rounds = rounds;
    rounds_are = record { one_each = p.one_each; by_names = p.by_names; requests = p.requests; increased = p.increased; met_in = met_in };
    clients = clients;
  }

-- over every honest link
pub plans_right : {X : Type 0} (seen : X → LinkSeen) → NoneAgrees → AddedAgrees → WantsStay → TurnKeepsAgreement seen → EndKeepsAgreement seen → PlansRight seen
plans_right seen none_agrees added wants_stay keeps keeps_end base first all cache played ended start behind after lines ends turns none honest plays rounds have_ended caused met_in =
    let p = plays_on seen added wants_stay keeps base first cache (seen start) [] all (begun base cache) played start behind lines [] [] turns none (begins base first cache (seen start) none_agrees honest) plays in
    let front = rounds_along seen all (begun base cache) played start behind lines plays in
    let f = rounds_planned seen wants_stay base first cache (seen start) (questions_in all) keeps_end (turns_in all) (length played.members) played ended behind after front p.sides
    (up_to (length played.members) (length (questions_in all)) p.so.clients) p.so rounds in
    are_planned base first all cache (length played.members) ended (seen start) (seen after) ends (all_rounds seen all (begun base cache) played ended start behind after lines plays rounds) f.sides
    (subst (λ (n : ℕ). IsPlannedTo (HaveFinished (length played.members)) base first cache (questions_in all) (turns_in all ++ counted n) ended (seen start) (seen after)
    (all_rounds seen all (begun base cache) played ended start behind after lines plays rounds) f.sides) p.so.clients f.so) p.so.clients have_ended caused met_in where
      up_to : (n count : ℕ) → n ≡ count → n ≤ count
      up_to n count same = omega (arith, same)
