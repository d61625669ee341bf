-- An event sequence that was played rightly, after which each client reached its outcome, was played rightly to its end.
use Rattle.std.proofs.Common.{◌≡◌, ℕ, zero, suc, ◌+◌, ◌<◌, List, [], ◌∷◌, ◌++◌, length, Some, refl, ap, ap₂, sym, subst, ◌∙◌, length-append}
use Rattle.std.specs.List.{slice_get}
use Rattle.std.proofs.lemmas.Option.{slice_get_within}
use Rattle.cli_ask.specs.Publishing.{side_with}
use Rattle.cli_ask.specs.declared.end.ClientEnd.{ClientEnd}
use Rattle.convoy.specs.Replies.Met.{Met}
use Rattle.cli_words.specs.declared.command.Publishing.{Publishing}
use Rattle.connection_uri.specs.Base.{BaseParts}
use Rattle.convoy.specs.Finish.{Rounds}
use Rattle.convoy.specs.State.{ConvoyState}
use Rattle.convoy.specs.declared.member.Member.{Member}
use Rattle.convoy.specs.Agreement.Laws.{RoundsKeepAgreement}
use Rattle.convoy.specs.Agreement.Leaves.{HasReachedOutcome, AgreesAfterRounds}
use Rattle.convoy.specs.Agreement.Names.{AskByNames, Round, failures_in, names_of}
use Rattle.convoy.specs.Agreement.Requests.{TellsRequests, requests_of}
use Rattle.convoy.specs.Agreement.Rounds.{rounds_up_to}
use Rattle.convoy.proofs.AgreementLemmas.PlaceLemmas.{at_place}
use Rattle.convoy.proofs.AgreementLemmas.TurnLemmas.{honest_still, one_at}
use Rattle.csa_scan.proofs.ListPlacesLemmas.{item_within}
use Rattle.lc_io.specs.Counts.{RoseBy}
use Rattle.lc_io.proofs.CountLemmas.{RoseBy-then}
use Rattle.lc_model.specs.declared.page.PageName.{PageName}
use Rattle.lc_model.specs.declared.query.Query.{Query}
use Rattle.lc_world.specs.Link.{LinkSeen}
use Rattle.page_client.specs.Client.{shown}
use Rattle.lc_world.specs.Sides.Side.{Side}
use Rattle.timetable.specs.declared.timetable.Timetable.{Timetable}
use Rattle.cli_replay.specs.ReplayLaws.Events.{questions_in, turns_in}
use Rattle.cli_replay.specs.ReplayLaws.History.{AreMetIn}
use Rattle.cli_replay.specs.ReplayLaws.Played.{HasEndedSo, HaveEndedSo}
use Rattle.cli_replay.specs.ReplayLaws.Replied.{TellsOwn}
use Rattle.cli_replay.specs.ReplayLaws.Right.{ArePlayedRight, EndsSo}
use Rattle.cli_replay.specs.ReplayLaws.Turns.{counted, order_of, requests_in, rounds_of}
use Rattle.cli_replay.specs.declared.replay_laws.event.Event.{Event}
use Rattle.cli_replay.proofs.ReplayLawsLemmas.EventLemmas.{ask_by_names-append, failures_in-append, requests_in-append, requests_then, rounds_of-append}
use Rattle.cli_replay.proofs.ReplayLawsLemmas.FinishesClientLemmas.{ends_so}
use Rattle.cli_replay.proofs.ReplayLawsLemmas.FinishesListLemmas.{length-counted, no_turn, own_round, requests_counted}
use Rattle.cli_replay.proofs.ReplayLawsLemmas.PlayedTo.{IsMemberSo, IsPlayedTo}

-- the client that ended so
pub record HasThere (members : List Member) (place : ℕ) (end : ClientEnd) : Type 0 where
  pub member : Member
  pub is : slice_get members place ≡ Some member
  pub so : HasEndedSo member end

pub end_at : (members : List Member) (ends : List ClientEnd) (place : ℕ) (end : ClientEnd) → HaveEndedSo members ends → slice_get ends place ≡ Some end → HasThere members place end
end_at [] [] place end so has = absurd (cc)
end_at [] (first ∷ ends) place end so has = absurd so
end_at (member ∷ members) [] place end so has = absurd so
end_at (member ∷ members) (first ∷ ends) zero end so has =
    let same : first ≡ end = cc in
    record { member = member; is = refl; so = subst (HasEndedSo member) same so.0 }
end_at (member ∷ members) (first ∷ ends) (suc place) end so has =
    let rest = end_at members ends place end so.1 has in
    record { member = rest.member; is = rest.is; so = rest.so }

module _ (made : Timetable) (publishing : Publishing) (cache : ℕ) (all : List Event) (played ended : ConvoyState) (start behind after : LinkSeen) (lines : List ℕ) (ends : List ClientEnd)
    (met : List Met) (front rest : List Round) (p : IsPlayedTo made publishing cache all played start behind lines front)
    (r : AgreesAfterRounds (side_with made publishing p.store) played ended p.given (length played.members) behind after rest) (have_ended : HaveEndedSo ended.members ends)
    (met_in : AreMetIn (order_of all) (front ++ rest) met) (replied : TellsOwn made publishing all (front ++ rest) start.recorded after.recorded) where
  abbrev side : Side
  side = side_with made publishing p.store

  abbrev rounds : List Round
  rounds = front ++ rest

  -- the link is quiet, so its side is the same
  same_side : r.left ≡ side
  same_side = r.honest.same (subst behind.quiet (sym p.base) p.quiet.quiet)

  one_each : length rounds ≡ length (order_of all)
  one_each =
      length-append front rest
      ∙ ap₂ (λ (m n : ℕ). m + n) p.one_each (r.one_each ∙ p.clients ∙ sym (length-counted (length (questions_in all))))
      ∙ sym (length-append (turns_in all) (counted (length (questions_in all))))

  by_names : AskByNames cache [] rounds
  by_names =
      ask_by_names-append cache [] front rest p.by_names
      (subst (λ (names : List PageName). AskByNames cache names rest) p.names (subst (λ (capacity : ℕ). AskByNames capacity (names_of played.kept.pages) rest) p.capacity r.by_names))

  -- the question of each client
  question_at : (place : ℕ) (member : Member) → slice_get played.members place ≡ Some member → slice_get (questions_in all) place ≡ Some (shown member.client).query
  question_at place member has =
      let within = slice_get_within played.members place member has in
      let asked = item_within (questions_in all) place (subst (λ (n : ℕ). place < n) p.clients within) in
      let at = at_place side played.members p.given place member p.fits.clients has in
      let m = p.members place asked.0 member at.own asked.1 has at.is in
      asked.1 ∙ ap Some (sym m.question)

  tells : TellsRequests start.recorded after.recorded publishing.base.authority (requests_in publishing.base (questions_in all) (order_of all) rounds)
  tells =
      let own : requests_in publishing.base (questions_in all) (counted (length (questions_in all))) rest ≡ requests_of publishing.base played.members rest =
      requests_counted publishing.base (questions_in all) (length (questions_in all)) played.members rest p.clients question_at in
      let recorded : TellsRequests behind.recorded after.recorded publishing.base.authority (requests_of publishing.base played.members rest) =
      subst (λ (base : BaseParts). TellsRequests behind.recorded after.recorded base.authority (requests_of base played.members rest)) p.base r.recorded in
      subst (TellsRequests start.recorded after.recorded publishing.base.authority)
      (ap (λ (l : List (List ℕ)). requests_in publishing.base (questions_in all) (turns_in all) front ++ l) (sym own)
      ∙ sym (requests_in-append publishing.base (questions_in all) (turns_in all) (counted (length (questions_in all))) front rest p.one_each))
      (requests_then start.recorded behind.recorded after.recorded publishing.base.authority (requests_in publishing.base (questions_in all) (turns_in all) front) (requests_of publishing.base played.members rest)
      p.tells recorded)

  rose : RoseBy (failures_in rounds) start.faults after.faults
  rose =
      subst (λ (n : ℕ). RoseBy n start.faults after.faults) (sym (failures_in-append front rest))
      (RoseBy-then (failures_in front) (failures_in rest) start.faults behind.faults after.faults p.rose r.faults)

  -- each client
  client_ends : (place : ℕ) (query : Query) (end : ClientEnd) (was : Member) → slice_get (questions_in all) place ≡ Some query → slice_get ends place ≡ Some end → slice_get played.members place ≡ Some was →
      HasReachedOutcome side side was ended p.given r.now rest place behind after → EndsSo made publishing all side (place + 1) query (rounds_of (place + 1) (order_of all) rounds) end
  client_ends place query end was asked has had came =
      let there = end_at ended.members ends place end have_ended has in
      let so : HasEndedSo came.is end = subst (λ (m : Member). HasEndedSo m end) (one_at ended.members place there.member came.is there.is came.has) there.so in
      let m : IsMemberSo made publishing all side (place + 1) query was came.own (rounds_of (place + 1) (turns_in all) front) = p.members place query was came.own asked had came.own_is in
      let own : rounds_of (place + 1) (counted (length (questions_in all))) rest ≡ came.round ∷ [] =
      own_round (length (questions_in all)) place rest came.round (r.one_each ∙ p.clients) came.round_is in
      let are : rounds_of (place + 1) (order_of all) rounds ≡ rounds_of (place + 1) (turns_in all) front ++ came.round ∷ [] =
      rounds_of-append (place + 1) (turns_in all) (counted (length (questions_in all))) front rest p.one_each
      ∙ ap (λ (l : List Round). rounds_of (place + 1) (turns_in all) front ++ l) own in
      subst (λ (l : List Round). EndsSo made publishing all side (place + 1) query l end) (sym are)
      (ends_so made publishing all p.store lines (place + 1) query was ended p.given r.now rest place behind after (rounds_of (place + 1) (turns_in all) front) end p.heard came m so
      (λ none. no_turn (place + 1) all front p.one_each none))

  clients : (place : ℕ) (query : Query) (end : ClientEnd) → slice_get (questions_in all) place ≡ Some query → slice_get ends place ≡ Some end →
      EndsSo made publishing all side (place + 1) query (rounds_of (place + 1) (order_of all) rounds) end
  clients place query end asked has =
      let within : place < length played.members = subst (λ (n : ℕ). place < n) (sym p.clients) (slice_get_within (questions_in all) place query asked) in
      let was = item_within played.members place within in
      client_ends place query end was.0 asked has was.1
      (subst (λ (left : Side). HasReachedOutcome side left was.0 ended p.given r.now rest place behind after) same_side (r.came place was.0 within was.1))

  pub rounds_finish : ArePlayedRight made publishing all cache start.recorded after.recorded start.faults after.faults lines ends met
  rounds_finish = record {
    store = p.store;
    heard = p.heard;
    rounds = rounds;
    one_each = one_each;
    by_names = by_names;
    tells = tells;
    replied = replied;
    rose = rose;
    met_in = met_in;
    clients = clients;
  }

-- all clients were turned to their outcomes after an event sequence
pub finishes :
    {X : Type 0} (seen : X → LinkSeen) (made : Timetable) (publishing : Publishing) (cache : ℕ) (all : List Event) (played ended : ConvoyState) (start : LinkSeen) (behind after : X) (lines : List ℕ)
    (ends : List ClientEnd) (met : List Met) (front : List Round) → IsPlayedTo made publishing cache all played start (seen behind) lines front →
    (rounds : Rounds seen (length played.members) played ended behind after) → HaveEndedSo ended.members ends →
    AreMetIn (order_of all) (front ++ rounds_up_to seen (length played.members) played ended behind after rounds) met →
    TellsOwn made publishing all (front ++ rounds_up_to seen (length played.members) played ended behind after rounds) start.recorded (seen after).recorded → RoundsKeepAgreement seen →
    ArePlayedRight made publishing all cache start.recorded (seen after).recorded start.faults (seen after).faults lines ends met
finishes seen made publishing cache all played ended start behind after lines ends met front p rounds have_ended met_in replied keeps =
    let honest = honest_still publishing.base played.base (side_with made publishing p.store) (seen behind) p.base p.quiet.as_honest in
    rounds_finish made publishing cache all played ended start (seen behind) (seen after) lines ends met front (rounds_up_to seen (length played.members) played ended behind after rounds) p
    (keeps (side_with made publishing p.store) played ended p.given (length played.members) behind after honest p.fits rounds) have_ended met_in replied
