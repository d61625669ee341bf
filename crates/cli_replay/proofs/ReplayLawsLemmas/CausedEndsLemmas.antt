-- The ends of an event sequence over any link: each has its cause and can be printed.
use Rattle.std.proofs.Common.{◌≡◌, ◌∙◌, ◌+◌, ◌<◌, ◌≤◌, ℕ, zero, suc, List, [], ◌∷◌, ◌++◌, Option, Some, ap, arith, length, refl, subst, sym}
use Rattle.std.specs.Prelude.{IsSome}
use Rattle.std.specs.List.{All, slice_get}
use Rattle.std.proofs.lemmas.List.Elements.{All-cons, All-nil}
use Rattle.std.proofs.lemmas.Option.{slice_get_within}
use Rattle.cli_ask.specs.Block.{IsPrintable}
use Rattle.cli_ask.specs.declared.end.ClientEnd.{ClientEnd}
use Rattle.convoy.specs.Replies.Ends.{EndsBy}
use Rattle.convoy.specs.Replies.Made.{Made}
use Rattle.convoy.specs.Replies.Met.{Met, met_by}
use Rattle.convoy.proofs.RepliesLemmas.ClientsLemmas.{AreSo, IsClientSo, are_begun, has_ended}
use Rattle.convoy.proofs.RepliesLemmas.StepLemmas.{AtEnd}
use Rattle.connection_uri.specs.Base.{BaseParts}
use Rattle.convoy.specs.State.{ConvoyState, begun}
use Rattle.convoy.specs.declared.member.Member.{Member}
use Rattle.convoy.specs.Agreement.Rounds.{rounds_up_to}
use Rattle.csa_scan.proofs.ListPlacesLemmas.{item_within}
use Rattle.lc_model.specs.Journey.{arrives_at}
use Rattle.lc_model.specs.declared.moment.TheConstants.{MOMENTS_END}
use Rattle.lc_model.specs.declared.query.Query.{Query}
use Rattle.lc_model.specs.declared.query.TheConstants.{LAST_LEAVE}
use Rattle.lc_world.specs.Link.{LinkSeen}
use Rattle.page_client.specs.Client.{shown}
use Rattle.page_client.specs.declared.outcome.Outcome.{Outcome}
use Rattle.page_client.specs.declared.outcome.Outcome.TheVariants as outcomes
use Rattle.cli_replay.specs.ReplayLaws.Caused.{EndsByMet}
use Rattle.cli_replay.specs.ReplayLaws.Events.{questions_in, turns_in}
use Rattle.cli_replay.specs.ReplayLaws.History.{AreMetIn}
use Rattle.cli_replay.specs.ReplayLaws.Played.{HasEndedSo, HaveEndedSo}
use Rattle.cli_replay.specs.ReplayLaws.Turns.{counted}
use Rattle.cli_replay.specs.ReplayLaws.Laws.{PlaysCaused}
use Rattle.cli_replay.specs.ReplayLaws.Rounds.{rounds_along}
use Rattle.cli_replay.proofs.ReplayLawsLemmas.CausedCourseLemmas.{AreFromOne, HadRounds, Played, are_played, had_rounds}
use Rattle.cli_replay.proofs.ReplayLawsLemmas.EventLemmas.{AreClients, turns_of_clients}
use Rattle.cli_replay.proofs.ReplayLawsLemmas.HistoryLemmas.{met_in-append}

-- each client has its end
one_end_each : (members : List Member) (ends : List ClientEnd) → HaveEndedSo members ends → length ends ≡ length members
one_end_each [] [] have = refl
one_end_each [] (end ∷ ends) have = absurd have
one_end_each (member ∷ others) [] have = absurd have
one_end_each (member ∷ others) (end ∷ ends) have = ap suc (one_end_each others ends have.1)

-- the client whose end is at a place
record IsEndAt (members : List Member) (end : ClientEnd) (place : ℕ) : Type 0 where
  member : Member
  is : slice_get members place ≡ Some member
  ended : HasEndedSo member end

end_at : (members : List Member) (ends : List ClientEnd) (place : ℕ) (end : ClientEnd) → HaveEndedSo members ends → slice_get ends place ≡ Some end → IsEndAt members end place
end_at [] [] place end have is = absurd (cc)
end_at [] (first ∷ ends) place end have is = absurd have
end_at (member ∷ others) [] place end have is = absurd have
end_at (member ∷ others) (first ∷ ends) zero end have is =
    let same : first ≡ end = cc in
    subst (λ (e : ClientEnd). IsEndAt (member ∷ others) e zero) same (record { member = member; is = refl; ended = have.0 })
end_at (member ∷ others) (first ∷ ends) (suc place) end have is =
    let rest = end_at others ends place end have.1 is in
    record { member = rest.member; is = rest.is; ended = rest.ended }

-- within a week of any moment of leaving there are only moments
within_a_week : (arrival leave horizon : ℕ) → horizon ≤ 604_800 → leave ≤ LAST_LEAVE → arrival ≤ leave + horizon → arrival < MOMENTS_END
within_a_week arrival leave horizon week not_after in_time = omega arith

-- how a client ended can be printed
printable : (base : BaseParts) (query : Query) (before now : ℕ) (version : Option ℕ) (made : List Made) (outcome : Outcome) → EndsBy base query before now version made outcome → IsPrintable outcome
printable base query before now version made (outcomes.Found journey) ends = within_a_week (arrives_at journey) query.leave query.horizon ends.accepted.0.up_to_a_week query.not_after ends.in_time
printable base query before now version made outcomes.NoJourney ends = tt
printable base query before now version made (outcomes.Refused fault) ends = tt
printable base query before now version made (outcomes.LinkFault low high) ends = tt
printable base query before now version made (outcomes.PeerWrong reply fault) ends = tt

-- what holds at each place holds of each
all_places : {X : Type 0} (P : X → Type 0) (xs : List X) → ((place : ℕ) (x : X) → slice_get xs place ≡ Some x → P x) → All P xs
all_places P [] each = All-nil P
all_places P (x ∷ xs) each = All-cons P x xs (each zero x refl) (all_places P xs (λ place y is. each (suc place) y is))

-- one outcome
one_outcome : (outcome : Option Outcome) (a b : Outcome) → outcome ≡ Some a → outcome ≡ Some b → a ≡ b
one_outcome outcome a b is_a is_b = (let both : Some a ≡ Some b = sym is_a ∙ is_b in cc)

module _ (base : BaseParts) (cache : ℕ) (questions : List Query) (first now : LinkSeen) (convoy : ConvoyState) (met : List Met) (ends : List ClientEnd) (so : AreSo base cache questions first now convoy met)
    (have : HaveEndedSo convoy.members ends) where
  one_each : length ends ≡ length questions
  one_each = one_end_each convoy.members ends have ∙ so.clients

  ends_at : (place : ℕ) (query : Query) (end : ClientEnd) → slice_get questions place ≡ Some query → slice_get ends place ≡ Some end → EndsByMet base query first.faults now.faults (place + 1) met end
  ends_at place query end asks is =
      let at = end_at convoy.members ends place end have is in
      let client : IsClientSo base query first.faults now.faults at.member (suc place) met = so.members place query at.member asks at.is in
      let so_far : List Made = met_by (suc place) met in
      let some : IsSome (shown at.member.client).outcome = subst (λ (o : Option Outcome). IsSome o) (sym at.ended.outcome) refl in
      let e : AtEnd base first.faults now.faults (shown at.member.client) so_far =
      has_ended base first.faults now.faults at.member.client so_far (shown at.member.client) (shown at.member.client).phase client.at some in
      let same : e.outcome ≡ end.outcome = one_outcome (shown at.member.client).outcome e.outcome end.outcome e.ended at.ended.outcome in
      let number : suc place ≡ place + 1 = omega arith in
      subst (λ (n : ℕ). EndsByMet base query first.faults now.faults n met end) number
      (record {
        ends = subst (λ (q : Query). EndsBy base q first.faults now.faults end.version so_far end.outcome) client.question
            (subst (λ (v : Option ℕ). EndsBy base (shown at.member.client).query first.faults now.faults v so_far end.outcome) (sym at.ended.version)
            (subst (EndsBy base (shown at.member.client).query first.faults now.faults (shown at.member.client).version so_far) same e.ends));
        exchanges = at.ended.exchanges ∙ client.counted;
        fault = λ low high is. client.fault low high (at.ended.outcome ∙ ap Some is);
      })

  printable_at : (place : ℕ) (end : ClientEnd) → slice_get ends place ≡ Some end → IsPrintable end.outcome
  printable_at place end is =
      let within : place < length ends = slice_get_within ends place end is in
      let asks = item_within questions place (let same = one_each in omega arith) in
      printable base asks.0 first.faults now.faults end.version (met_by (place + 1) met) end.outcome (ends_at place asks.0 end asks.1 is).ends

-- turns of clients are of clients from 1 on
from_one : (count : ℕ) (turns : List ℕ) → AreClients count turns → AreFromOne turns
from_one count [] are = All-nil (λ (client : ℕ). 1 ≤ client)
from_one count (client ∷ turns) are = All-cons (λ (c : ℕ). 1 ≤ c) client turns are.0.from_one (from_one count turns are.1)

pub courses_caused : {X : Type 0} (seen : X → LinkSeen) → PlaysCaused seen
courses_caused seen base all cache played ended start behind after lines ends turns plays rounds have =
    let front = rounds_along seen all (begun base cache) played start behind lines plays in
    let rest = rounds_up_to seen (length played.members) played ended behind after rounds in
    let p : Played base cache (questions_in all) (seen start) (seen behind) (turns_in all) front (begun base cache) played [] =
    are_played seen base cache (seen start) all [] (begun base cache) played start behind lines [] (from_one (length (questions_in all)) (turns_in all) (turns_of_clients all turns)) (are_begun base cache (seen start)) plays in
    let r : HadRounds seen base cache (seen start) (questions_in all) (length played.members) rest played ended (seen after) p.more =
    had_rounds seen base cache (seen start) (questions_in all) (length played.members) played ended behind after p.more p.so rounds in
    let met : List Met = p.more ++ r.more in
    record {
      one_each = one_each base cache (questions_in all) (seen start) (seen after) ended met ends r.so have;
      caused = record {
        met = met;
        in_turns = p.in_turns r.more r.by_number r.goes.none;
        by_replies = r.so.met;
        cached = record { now = ended.kept; along = r.so.cached };
        clients = ends_at base cache (questions_in all) (seen start) (seen after) ended met ends r.so have;
      };
      met_in =
          met_in-append (turns_in all) (counted (length (questions_in all))) front rest p.more r.more p.met_in
          (subst (λ (n : ℕ). AreMetIn (counted n) rest r.more) p.so.clients r.met_in);
      printable = all_places (λ (end : ClientEnd). IsPrintable end.outcome) ends (printable_at base cache (questions_in all) (seen start) (seen after) ended met ends r.so have);
      clear = r.so.grown.clear;
      not_fallen = r.so.grown.not_fallen;
    }
