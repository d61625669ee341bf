-- Two plans of one script in which each client received the same result in the same.
use Rattle.std.proofs.Common.{◌≡◌, ◌∙◌, ◌+◌, ◌<◌, ℕ, zero, suc, List, [], Some, ap, arith, length, subst, sym}
use Rattle.std.specs.List.{AllZip, slice_get}
use Rattle.std.proofs.lemmas.Option.{slice_get_within}
use Rattle.cli_ask.specs.Laws.{AreOneEnd}
use Rattle.cli_ask.specs.declared.end.ClientEnd.{ClientEnd}
use Rattle.connection_uri.specs.Base.{BaseParts}
use Rattle.csa_scan.proofs.ListPlacesLemmas.{item_within}
use Rattle.convoy.specs.Agreement.Names.{Round}
use Rattle.cli_replay.specs.PlanLaws.Planned.{ArePlanned}
use Rattle.cli_replay.proofs.ReplayLawsLemmas.OneCourseLemmas.{all_are_clients, zip_places}
use Rattle.cli_replay.proofs.ReplayLawsLemmas.OneRoundsLemmas.{MetTheSame, met_in_all, same_rounds}
use Rattle.cli_replay.specs.ReplayLaws.Events.{TurnsAreOfClients, questions_in}
use Rattle.cli_replay.specs.ReplayLaws.Turns.{asked_in, order_of, rounds_of}
use Rattle.cli_replay.specs.declared.replay_laws.event.Event.{Event}
use Rattle.convoy.specs.Replies.Laws.{SayTheSame}
use Rattle.convoy.specs.Replies.Met.{Met}
use Rattle.lc_model.specs.declared.query.Query.{Query}
use Rattle.lc_world.specs.Link.{LinkSeen}
use Rattle.lc_world.specs.Sides.Side.{Side}
use Rattle.journey_text.specs.Script.{IsClient}

-- the ends of one client in two plans, and what it received in its turns
pub record EndAlike (d e : ClientEnd) (rs ts : List Round) : Type 0 where
  pub version : d.version ≡ e.version
  pub outcome : SayTheSame d.outcome e.outcome
  pub met : AllZip MetTheSame rs ts

module _ (base : BaseParts) (first second : Side) (all : List Event) (cache : ℕ) (before after other later : LinkSeen) (ends other_ends : List ClientEnd) (met other_met : List Met)
    (turns : TurnsAreOfClients all) (p : ArePlanned base first all cache before after ends met) (q : ArePlanned base second all cache other later other_ends other_met)
    (each : length ends ≡ length (questions_in all)) (other_each : length other_ends ≡ length (questions_in all))
    (client_at : (place : ℕ) (query : Query) (d e : ClientEnd) → slice_get (questions_in all) place ≡ Some query → slice_get ends place ≡ Some d → slice_get other_ends place ≡ Some e
    → EndAlike d e (rounds_of (place + 1) (order_of all) p.rounds) (rounds_of (place + 1) (order_of all) q.rounds)) where
  abbrev order : List ℕ
  order = order_of all

  met_by : (client : ℕ) → IsClient (length (questions_in all)) client → AllZip MetTheSame (rounds_of client order p.rounds) (rounds_of client order q.rounds)
  met_by zero is = absurd (let never = is.from_one in omega arith)
  met_by (suc place) is =
      let asks = item_within (questions_in all) place (let up_to = is.at_most in omega arith) in
      let ended = item_within ends place (let up_to = is.at_most in let many = each in omega arith) in
      let other_ended = item_within other_ends place (let up_to = is.at_most in let many = other_each in omega arith) in
      let number : place + 1 ≡ suc place = omega arith in
      subst (λ (client : ℕ). AllZip MetTheSame (rounds_of client order p.rounds) (rounds_of client order q.rounds)) number
      (client_at place asks.0 ended.0 other_ended.0 asks.1 ended.1 other_ended.1).met

  -- the turns are the same in both plans
  rounds : p.rounds ≡ q.rounds
  rounds =
      same_rounds cache [] p.rounds q.rounds
      (met_in_all (length (questions_in all)) order p.rounds q.rounds p.rounds_are.one_each q.rounds_are.one_each (all_are_clients all turns) met_by)
      p.rounds_are.by_names q.rounds_are.by_names

  end_at : (place : ℕ) (d e : ClientEnd) → slice_get ends place ≡ Some d → slice_get other_ends place ≡ Some e → AreOneEnd d e
  end_at place d e is other_is =
      let within : place < length ends = slice_get_within ends place d is in
      let asks = item_within (questions_in all) place (let many = each in omega arith) in
      let end = client_at place asks.0 d e asks.1 is other_is in
      record {
        version = end.version;
        outcome = end.outcome;
        exchanges =
            (p.clients place asks.0 d asks.1 is).exchanges ∙ ap (λ (rs : List Round). length (asked_in (rounds_of (place + 1) order rs))) rounds
            ∙ sym ((q.clients place asks.0 e asks.1 other_is).exchanges);
      }

  pub come_to_one : AllZip AreOneEnd ends other_ends
  come_to_one = zip_places AreOneEnd ends other_ends (each ∙ sym other_each) end_at
