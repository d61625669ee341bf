-- Two plans over quiet links with one side result in the same.
use Rattle.std.proofs.Common.{◌≡◌, ◌∙◌, ◌==◌, ◌+◌, ℕ, suc, Bool, true, false, List, [], ◌∷◌, ◌++◌, Option, Some, None, ap, arith, length, refl, subst, sym}
use Rattle.std.specs.List.{All, AllZip, slice_get}
use Rattle.std.specs.Prelude.{if◌then◌else◌}
use Rattle.std.proofs.lemmas.List.Elements.{All-cons, All-head, All-nil, All-tail}
use Rattle.cli_ask.proofs.OneAnswerLemmas.{alike}
use Rattle.cli_ask.specs.Client.{shown_of}
use Rattle.cli_ask.specs.Laws.{AreOneEnd, IsNoLinkFault}
use Rattle.cli_ask.specs.declared.end.ClientEnd.{ClientEnd}
use Rattle.connection_uri.specs.Base.{BaseParts}
use Rattle.convoy.specs.ClientLaws.Fits.{HasEnded, IsDenied}
use Rattle.convoy.specs.ClientLaws.Laws.{OneArrivalAt, OneListOfNeededAt}
use Rattle.convoy.specs.ClientLaws.Wants.{wants_of}
use Rattle.convoy.proofs.AgreementLemmas.AloneLemmas.{BeginsAtGate}
use Rattle.convoy.specs.Agreement.Names.{Round}
use Rattle.convoy.specs.Agreement.OneClient.{version_of}
use Rattle.cli_replay.proofs.PlanLawsLemmas.EachAlikeLemmas.{EndAlike, come_to_one}
use Rattle.cli_replay.proofs.PlanLawsLemmas.SidesLemmas.{as_many_sides}
use Rattle.cli_replay.specs.PlanLaws.OnePlan.{IsQuietPlan, OnePlan}
use Rattle.cli_replay.specs.PlanLaws.Planned.{EndsAt}
use Rattle.cli_replay.specs.PlanLaws.Sides.{sides_of, version_after, version_with}
use Rattle.cli_replay.proofs.ReplayLawsLemmas.OneCourseLemmas.{at_place, none_failed}
use Rattle.cli_replay.proofs.ReplayLawsLemmas.OneRoundsLemmas.{as_many_rounds, met_the_same}
use Rattle.cli_replay.specs.ReplayLaws.Events.{TurnsAreOfClients, questions_in}
use Rattle.cli_replay.specs.ReplayLaws.Turns.{failed_in, given_in, order_of, rounds_of}
use Rattle.cli_replay.specs.declared.replay_laws.event.Event.{Event}
use Rattle.convoy.specs.Replies.Met.{Met}
use Rattle.convoy.specs.ClientLaws.Stated.{version_at}
use Rattle.lc_model.specs.declared.page.PageName.{PageName}
use Rattle.lc_model.specs.declared.query.Query.{Query}
use Rattle.lc_world.specs.Link.{LinkSeen}
use Rattle.page_client.specs.Shown.{Shown}
use Rattle.page_client.specs.declared.fault.QueryFault.{QueryFault}
use Rattle.page_client.specs.declared.fault.QueryFault.TheVariants.{HorizonRange, SameStop, UnknownFrom, UnknownTo}
use Rattle.page_client.specs.declared.outcome.Outcome.{Outcome}
use Rattle.page_client.specs.declared.outcome.Outcome.TheVariants as outcomes
use Rattle.page_client.specs.declared.want.Want.{Want}
use Rattle.page_client.specs.declared.want.Want.TheVariants as wants
use Rattle.lc_world.specs.Sides.Side.{Side}

-- a client that ended received the time gate's reply first, if anything

of_none : (given : List Want) → given ≡ [] → BeginsAtGate given
of_none given none = subst BeginsAtGate (sym none) tt

of_wants : (given : List Want) (names : List PageName) → given ≡ wants_of names → BeginsAtGate given
of_wants given names are = subst BeginsAtGate (sym are) refl

of_denied : (side : Side) (s : Shown) (given : List Want) (fault : QueryFault) → IsDenied side s given fault → BeginsAtGate given
of_denied side s given HorizonRange denied = of_none given denied.given
of_denied side s given SameStop denied = of_none given denied.given
of_denied side s given UnknownFrom denied = of_wants given [] denied.given
of_denied side s given UnknownTo denied = of_wants given [] denied.given

pub gate_first : (side : Side) (s : Shown) (given : List Want) (outcome : Outcome) → HasEnded side s given (Some outcome) → IsNoLinkFault outcome → BeginsAtGate given
gate_first side s given (outcomes.Found journey) ended fine = of_wants given ended.names ended.given
gate_first side s given outcomes.NoJourney ended fine = of_wants given ended.names ended.given
gate_first side s given (outcomes.Refused fault) ended fine = of_denied side s given fault ended
gate_first side s given (outcomes.LinkFault low high) ended fine = absurd fine
gate_first side s given (outcomes.PeerWrong reply fault) ended fine = absurd ended

-- at one side the version is the one that the question means there

abbrev Is : Side → Side → Type 0
Is side other = other ≡ side

still_named : (side other : Side) (known : Option ℕ) (given : List Want) → other ≡ side → version_with other known given (Some (version_at side known)) ≡ Some (version_at side known)
still_named side other known [] same = refl
still_named side other known (wants.Gate ∷ more) same = ap (λ (s : Side). Some (version_at s known)) same
still_named side other known (wants.Stops ∷ more) same = refl
still_named side other known (wants.Page name ∷ more) same = refl
still_named side other known (wants.Finished ∷ more) same = refl

stays_named : (side : Side) (known : Option ℕ) (rounds : List Round) (sides : List Side) → All (Is side) sides → version_after known rounds sides (Some (version_at side known)) ≡ Some (version_at side known)
stays_named side known [] sides all = refl
stays_named side known (round ∷ rounds) [] all = refl
stays_named side known (round ∷ rounds) (other ∷ sides) all =
    ap (version_after known rounds sides) (still_named side other known round.given (All-head (Is side) other sides all)) ∙ stays_named side known rounds sides (All-tail (Is side) other sides all)

none_is_some : (a : ℕ) → 0 ≡ suc a → ⊥
none_is_some a same = omega arith

same_rest : (a b : ℕ) → suc a ≡ suc b → a ≡ b
same_rest a b same = omega arith

one_version : (side : Side) (query : Query) (rounds : List Round) (sides : List Side) → length rounds ≡ length sides → All (Is side) sides → BeginsAtGate (given_in rounds) →
    version_after query.known rounds sides None ≡ version_of side query (given_in rounds)
one_version side query [] sides many all begins = refl
one_version side query (round ∷ rounds) [] many all begins = absurd (none_is_some (length rounds) (sym many))
one_version side query (round ∷ rounds) (other ∷ sides) many all begins =
    by_given (λ (rest_begins : BeginsAtGate (given_in rounds)). one_version side query rounds sides (same_rest (length rounds) (length sides) many) (All-tail (Is side) other sides all) rest_begins) round.given
    refl begins where
      by_given : (BeginsAtGate (given_in rounds) → version_after query.known rounds sides None ≡ version_of side query (given_in rounds)) → (given : List Want) → round.given ≡ given →
          BeginsAtGate (given ++ given_in rounds) →
          version_after query.known rounds sides (version_with other query.known given None) ≡ version_of side query (given ++ given_in rounds)
      by_given again [] is front = again front
      by_given again (wants.Gate ∷ more) is front =
          ap (λ (s : Side). version_after query.known rounds sides (Some (version_at s query.known))) (All-head (Is side) other sides all)
          ∙ stays_named side query.known rounds sides (All-tail (Is side) other sides all)
      by_given again (wants.Stops ∷ more) is front = absurd (cc)
      by_given again (wants.Page name ∷ more) is front = absurd (cc)
      by_given again (wants.Finished ∷ more) is front = absurd (cc)

-- the sides of a client are among all
all_of : (P : Side → Type 0) (client : ℕ) (order : List ℕ) (sides : List Side) → All P sides → All P (sides_of client order sides)
all_of P client [] sides all = All-nil P
all_of P client (other ∷ order) [] all = All-nil P
all_of P client (other ∷ order) (side ∷ sides) all =
    let rest = all_of P client order sides (All-tail P side sides all) in
    elim (other == client) as (λ (b : Bool). All P (if b then side ∷ sides_of client order sides else sides_of client order sides)) [
      | true ↦ All-cons P side (sides_of client order sides) (All-head P side sides all) rest
      | false ↦ rest
    ]

module _ (one_arrival : OneArrivalAt) (one_needed : OneListOfNeededAt) (side : Side) where
  one_client : (query : Query) (rs ts : List Round) (at to : List Side) (d e : ClientEnd) → EndsAt side query rs at d → EndsAt side query ts to e → length rs ≡ length ts → length rs ≡ length at →
      length ts ≡ length to → All (Is side) at → All (Is side) to → IsNoLinkFault d.outcome → IsNoLinkFault e.outcome → EndAlike d e rs ts
  one_client query rs ts at to d e x y many at_many to_many at_all to_all f i =
      let first : d.version ≡ version_of side query (given_in rs) =
      x.version ∙ one_version side query rs at at_many at_all (gate_first side (shown_of query d) (given_in rs) d.outcome x.ended f) in
      let second : e.version ≡ version_of side query (given_in ts) =
      y.version ∙ one_version side query ts to to_many to_all (gate_first side (shown_of query e) (given_in ts) e.outcome y.ended i) in
      let end = alike one_arrival one_needed side side query d e (given_in rs) (given_in ts) first second d.outcome e.outcome x.ended y.ended f i in
      record {
        version = first ∙ ap (version_of side query) end.given ∙ sym second;
        outcome = end.outcome;
        met =
            met_the_same rs ts many x.each y.each (none_failed side query d.version (given_in rs) (failed_in rs) d.outcome x.failed f)
            (none_failed side query e.version (given_in ts) (failed_in ts) e.outcome y.failed i) end.given;
      }

module _ (one_arrival : OneArrivalAt) (one_needed : OneListOfNeededAt) (base : BaseParts) (side : Side) (all : List Event) (cache : ℕ) (before after other later : LinkSeen)
    (ends other_ends : List ClientEnd) (met other_met : List Met) (turns : TurnsAreOfClients all) (p : IsQuietPlan base side all cache before after ends met)
    (q : IsQuietPlan base side all cache other later other_ends other_met) where
  abbrev order : List ℕ
  order = order_of all

  abbrev Fine : ClientEnd → Type 0
  Fine end = IsNoLinkFault end.outcome

  -- a client has one end and received the same in both plans
  client_at : (place : ℕ) (query : Query) (d e : ClientEnd) → slice_get (questions_in all) place ≡ Some query → slice_get ends place ≡ Some d → slice_get other_ends place ≡ Some e →
      EndAlike d e (rounds_of (place + 1) order p.planned.rounds) (rounds_of (place + 1) order q.planned.rounds)
  client_at place query d e asks is other_is =
      let first = subst (λ (s : Side). EndsAt s query (rounds_of (place + 1) order p.planned.rounds) (sides_of (place + 1) order p.planned.sides) d) (p.planned.leaves.same p.quiet)
      (p.planned.clients place query d asks is) in
      let second = subst (λ (s : Side). EndsAt s query (rounds_of (place + 1) order q.planned.rounds) (sides_of (place + 1) order q.planned.sides) e) (q.planned.leaves.same q.quiet)
      (q.planned.clients place query e asks other_is) in
      one_client one_arrival one_needed side query (rounds_of (place + 1) order p.planned.rounds) (rounds_of (place + 1) order q.planned.rounds) (sides_of (place + 1) order p.planned.sides)
      (sides_of (place + 1) order q.planned.sides) d e first second
      (as_many_rounds (place + 1) order p.planned.rounds q.planned.rounds (p.planned.rounds_are.one_each ∙ sym q.planned.rounds_are.one_each))
      (as_many_sides (place + 1) order p.planned.rounds p.planned.sides p.planned.rounds_are.one_each p.planned.sides_are.one_each)
      (as_many_sides (place + 1) order q.planned.rounds q.planned.sides q.planned.rounds_are.one_each q.planned.sides_are.one_each)
      (all_of (Is side) (place + 1) order p.planned.sides (p.planned.sides_are.one_side p.quiet)) (all_of (Is side) (place + 1) order q.planned.sides (q.planned.sides_are.one_side q.quiet))
      (at_place Fine ends place d p.no_fault is) (at_place Fine other_ends place e q.no_fault other_is)

  both : AllZip AreOneEnd ends other_ends
  both = come_to_one base side side all cache before after other later ends other_ends met other_met turns p.planned q.planned p.one_each q.one_each client_at

pub one_plan : {X Y : Type 0} (seen : X → LinkSeen) (saw : Y → LinkSeen) → OneArrivalAt → OneListOfNeededAt → OnePlan seen saw
one_plan seen saw one_arrival one_needed base side all cache before after other later ends other_ends met other_met turns p q =
    both one_arrival one_needed base side all cache (seen before) (seen after) (saw other) (saw later) ends other_ends met other_met turns p q
