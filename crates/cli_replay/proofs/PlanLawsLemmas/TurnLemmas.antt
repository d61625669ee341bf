-- A client has its turn, and, when the events are over, is turned until it ends.
use Rattle.std.proofs.Common.{◌≡◌, ◌⊎◌, ◌-◌, ◌<◌, ◌≤◌, ℕ, zero, suc, inl, inr, List, [], ◌∷◌, ◌++◌, Option, Some, None, length, ap₂, sym, subst, arith, append-nil, append_assoc}
use Rattle.std.specs.Prelude.{IsSome}
use Rattle.connection_uri.specs.Base.{BaseParts}
use Rattle.convoy.specs.Finish.{Ends, HasOutcome, IsStep, Rounds}
use Rattle.convoy.specs.State.{ConvoyState}
use Rattle.convoy.specs.declared.turn.Turn.{Turn}
use Rattle.convoy.proofs.ClientLawsLemmas.FitsLemmas.{fits_stays}
use Rattle.convoy.specs.ClientLaws.Fits.{FitsSide}
use Rattle.convoy.specs.ClientLaws.Laws.{WantsStay}
use Rattle.convoy.proofs.AgreementLemmas.TurnLemmas.{honest_still}
use Rattle.convoy.specs.Agreement.Laws.{EndKeepsAgreement, TurnKeepsAgreement}
use Rattle.convoy.specs.Agreement.Leaves.{AgreesAfterOutcome, NoneFailed, OneFailed, AgreesAfterTurn}
use Rattle.convoy.specs.Agreement.Names.{Round}
use Rattle.convoy.specs.Agreement.Rounds.{round_at, round_in, rounds_up_to}
use Rattle.cli_replay.proofs.PlanLawsLemmas.MetLemmas.{HasMetAt, HaveFinished, finished, met_more}
use Rattle.cli_replay.proofs.PlanLawsLemmas.PlannedTo.{IsPlannedTo}
use Rattle.cli_replay.proofs.PlanLawsLemmas.StepLemmas.{HasStepped, one_step}
use Rattle.cli_replay.proofs.ReplayLawsLemmas.TurnsClientLemmas.{came_of, none_in_vain}
use Rattle.cli_replay.proofs.ReplayLawsLemmas.TurnsLemmas.{fits_at}
use Rattle.cli_replay.specs.ReplayLaws.Turns.{counted, failed_in}
use Rattle.lc_model.specs.declared.query.Query.{Query}
use Rattle.lc_world.specs.Link.{LinkSeen}
use Rattle.page_client.specs.Client.{shown}
use Rattle.page_client.specs.declared.outcome.Outcome.{Outcome}
use Rattle.page_client.specs.declared.want.Want.{Want}
use Rattle.lc_world.specs.Sides.Side.{Side}
use Rattle.journey_text.specs.Script.{IsClient}

-- said in other words of the turns
pub said_so : (Turns Next : ℕ → List Round → Option Outcome → Type 0) (base : BaseParts) (first : Side) (cache : ℕ) (questions : List Query) (order : List ℕ) (convoy : ConvoyState) (start now : LinkSeen)
    (rounds : List Round) (sides : List Side) → ((place : ℕ) (mine : List Round) (outcome : Option Outcome) → Turns place mine outcome → Next place mine outcome) →
    IsPlannedTo Turns base first cache questions order convoy start now rounds sides → IsPlannedTo Next base first cache questions order convoy start now rounds sides
said_so Turns Next base first cache questions order convoy start now rounds sides then_is p = record {
  last = p.last;
  leaves = p.leaves;
  later = p.later;
  one_side = p.one_side;
  base_is = p.base_is;
  capacity = p.capacity;
  given = p.given;
  fits = p.fits;
  clients = p.clients;
  one_each = p.one_each;
  sides_each = p.sides_each;
  by_names = p.by_names;
  names = p.names;
  requests = p.requests;
  increased = p.increased;
  members = λ place query member own asked is is_own.
      let m = p.members place query member own asked is is_own in
      record {
        question = m.question;
        given_is = m.given_is;
        version = m.version;
        count = m.count;
        turns = then_is place _ (shown member.client).outcome m.turns;
        failed = m.failed;
      };
}

module _ {X : Type 0} (seen : X → LinkSeen) (wants_stay : WantsStay) (base : BaseParts) (first : Side) (cache : ℕ) (start : LinkSeen) (questions : List Query) where
  -- a turn of a client
  module _ (order : List ℕ) (client : ℕ) (old new : ConvoyState) (before after : X) (rounds : List Round) (sides : List Side) (turn : Turn) (round : Round)
      (p : IsPlannedTo HasMetAt base first cache questions order old start (seen before) rounds sides) (is_client : IsClient (length questions) client)
      (turned : AgreesAfterTurn p.last old new p.given client (seen before) (seen after) turn round) where
    fits : FitsSide turned.agrees.left turned.agrees.was.client turned.agrees.own
    fits =
        fits_stays p.last turned.agrees.left turned.agrees.was.client turned.agrees.own turned.agrees.honest.honest.stands.valid turned.agrees.honest.later
        (fits_at p.last old.members p.given (client - 1) turned.agrees.was turned.agrees.own p.fits.clients turned.agrees.had turned.agrees.own_is)

    turn_so : HasStepped HasMetAt base first cache questions (order ++ client ∷ []) new start (seen after) (rounds ++ round ∷ [])
    turn_so =
        let a = turned.agrees in
        let came = came_of a.left a.was a.is a.own a.given a.failed a.asked turn fits turned.gave a.by_names.how in
        subst (λ (r : Round). HasStepped HasMetAt base first cache questions (order ++ client ∷ []) new start (seen after) (rounds ++ r ∷ [])) turned.round_is (record {
          sides = _;
          so = one_step HasMetAt HasMetAt base first cache questions order client old new start (seen before) (seen after) rounds sides wants_stay p is_client turned.agrees
              (λ place not mine outcome is. is)
              (λ query mine at m. met_more a.left a.was a.is a.own a.given a.failed a.asked mine m.turns
              (λ waits. none_in_vain p.last query (shown a.was.client).version _ (failed_in mine) (shown a.was.client).outcome waits m.failed) came);
        })

  pub turn_planned : TurnKeepsAgreement seen → (order : List ℕ) (client : ℕ) (old new : ConvoyState) (before after : X) (rounds : List Round) (sides : List Side) (turn : Turn) →
      IsPlannedTo HasMetAt base first cache questions order old start (seen before) rounds sides → IsClient (length questions) client → (step : IsStep seen client old new before after turn) →
      HasStepped HasMetAt base first cache questions (order ++ client ∷ []) new start (seen after) (rounds ++ round_at turn (shown step.turned.was.client) (shown step.turned.is.client) ∷ [])
  turn_planned keeps order client old new before after rounds sides turn p is_client step =
      turn_so order client old new before after rounds sides turn (round_at turn (shown step.turned.was.client) (shown step.turned.is.client)) p is_client
      (keeps p.last old new p.given client before after turn (honest_still base old.base p.last (seen before) p.base_is p.leaves.honest) p.fits step)

  -- the turns of client n + 1 up to its end, after those of the clients before it
  module _ (order : List ℕ) (n : ℕ) (old new : ConvoyState) (before after : X) (rounds : List Round) (sides : List Side) (round : Round)
      (p : IsPlannedTo (HaveFinished n) base first cache questions order old start (seen before) rounds sides) (is_client : IsClient (length questions) (suc n))
      (ended : AgreesAfterOutcome p.last old new p.given (suc n) (seen before) (seen after) round) where
    below : (place n : ℕ) → (place ≡ suc n - 1 → ⊥) → place < suc n → place < n
    below place n not lt = omega arith

    beyond : (place n : ℕ) → suc n ≤ place → n ≤ place
    beyond place n le = omega arith

    its_place : (n : ℕ) → n ≤ suc n - 1
    its_place n = omega arith

    not_beyond : (n : ℕ) → suc n ≤ suc n - 1 → ⊥
    not_beyond n le = omega arith

    idle : HasOutcome ended.agrees.was → ended.agrees.given ++ ended.agrees.failed ≡ []
    idle some = ap₂ (λ (x y : List Want). x ++ y) (ended.agrees.idle some) (none_failed some ended.agrees.by_names.how) where
      none_failed : HasOutcome ended.agrees.was →
          NoneFailed (shown ended.agrees.was.client) (shown ended.agrees.is.client) ended.agrees.failed
          ⊎ OneFailed ended.agrees.left (shown ended.agrees.was.client) (shown ended.agrees.is.client) (ended.agrees.own ++ ended.agrees.given) ended.agrees.failed → ended.agrees.failed ≡ []
      none_failed had (inl none) = none.none
      none_failed had (inr one) = absurd (lacks (shown ended.agrees.was.client).outcome had one.waited) where
        lacks : (outcome : Option Outcome) → IsSome outcome → outcome ≡ None → ⊥
        lacks None some none = cc
        lacks (Some one) some none = cc

    end_so : HasStepped (HaveFinished (suc n)) base first cache questions (order ++ suc n ∷ []) new start (seen after) (rounds ++ round ∷ [])
    end_so =
        let a = ended.agrees in
        subst (λ (r : Round). HasStepped (HaveFinished (suc n)) base first cache questions (order ++ suc n ∷ []) new start (seen after) (rounds ++ r ∷ [])) ended.round_is (record {
          sides = _;
          so = one_step (HaveFinished n) (HaveFinished (suc n)) base first cache questions order (suc n) old new start (seen before) (seen after) rounds sides wants_stay p is_client ended.agrees
              (λ place not mine outcome is. record { finished = λ lt. is.finished (below place n not lt); met = λ le. is.met (beyond place n le) })
              (λ query mine at m. record {
                finished = λ lt.
                    finished mine _ (shown a.was.client).outcome (shown a.is.client).outcome (m.turns.met (its_place n)) idle
                    (λ waits. none_in_vain p.last query (shown a.was.client).version _ (failed_in mine) (shown a.was.client).outcome waits m.failed) ended.ended;
                met = λ le. absurd (not_beyond n le);
              });
        })

  pub ends_planned : EndKeepsAgreement seen → (order : List ℕ) (n : ℕ) (old new : ConvoyState) (before after : X) (rounds : List Round) (sides : List Side) →
      IsPlannedTo (HaveFinished n) base first cache questions order old start (seen before) rounds sides → IsClient (length questions) (suc n) → (ends : Ends seen (suc n) old new before after) →
      HasStepped (HaveFinished (suc n)) base first cache questions (order ++ suc n ∷ []) new start (seen after) (rounds ++ round_in seen (suc n) ends.steps old new before after ends.turns ∷ [])
  ends_planned keeps order n old new before after rounds sides p is_client ends =
      end_so order n old new before after rounds sides (round_in seen (suc n) ends.steps old new before after ends.turns) p is_client
      (keeps p.last old new p.given (suc n) before after (honest_still base old.base p.last (seen before) p.base_is p.leaves.honest) p.fits ends)

  -- one client after the other
  pub rounds_planned : EndKeepsAgreement seen → (order : List ℕ) (n : ℕ) (old new : ConvoyState) (before after : X) (rounds : List Round) (sides : List Side) → n ≤ length questions →
      IsPlannedTo HasMetAt base first cache questions order old start (seen before) rounds sides → (ends : Rounds seen n old new before after) →
      HasStepped (HaveFinished n) base first cache questions (order ++ counted n) new start (seen after) (rounds ++ rounds_up_to seen n old new before after ends)
  rounds_planned keeps order zero old new before after rounds sides up_to p (same, still) =
      subst (λ (x : X). HasStepped (HaveFinished zero) base first cache questions (order ++ []) new start (seen x) (rounds ++ [])) (sym still)
      (subst (λ (convoy : ConvoyState). HasStepped (HaveFinished zero) base first cache questions (order ++ []) convoy start (seen before) (rounds ++ [])) (sym same)
      (subst (λ (l : List ℕ). HasStepped (HaveFinished zero) base first cache questions l old start (seen before) (rounds ++ [])) (sym (append-nil order))
      (subst (HasStepped (HaveFinished zero) base first cache questions order old start (seen before)) (sym (append-nil rounds)) (record {
        sides = sides;
        so = said_so HasMetAt (HaveFinished zero) base first cache questions order old start (seen before) rounds sides
            (λ place mine outcome met. record { finished = λ lt. absurd (none_below place lt); met = λ le. met }) p;
      })))) where
        none_below : (place : ℕ) → place < 0 → ⊥
        none_below place lt = omega arith
  rounds_planned keeps order (suc n) old new before after rounds sides up_to p (mid, link, earlier, ends) =
      let done = rounds_planned keeps order n old mid before link rounds sides (less n (length questions) up_to) p earlier in
      let all = rounds_up_to seen n old mid before link earlier in
      let one = round_in seen (suc n) ends.steps mid new link after ends.turns in
      subst (λ (l : List ℕ). HasStepped (HaveFinished (suc n)) base first cache questions l new start (seen after) (rounds ++ (all ++ one ∷ []))) (append_assoc order (counted n) (suc n ∷ []))
      (subst (HasStepped (HaveFinished (suc n)) base first cache questions ((order ++ counted n) ++ suc n ∷ []) new start (seen after)) (append_assoc rounds all (one ∷ []))
      (ends_planned keeps (order ++ counted n) n mid new link after (rounds ++ all) done.sides done.so (is_one n (length questions) up_to) ends)) where
        less : (n count : ℕ) → suc n ≤ count → n ≤ count
        less n count le = omega arith

        is_one : (n count : ℕ) → suc n ≤ count → IsClient count (suc n)
        is_one n count le = record { from_one = (let one : 1 ≤ suc n = omega arith in one); at_most = le }
