-- A turn, and turns one after the other, keep a convoy in agreement with the side that is left.
use Rattle.std.proofs.Common.{◌≡◌, ◌≢◌, ℕ, ◌+◌, ◌-◌, ◌≤◌, inl, inr, List, [], ◌∷◌, ◌++◌, length, Option, Some, None, refl, ap, ap₂, sym, subst, ◌∙◌, arith}
use Rattle.std.specs.Prelude.{set}
use Rattle.std.specs.List.{All, slice_get}
use Rattle.std.specs.Option.{IsSome}
use Rattle.std.proofs.lemmas.List.{append-nil, append_assoc, length-append}
use Rattle.std.proofs.lemmas.Option.{slice_get_within}
use Rattle.csa_scan.proofs.ListPlacesLemmas.{slice_get-set_other, slice_get-set_same}
use Rattle.lc_model.specs.declared.query.Query.{Query}
use Rattle.connection_uri.specs.Base.{BaseParts}
use Rattle.page_client.specs.Kept.{Kept}
use Rattle.lc_world.specs.Link.{IsHonestWith, LinkSeen}
use Rattle.page_client.specs.Client.{shown}
use Rattle.page_client.specs.Shown.{Shown, want_of}
use Rattle.page_client.specs.declared.client.Client.{Client}
use Rattle.page_client.specs.declared.outcome.Outcome.{Outcome}
use Rattle.page_client.specs.declared.outcome.Outcome.TheVariants.{LinkFault}
use Rattle.page_client.specs.declared.phase.Phase.{Phase}
use Rattle.page_client.specs.declared.phase.Phase.TheVariants as phases
use Rattle.page_client.specs.declared.want.Want.{Want}
use Rattle.page_client.specs.declared.want.Want.TheVariants as wants
use Rattle.lc_world.specs.Sides.Side.{Side}
use Rattle.convoy.specs.ClientLaws.Fits.{FitsAt, FitsSide}
use Rattle.convoy.specs.ClientLaws.Published.{IsOwnPage}
use Rattle.convoy.proofs.ClientLawsLemmas.FitsLemmas.{has_own}
use Rattle.convoy.specs.Finish.{HasOutcome, IsStep, Step, TurnsOf}
use Rattle.convoy.specs.State.{ConvoyState}
use Rattle.convoy.specs.Turn.{Turned}
use Rattle.convoy.specs.declared.member.Member.{Member}
use Rattle.convoy.specs.declared.turn.Turn.{Turn}
use Rattle.convoy.specs.declared.turn.Turn.TheVariants.{Cached, Exchanged, Finished}
use Rattle.convoy.specs.Agreement.Agreement.{AllFit, FitsConvoy}
use Rattle.convoy.specs.Agreement.Leaves.{AsksByNames, HasFault, Gave, HasGone, HasMoved, LeavesHonest, RoseWithin, AgreesAfterTurnsOf, AgreesAfterTurn}
use Rattle.convoy.specs.Agreement.Names.{Round}
use Rattle.convoy.specs.Agreement.Requests.{TellsAsked}
use Rattle.convoy.specs.Agreement.Rounds.{round_at, round_in, round_with}
use Rattle.convoy.proofs.AgreementLemmas.AloneLemmas.{no_fault_yet}
use Rattle.convoy.proofs.AgreementLemmas.AskedLemmas.{IsStill, asks_nothing, asks_then}
use Rattle.convoy.proofs.AgreementLemmas.HonestLemmas.{leaves_alone, leaves_then, no_less, no_less_then}
use Rattle.convoy.proofs.AgreementLemmas.MemberLemmas.{MemberAgrees, cached_agrees, exchanged_agrees, finished_agrees, none_more}
use Rattle.convoy.proofs.AgreementLemmas.NamedLemmas.{NoGate, version_then}
use Rattle.convoy.proofs.AgreementLemmas.PlaceLemmas.{StandsAt, all_later, at_place, set_itself, set_place, set_twice}
use Rattle.convoy.proofs.AgreementLemmas.RequestLemmas.{tells_nothing, tells_then}
use Rattle.convoy.proofs.AgreementLemmas.RoundLemmas.{round_of_both, same_round}

-- what each kind of turn leaves of its client; without an exchange the link is as it was
member_agrees :
    {X : Type 0} (seen : X → LinkSeen) (base : BaseParts) (side : Side) (was is : Member) (own : List Want) (kept after_kept : Kept) (before after : X) (turn : Turn) →
    IsHonestWith (seen before) base side → FitsSide side was.client own → All (IsOwnPage side) kept.pages → Turned base was is kept after_kept (seen before) (seen after) turn →
    (turn ≢ Exchanged → after ≡ before) → MemberAgrees base side was is own kept after_kept (seen before) (seen after) turn
member_agrees {X} seen base side was is own kept after_kept before after Finished honest fits pages turned idle =
    subst (λ (x : X). MemberAgrees base side was is own kept after_kept (seen before) (seen x) Finished) (sym (idle (λ e. cc)))
    (finished_agrees base side was is own kept after_kept (seen before) honest fits pages turned)
member_agrees {X} seen base side was is own kept after_kept before after Cached honest fits pages turned idle =
    subst (λ (x : X). MemberAgrees base side was is own kept after_kept (seen before) (seen x) Cached) (sym (idle (λ e. cc)))
    (cached_agrees base side was is own kept after_kept (seen before) honest fits pages turned)
member_agrees seen base side was is own kept after_kept before after Exchanged honest fits pages turned idle =
    exchanged_agrees base side was is own kept after_kept (seen before) (seen after) honest fits pages turned.had_none turned.one_more turned.asks

-- who has an outcome does not lack one
no_outcome : (outcome : Option Outcome) → IsSome outcome → outcome ≡ None → ⊥
no_outcome None is e = cc
no_outcome (Some o) is e = cc

-- a client that had its outcome received nothing at its turn
idle_turn : (base : BaseParts) (was is : Member) (kept after_kept : Kept) (before after : LinkSeen) (turn : Turn) (given asked : List Want) → Turned base was is kept after_kept before after turn →
    Gave turn was is given asked → HasOutcome was → given ≡ []
idle_turn base was is kept after_kept before after Finished given asked turned idle some = idle.none_given
idle_turn base was is kept after_kept before after Cached given asked turned gave some = absurd (no_outcome (shown was.client).outcome some turned.had_none)
idle_turn base was is kept after_kept before after Exchanged given asked turned gave some = absurd (no_outcome (shown was.client).outcome some turned.had_none)

-- an outcome stays one
outcome_stays : (was is : Option Outcome) → ((ended : Outcome) → was ≡ Some ended → is ≡ Some ended) → IsSome was → IsSome is
outcome_stays None is stays some = absurd (no_outcome None some refl)
outcome_stays (Some ended) is stays some = subst IsSome (sym (stays ended refl)) some

-- who waits for the time gate received nothing
nothing_before_gate : (side : Side) (client : Client) (given : List Want) (phase : Phase) → FitsAt side client given phase → want_of phase ≡ wants.Gate → given ≡ []
nothing_before_gate side client given phases.Gate fits is = fits.given
nothing_before_gate side client given (phases.Stops first) fits is = absurd (cc)
nothing_before_gate side client given (phases.Page name) fits is = absurd (cc)
nothing_before_gate side client given phases.Finished fits is = absurd (cc)

some_or_none : (own first : List Want) → own ++ first ≡ [] → first ≡ []
some_or_none [] first is = is
some_or_none (want ∷ own) first is = absurd (cc)

no_gate_then : (given more : List Want) (want : Want) → given ≡ want ∷ [] → (want ≡ wants.Gate → ⊥) → given ≡ wants.Gate ∷ more → ⊥
no_gate_then given more want is not begins = let same : want ≡ wants.Gate = cc in not same

no_gate_of_none : (given more : List Want) → given ≡ [] → given ≡ wants.Gate ∷ more → ⊥
no_gate_of_none given more none begins = cc

-- what a turn gave does not begin with the time gate where something was received before
pub gave_no_gate : (side : Side) (was is : Member) (own first given asked : List Want) (turn : Turn) → FitsSide side was.client (own ++ first) → Gave turn was is given asked → first ≢ [] → NoGate given
gave_no_gate side was is own first given asked Finished fits idle some more begins = no_gate_of_none given more idle.none_given begins
gave_no_gate side was is own first given asked Cached fits kept some more begins =
    no_gate_then given more (want_of was.client.phase) kept.is_given (λ gate. some (some_or_none own first (nothing_before_gate side was.client (own ++ first) was.client.phase fits.fits gate))) begins
gave_no_gate side was is own first given asked Exchanged fits (inl replied) some more begins =
    no_gate_then given more (want_of was.client.phase) replied.is_given (λ gate. some (some_or_none own first (nothing_before_gate side was.client (own ++ first) was.client.phase fits.fits gate))) begins
gave_no_gate side was is own first given asked Exchanged fits (inr failed) some more begins = no_gate_of_none given more failed.none_given begins

-- where neither begins with the time gate, the one followed by the other does not
no_gate_of_both : (first second : List Want) → NoGate first → NoGate second → NoGate (first ++ second)
no_gate_of_both [] second no_first no_second more begins = no_second more begins
no_gate_of_both (want ∷ first) second no_first no_second more begins =
    let same : want ≡ wants.Gate = cc in
    no_first first (ap (λ (w : Want). w ∷ first) same)

some_of_both : (first second : List Want) → first ≢ [] → first ++ second ≢ []
some_of_both [] second some none = some refl
some_of_both (want ∷ first) second some none = cc

pub turn_agrees :
    {X : Type 0} (seen : X → LinkSeen) (side : Side) (old new : ConvoyState) (so_far : List (List Want)) (k : ℕ) (before after : X) (turn : Turn) → IsHonestWith (seen before) old.base side →
    FitsConvoy side old so_far → (step : IsStep seen k old new before after turn) →
    AgreesAfterTurn side old new so_far k (seen before) (seen after) turn (round_at turn (shown step.turned.was.client) (shown step.turned.is.client))
turn_agrees seen side old new so_far k before after turn honest fits step =
    let t = step.turned in
    let at : StandsAt side t.was so_far (k - 1) = at_place side old.members so_far (k - 1) t.was fits.clients t.had in
    let m = member_agrees seen old.base side t.was t.is at.own old.kept new.kept before after turn honest at.fits fits.pages t.turned step.idle in
    let within = slice_get_within old.members (k - 1) t.was t.had in
    let clients = all_later side m.left old.members so_far m.honest.honest.stands.valid m.honest.later fits.clients in
    record {
      agrees = record {
        left = m.left;
        honest = m.honest;
        base = t.base;
        was = t.was;
        had = t.had;
        is = t.is;
        has = ap (λ (members : List Member). slice_get members (k - 1)) t.members ∙ slice_get-set_same old.members (k - 1) t.is within;
        others = λ j other. ap (λ (members : List Member). slice_get members j) t.members ∙ slice_get-set_other old.members (k - 1) t.is j other;
        own = at.own;
        own_is = at.is;
        given = m.given;
        failed = m.failed;
        asked = m.asked;
        gate_once = gave_no_gate side t.was t.is [] at.own m.given m.asked turn at.fits m.gave;
        idle = idle_turn old.base t.was t.is old.kept new.kept (seen before) (seen after) turn m.given m.asked t.turned m.gave;
        gone = m.gone;
        by_names = m.by_names;
        client = m.client;
        fits = record {
          clients =
              subst (λ (members : List Member). AllFit m.left members (set so_far (k - 1) (at.own ++ m.given))) (sym t.members)
              (set_place m.left old.members so_far (k - 1) t.is (at.own ++ m.given) clients m.client);
          pages = m.pages;
        };
      };
      round_is = m.round_is;
      gave = m.gave;
      version = m.version;
    }

-- a count that increased within two others increased within wider ones
pub rose_wider : (a b c d low high : ℕ) → a ≤ b → c ≤ d → RoseWithin b c low high → RoseWithin a d low high
rose_wider a b c d low high before after rose = record {
  from = no_less_then a b low before rose.from;
  to = no_less_then high c d rose.to after;
  rose = rose.rose;
}

-- what became of a client in two steps
pub moved_then :
    (side mid left : Side) (old between new : Shown) (a b c : LinkSeen) (first second : List Want) (base : BaseParts) → LeavesHonest base side mid a b → LeavesHonest base mid left b c →
    HasMoved side mid old between a b first → HasMoved mid left between new b c second → (first ≢ [] → NoGate second) → HasMoved side left old new a c (first ++ second)
moved_then side mid left old between new a b c first second base one two went goes no_gate = record {
  query = goes.query ∙ went.query;
  outcome = λ ended had. goes.outcome ended (went.outcome ended had);
  version = version_then side mid left old between first second new.version one.later two.later went.query went.version goes.version no_gate;
  fault = λ low high had some. by_outcome low high had some between.outcome refl;
} where
  by_outcome : (low high : ℕ) → old.outcome ≡ None → new.outcome ≡ Some (LinkFault low high) → (outcome : Option Outcome) → between.outcome ≡ outcome → RoseWithin a.faults c.faults low high
  by_outcome low high had some None is = rose_wider a.faults b.faults c.faults c.faults low high one.not_fallen (no_less c.faults) (goes.fault low high is some)
  by_outcome low high had some (Some ended) is =
      let stays : new.outcome ≡ Some ended = goes.outcome ended is in
      let then_fault : between.outcome ≡ Some (LinkFault low high) = is ∙ sym stays ∙ some in
      rose_wider a.faults a.faults b.faults c.faults low high (no_less a.faults) two.not_fallen (went.fault low high had then_fault)

count_then : (a b c : ℕ) (first second : List Want) → b ≡ a + length first → c ≡ b + length second → c ≡ a + length (first ++ second)
count_then a b c first second one two = omega (arith, length-append first second)

-- what became of a client in two steps, with what was asked for it
pub gone_then :
    (base : BaseParts) (side mid left : Side) (was between is : Member) (a b c : LinkSeen) (first second first_asked second_asked : List Want) → LeavesHonest base side mid a b → LeavesHonest base mid left b c →
    HasGone base side mid was between a b first first_asked → HasGone base mid left between is b c second second_asked → (first ≢ [] → NoGate second) →
    HasGone base side left was is a c (first ++ second) (first_asked ++ second_asked)
gone_then base side mid left was between is a b c first second first_asked second_asked one two went goes no_gate = record {
  moved = moved_then side mid left (shown was.client) (shown between.client) (shown is.client) a b c first second base one two went.moved goes.moved no_gate;
  count = count_then was.exchanges between.exchanges is.exchanges first_asked second_asked went.count goes.count;
  recorded =
      tells_then a.recorded b.recorded c.recorded base (shown was.client).query first_asked second_asked went.recorded
      (subst (λ (q : Query). TellsAsked b.recorded c.recorded base q second_asked) went.moved.query goes.recorded);
}

-- no turn yet
pub nothing_yet : (side : Side) (convoy : ConvoyState) (so_far : List (List Want)) (k : ℕ) (link : LinkSeen) (member : Member) → IsHonestWith link convoy.base side → FitsConvoy side convoy so_far →
    slice_get convoy.members (k - 1) ≡ Some member → AgreesAfterTurnsOf side convoy convoy so_far k link link
nothing_yet side convoy so_far k link member honest fits has =
    let at : StandsAt side member so_far (k - 1) = at_place side convoy.members so_far (k - 1) member fits.clients has in
    let client : FitsSide side member.client (at.own ++ []) = subst (FitsSide side member.client) (sym (append-nil at.own)) at.fits in
    record {
      left = side;
      honest = leaves_alone convoy.base side link honest;
      base = refl;
      was = member;
      had = has;
      is = member;
      has = has;
      others = λ j other. refl;
      own = at.own;
      own_is = at.is;
      given = [];
      failed = [];
      asked = [];
      idle = λ some. refl;
      gate_once = λ some more begins. no_gate_of_none [] more refl begins;
      gone = record {
        moved = record {
          query = refl;
          outcome = λ ended e. e;
          version = refl;
          fault = λ low high none some. absurd (no_outcome_and_one (shown member.client).outcome low high none some);
        };
        count = none_more member.exchanges;
        recorded = tells_nothing link.recorded convoy.base (shown member.client).query;
      };
      by_names = asks_nothing side (shown member.client) convoy.kept at.own;
      client = client;
      fits = record {
        clients =
            subst (λ (members : List Member). AllFit side members (set so_far (k - 1) (at.own ++ []))) (set_itself convoy.members (k - 1) member has)
            (set_place side convoy.members so_far (k - 1) member (at.own ++ []) fits.clients client);
        pages = fits.pages;
      };
    } where
      no_outcome_and_one : (outcome : Option Outcome) (low high : ℕ) → outcome ≡ None → outcome ≡ Some (LinkFault low high) → ⊥
      no_outcome_and_one outcome low high none some = cc

-- nothing was received or asked then
pub nothing_yet_is : (side : Side) (convoy : ConvoyState) (so_far : List (List Want)) (k : ℕ) (link : LinkSeen) (member : Member) (honest : IsHonestWith link convoy.base side) (fits : FitsConvoy side convoy so_far)
    (has : slice_get convoy.members (k - 1) ≡ Some member) → let s = nothing_yet side convoy so_far k link member honest fits has in (s.is ≡ member) × (s.given ≡ []) × (s.asked ≡ []) × (s.failed ≡ [])
unfolding nothing_yet
nothing_yet_is side convoy so_far k link member honest fits has = (refl, refl, refl, refl)

-- nothing happens any more to a client that ended by a fault of the link
still_after_fault : (side : Side) (was is : Member) (own given asked : List Want) (turn : Turn) → FitsSide side was.client own → Gave turn was is given asked → HasFault (shown was.client) →
    IsStill (shown was.client) (shown is.client) given asked
still_after_fault side was is own given asked Finished fits idle fault = record {
  same = ap (λ (m : Member). shown m.client) idle.same;
  none_given = idle.none_given;
  none_asked = idle.none_asked;
}
still_after_fault side was is own given asked Cached fits kept fault = absurd (no_fault_yet side was.client own fits kept.waited fault)
still_after_fault side was is own given asked Exchanged fits (inl replied) fault = absurd (no_fault_yet side was.client own fits replied.waited fault)
still_after_fault side was is own given asked Exchanged fits (inr failed) fault = absurd (no_fault_yet side was.client own fits failed.waited fault)

-- a client at a place is one
pub one_at : {X : Type 0} (xs : List X) (place : ℕ) (x y : X) → slice_get xs place ≡ Some x → slice_get xs place ≡ Some y → x ≡ y
one_at xs place x y one two = cc

none_of_both : (first second : List Want) → first ≡ [] → second ≡ [] → first ++ second ≡ []
none_of_both first second none none_again = ap₂ (λ (x y : List Want). x ++ y) none none_again

-- one turn more
pub one_turn_more :
    {round : Round} (side : Side) (old mid new : ConvoyState) (so_far : List (List Want)) (k : ℕ) (a b c : LinkSeen) (turn : Turn) (first : AgreesAfterTurnsOf side old mid so_far k a b) →
    AgreesAfterTurn first.left mid new (set so_far (k - 1) (first.own ++ first.given)) k b c turn round → AgreesAfterTurnsOf side old new so_far k a c
one_turn_more side old mid new so_far k a b c turn first turned =
    let second = turned.agrees in
    let same : second.was ≡ first.is = one_at mid.members (k - 1) second.was first.is second.had first.has in
    let within = slice_get_within so_far (k - 1) first.own first.own_is in
    let all = first.own ++ first.given in
    let own : second.own ≡ first.own ++ first.given = one_at (set so_far (k - 1) (first.own ++ first.given)) (k - 1) second.own all second.own_is (slice_get-set_same so_far (k - 1) all within) in
    let leaves : LeavesHonest old.base first.left second.left b c = subst (λ (base : BaseParts). LeavesHonest base first.left second.left b c) first.base second.honest in
    let goes : HasGone old.base first.left second.left first.is second.is b c second.given second.asked =
    subst (λ (m : Member). HasGone old.base first.left second.left m second.is b c second.given second.asked) same
    (subst (λ (base : BaseParts). HasGone base first.left second.left second.was second.is b c second.given second.asked) first.base second.gone) in
    let gave : Gave turn first.is second.is second.given second.asked = subst (λ (m : Member). Gave turn m second.is second.given second.asked) same turned.gave in
    let by_names : AsksByNames second.left (shown first.is.client) (shown second.is.client) mid.kept new.kept (first.own ++ first.given) second.given second.failed second.asked =
    subst (λ (m : Member). AsksByNames second.left (shown m.client) (shown second.is.client) mid.kept new.kept (first.own ++ first.given) second.given second.failed second.asked) same
    (subst (λ (l : List Want). AsksByNames second.left (shown second.was.client) (shown second.is.client) mid.kept new.kept l second.given second.failed second.asked) own second.by_names) in
    let whole : second.own ++ second.given ≡ first.own ++ (first.given ++ second.given) = ap (λ (l : List Want). l ++ second.given) own ∙ append_assoc first.own first.given second.given in
    record {
      left = second.left;
      honest = leaves_then old.base side first.left second.left a b c first.honest leaves;
      base = second.base ∙ first.base;
      was = first.was;
      had = first.had;
      is = second.is;
      has = second.has;
      others = λ j other. second.others j other ∙ first.others j other;
      own = first.own;
      own_is = first.own_is;
      given = first.given ++ second.given;
      failed = first.failed ++ second.failed;
      asked = first.asked ++ second.asked;
      idle = λ some.
          none_of_both first.given second.given (first.idle some)
          (second.idle (subst HasOutcome (sym same) (outcome_stays (shown first.was.client).outcome (shown first.is.client).outcome first.gone.moved.outcome some)));
      gate_once = λ some.
          no_gate_of_both first.given second.given (first.gate_once some) (second.gate_once (λ none. some_of_both first.own first.given some (sym own ∙ none)));
      gone = gone_then old.base side first.left second.left first.was first.is second.is a b c first.given second.given first.asked second.asked first.honest leaves first.gone goes
          (gave_no_gate first.left first.is second.is first.own first.given second.given second.asked turn first.client gave);
      by_names =
          asks_then first.left second.left (shown first.was.client) (shown first.is.client) (shown second.is.client) old.kept mid.kept new.kept first.own first.given second.given first.failed second.failed first.asked second.asked
          second.honest.honest.stands.valid second.honest.later (λ version at. has_own first.left first.is.client.version version at first.client.of_side) first.gone.moved.outcome
          (still_after_fault first.left first.is second.is (first.own ++ first.given) second.given second.asked turn first.client gave) first.by_names by_names;
      client = subst (FitsSide second.left second.is.client) whole second.client;
      fits = subst (FitsConvoy second.left new) (set_twice so_far (k - 1) (first.own ++ first.given) (second.own ++ second.given) ∙ ap (set so_far (k - 1)) whole) second.fits;
    }

-- what was received and asked then
pub one_turn_more_is :
    {round : Round} (side : Side) (old mid new : ConvoyState) (so_far : List (List Want)) (k : ℕ) (a b c : LinkSeen) (turn : Turn) (first : AgreesAfterTurnsOf side old mid so_far k a b)
    (turned : AgreesAfterTurn first.left mid new (set so_far (k - 1) (first.own ++ first.given)) k b c turn round) → let s = one_turn_more side old mid new so_far k a b c turn first turned in
    (s.is ≡ turned.agrees.is) × (s.given ≡ first.given ++ turned.agrees.given) × (s.asked ≡ first.asked ++ turned.agrees.asked) × (s.failed ≡ first.failed ++ turned.agrees.failed)
unfolding one_turn_more
one_turn_more_is side old mid new so_far k a b c turn first turned = (refl, refl, refl, refl)

-- a link that is honest with a side under the base of a convoy is so under the same base later
pub honest_still : (base other : BaseParts) (side : Side) (link : LinkSeen) → other ≡ base → IsHonestWith link base side → IsHonestWith link other side
honest_still base other side link same honest = subst (λ (b : BaseParts). IsHonestWith link b side) (sym same) honest

-- turns of client k alone keep a convoy in agreement, and are this round
pub record AgreesSo (side : Side) (old new : ConvoyState) (so_far : List (List Want)) (k : ℕ) (before after : LinkSeen) (round : Round) : Type 0 where
  pub agrees : AgreesAfterTurnsOf side old new so_far k before after
  pub round_is : round_with agrees.given agrees.failed agrees.asked ≡ round

-- client k alone had turns
pub turns_agree :
    {X : Type 0} (seen : X → LinkSeen) (side : Side) (old new : ConvoyState) (so_far : List (List Want)) (k : ℕ) (before after : X) (steps : List (Step X)) (member : Member) →
    IsHonestWith (seen before) old.base side → FitsConvoy side old so_far → slice_get new.members (k - 1) ≡ Some member → (turns : TurnsOf seen k steps old new before after) →
    AgreesSo side old new so_far k (seen before) (seen after) (round_in seen k steps old new before after turns)
turns_agree {X} seen side old new so_far k before after [] member honest fits has turns =
    let there : slice_get old.members (k - 1) ≡ Some member = subst (λ (c : ConvoyState). slice_get c.members (k - 1) ≡ Some member) turns.0 has in
    let nothing = nothing_yet side old so_far k (seen before) member honest fits there in
    let is = nothing_yet_is side old so_far k (seen before) member honest fits there in
    subst (λ (x : X). AgreesSo side old new so_far k (seen before) (seen x) (round_with [] [] [])) (sym turns.1)
    (subst (λ (c : ConvoyState). AgreesSo side old c so_far k (seen before) (seen before) (round_with [] [] [])) (sym turns.0)
    (record { agrees = nothing; round_is = same_round nothing.given nothing.failed nothing.asked (round_with [] [] []) is.1 is.3 is.2 }))
turns_agree seen side old new so_far k before after (step ∷ earlier) member honest fits has (last, turns) =
    let so = turns_agree seen side old step.convoy so_far k before step.link earlier last.turned.was honest fits last.turned.had turns in
    let first = so.agrees in
    let still = honest_still old.base step.convoy.base first.left (seen step.link) first.base first.honest.honest in
    let turned = turn_agrees seen first.left step.convoy new (set so_far (k - 1) (first.own ++ first.given)) k step.link after step.turn still first.fits last in
    let both = one_turn_more side old step.convoy new so_far k (seen before) (seen step.link) (seen after) step.turn first turned in
    let is = one_turn_more_is side old step.convoy new so_far k (seen before) (seen step.link) (seen after) step.turn first turned in
    record {
      agrees = both;
      round_is =
          round_of_both both.given both.failed both.asked (round_with first.given first.failed first.asked)
          (round_with turned.agrees.given turned.agrees.failed turned.agrees.asked) (round_in seen k earlier old step.convoy before step.link turns)
          (round_at step.turn (shown last.turned.was.client) (shown last.turned.is.client)) is.1 is.3 is.2 so.round_is turned.round_is;
    }
