-- Client after client reaches its outcome, and the convoy goes on to agree with the side that is left.
use Rattle.std.proofs.Common.{◌⊎◌, ap₂, ◌≡◌, ℕ, zero, suc, ◌+◌, ◌-◌, ◌<◌, ◌≤◌, inl, inr, List, [], ◌∷◌, ◌++◌, length, map, Some, refl, sym, subst, ◌∙◌, arith}
use Rattle.std.specs.Prelude.{set}
use Rattle.std.specs.List.{slice_get}
use Rattle.std.proofs.lemmas.List.{length-append}
use Rattle.std.proofs.lemmas.Option.{slice_get_within}
use Rattle.csa_scan.proofs.ListPlacesLemmas.{same_place, slice_get-append, slice_get-last, slice_get-set_other, slice_get-set_same}
use Rattle.lc_model.specs.declared.page.PageName.{PageName}
use Rattle.connection_uri.specs.Base.{BaseParts}
use Rattle.lc_io.specs.Counts.{Rose, RoseBy}
use Rattle.lc_io.proofs.CountLemmas.{RoseBy-none, RoseBy-then}
use Rattle.lc_world.specs.Link.{IsHonestWith, LinkSeen}
use Rattle.page_client.specs.Client.{shown}
use Rattle.page_client.specs.Shown.{Shown}
use Rattle.page_client.specs.declared.want.Want.{Want}
use Rattle.lc_world.specs.Sides.Side.{IsLater, Side}
use Rattle.lc_world.proofs.SidesLemmas.LaterLemmas.{later_itself}
use Rattle.convoy.proofs.ClientLawsLemmas.FitsLemmas.{fits_stays, has_own}
use Rattle.convoy.specs.Finish.{Ends, HasOutcome, Rounds}
use Rattle.convoy.specs.State.{ConvoyState}
use Rattle.convoy.specs.declared.member.Member.{Member}
use Rattle.convoy.specs.Agreement.Agreement.{FitsConvoy}
use Rattle.convoy.specs.Agreement.Leaves.{AgreesAfterOutcome, HasReachedOutcome, HasMoved, LeavesHonest, NoneFailed, OneFailed, AgreesAfterRounds, AgreesAfterTurnsOf}
use Rattle.convoy.specs.Agreement.Names.{Round, asked_of, failures_in, names_after, names_behind, names_of}
use Rattle.convoy.specs.Agreement.Requests.{TellsAsked, TellsRequests, request_of, requests_of}
use Rattle.convoy.specs.Agreement.Rounds.{round_in, rounds_up_to}
use Rattle.convoy.proofs.AgreementLemmas.AskedLemmas.{failed_later}
use Rattle.convoy.proofs.AgreementLemmas.HonestLemmas.{leaves_alone, leaves_then, no_less}
use Rattle.convoy.proofs.AgreementLemmas.NamedLemmas.{version_wider}
use Rattle.convoy.proofs.AgreementLemmas.NamesLemmas.{ask_by_names-more, names_behind-more}
use Rattle.convoy.proofs.AgreementLemmas.RequestLemmas.{no_requests, requests_more, requests_then}
use Rattle.convoy.proofs.AgreementLemmas.TurnLemmas.{honest_still, one_at, rose_wider, turns_agree}

-- client k was turned until it had its outcome
pub end_agrees :
    {X : Type 0} (seen : X → LinkSeen) (side : Side) (old new : ConvoyState) (so_far : List (List Want)) (k : ℕ) (before after : X) → IsHonestWith (seen before) old.base side →
    FitsConvoy side old so_far → (ends : Ends seen k old new before after) →
    AgreesAfterOutcome side old new so_far k (seen before) (seen after) (round_in seen k ends.steps old new before after ends.turns)
end_agrees seen side old new so_far k before after honest fits ends =
    let so = turns_agree seen side old new so_far k before after ends.steps ends.member honest fits ends.is ends.turns in
    record { agrees = so.agrees; round_is = so.round_is; ended = subst HasOutcome (one_at new.members (k - 1) ends.member so.agrees.is ends.is so.agrees.has) ends.ended }

-- what became of a client is seen from further away
moved_wider :
    (side from to left : Side) (old new : Shown) (a b c d : LinkSeen) (given : List Want) → IsLater side from → IsLater to left → a.faults ≤ b.faults → c.faults ≤ d.faults →
    HasMoved from to old new b c given → HasMoved side left old new a d given
moved_wider side from to left old new a b c d given earlier later before after moved = record {
  query = moved.query;
  outcome = moved.outcome;
  version = version_wider side from to left old old given new.version earlier later refl refl moved.version;
  fault = λ low high had some. rose_wider a.faults b.faults c.faults d.faults low high before after (moved.fault low high had some);
}

minus : (n : ℕ) → suc n - 1 ≡ n
minus n = omega arith

below : (place n : ℕ) → place < suc n → (place ≡ n → ⊥) → place < n
below place n lt not = omega arith

beyond : (place n : ℕ) → suc n ≤ place → n ≤ place
beyond place n le = omega arith

no_place : (place n : ℕ) → suc n ≤ place → place ≡ suc n - 1 → ⊥
no_place place n le same = omega arith

not_last : (place n : ℕ) → (place ≡ n → ⊥) → place ≡ suc n - 1 → ⊥
not_last place n not same = not (same ∙ minus n)

none_below : (place : ℕ) → place < 0 → ⊥
none_below place lt = omega arith

one_longer : (rounds : List Round) (more : Round) (n : ℕ) → length rounds ≡ n → length (rounds ++ more ∷ []) ≡ suc n
one_longer rounds more n is = omega (arith, length-append rounds (more ∷ []))

failures_more : (rounds : List Round) (more : Round) → failures_in (rounds ++ more ∷ []) ≡ failures_in rounds + length more.failed
failures_more [] more = omega arith
failures_more (round ∷ rounds) more = omega (arith, failures_more rounds more)

-- the count increased where the exchange of a client failed
rose_by : (side left : Side) (was is : Shown) (a b : LinkSeen) (given all_given failed : List Want) → a.faults ≤ b.faults → HasMoved side left was is a b given →
    NoneFailed was is failed ⊎ OneFailed left was is all_given failed → RoseBy (length failed) a.faults b.faults
rose_by side left was is a b given all_given failed not_fallen moved (inl none) = subst (λ (l : List Want). RoseBy (length l) a.faults b.faults) (sym none.none) (RoseBy-none a.faults b.faults not_fallen)
rose_by side left was is a b given all_given failed not_fallen moved (inr one) =
    let rose = moved.fault one.by_fault.low one.by_fault.high one.waited one.by_fault.is in
    subst (λ (l : List Want). RoseBy (length l) a.faults b.faults) (sym one.one) (once a.faults b.faults one.by_fault.low one.by_fault.high rose.from rose.to rose.rose) where
      once : (a b low high : ℕ) → a ≤ low → high ≤ b → Rose low high → RoseBy 1 a b
      once a b low high from to rose = omega arith

-- one client more
module _ (side : Side) (old mid new : ConvoyState) (so_far : List (List Want)) (n : ℕ) (a b c : LinkSeen) (rounds : List Round) (first : AgreesAfterRounds side old mid so_far n a b rounds)
    (second : AgreesAfterTurnsOf first.left mid new first.now (suc n) b c) (ended : HasOutcome second.is) where
  abbrev now : List (List Want)
  now = set first.now (suc n - 1) (second.own ++ second.given)

  -- its round
  abbrev round : Round
  round = record { given = second.given; failed = second.failed; asked = second.asked }

  leaves : LeavesHonest old.base first.left second.left b c
  leaves = subst (λ (base : BaseParts). LeavesHonest base first.left second.left b c) first.base second.honest

  -- the client whose round it is
  comes : (was : Member) (place : ℕ) → place ≡ n → slice_get old.members place ≡ Some was → HasReachedOutcome side second.left was new so_far now (rounds ++ round ∷ []) place a c
  comes was place at had =
      let index : place ≡ suc n - 1 = at ∙ sym (minus n) in
      let untouched : slice_get mid.members place ≡ slice_get old.members place = first.others place (no_less_at n place at) in
      let found : slice_get mid.members (suc n - 1) ≡ Some was = subst (λ (i : ℕ). slice_get mid.members i ≡ Some was) index (untouched ∙ had) in
      let same : second.was ≡ was = one_at mid.members (suc n - 1) second.was was second.had found in
      let within = slice_get_within first.now (suc n - 1) second.own second.own_is in
      record {
        is = second.is;
        has = subst (λ (i : ℕ). slice_get new.members i ≡ Some second.is) (sym index) second.has;
        ended = ended;
        own = second.own;
        own_is = sym (first.same place (no_less_at n place at)) ∙ subst (λ (i : ℕ). slice_get first.now i ≡ Some second.own) (sym index) second.own_is;
        round = round;
        round_is = subst (λ (i : ℕ). slice_get (rounds ++ round ∷ []) i ≡ Some (round)) (first.one_each ∙ sym at) (slice_get-last rounds round);
        all_is =
            subst (λ (i : ℕ). slice_get now i ≡ Some (second.own ++ second.given)) (sym index)
            (slice_get-set_same first.now (suc n - 1) (second.own ++ second.given) within);
        idle = λ some. second.idle (subst HasOutcome (sym same) some);
        gate_once = second.gate_once;
        count = subst (λ (m : Member). second.is.exchanges ≡ m.exchanges + length second.asked) same second.gone.count;
        moved =
            moved_wider side first.left second.left second.left (shown was.client) (shown second.is.client) a b c c second.given first.honest.later (later_itself second.left)
            first.honest.not_fallen (no_less c.faults)
            (subst (λ (m : Member). HasMoved first.left second.left (shown m.client) (shown second.is.client) b c second.given) same second.gone.moved);
        how =
            subst (λ (m : Member). NoneFailed (shown m.client) (shown second.is.client) second.failed ⊎ OneFailed second.left (shown m.client) (shown second.is.client) (second.own ++ second.given) second.failed)
            same second.by_names.how;
        client = second.client;
      } where
        no_less_at : (n place : ℕ) → place ≡ n → n ≤ place
        no_less_at n place at = omega arith

  -- the others
  came_before : (was : Member) (place : ℕ) → (place ≡ n → ⊥) → HasReachedOutcome side first.left was mid so_far first.now rounds place a b →
      HasReachedOutcome side second.left was new so_far now (rounds ++ round ∷ []) place a c
  came_before was place not came = record {
    is = came.is;
    has = second.others place (not_last place n not) ∙ came.has;
    ended = came.ended;
    own = came.own;
    own_is = came.own_is;
    round = came.round;
    round_is = slice_get-append rounds (round ∷ []) place came.round came.round_is;
    all_is = slice_get-set_other first.now (suc n - 1) (second.own ++ second.given) place (not_last place n not) ∙ came.all_is;
    idle = came.idle;
    gate_once = came.gate_once;
    count = came.count;
    how = how_later came.how;
    moved =
        moved_wider side side first.left second.left (shown was.client) (shown came.is.client) a a b c came.round.given (later_itself side) second.honest.later (no_less a.faults) second.honest.not_fallen
        came.moved;
    client = fits_stays first.left second.left came.is.client (came.own ++ came.round.given) second.honest.honest.stands.valid second.honest.later came.client;
  } where
    how_later : NoneFailed (shown was.client) (shown came.is.client) came.round.failed ⊎ OneFailed first.left (shown was.client) (shown came.is.client) (came.own ++ came.round.given) came.round.failed →
        NoneFailed (shown was.client) (shown came.is.client) came.round.failed ⊎ OneFailed second.left (shown was.client) (shown came.is.client) (came.own ++ came.round.given) came.round.failed
    how_later (inl none) = inl none
    how_later (inr one) =
        inr (failed_later first.left second.left (shown was.client) (shown came.is.client) (came.own ++ came.round.given) came.round.failed second.honest.honest.stands.valid second.honest.later
        (λ version at. has_own first.left came.is.client.version version at came.client.of_side) one)

  -- what was asked for the first clients, and then for this one
  tells : TellsRequests a.recorded c.recorded old.base.authority (requests_of old.base old.members (rounds ++ round ∷ []))
  tells =
      let at_n : slice_get mid.members n ≡ Some second.was = subst (λ (i : ℕ). slice_get mid.members i ≡ Some second.was) (minus n) second.had in
      let was_there : slice_get old.members (length rounds) ≡ Some second.was =
      subst (λ (i : ℕ). slice_get old.members i ≡ Some second.was) (sym first.one_each) (sym (first.others n (no_less n)) ∙ at_n) in
      let recorded : TellsAsked b.recorded c.recorded old.base (shown second.was.client).query second.asked =
      subst (λ (base : BaseParts). TellsAsked b.recorded c.recorded base (shown second.was.client).query second.asked) first.base second.gone.recorded in
      subst (TellsRequests a.recorded c.recorded old.base.authority) (sym (requests_more old.base old.members rounds second.was round was_there))
      (requests_then a.recorded b.recorded c.recorded old.base.authority (requests_of old.base old.members rounds) (map (request_of old.base (shown second.was.client).query) second.asked) first.recorded recorded)

  -- the names of the pages that are cached then
  names_then : names_of new.kept.pages ≡ names_after old.kept.capacity (names_behind old.kept.capacity (names_of old.kept.pages) rounds) second.given
  names_then = second.by_names.names ∙ ap₂ (λ (capacity : ℕ) (names : List PageName). names_after capacity names second.given) first.capacity first.names

  one_round_more : AgreesAfterRounds side old new so_far (suc n) a c (rounds ++ round ∷ [])
  one_round_more = record {
    left = second.left;
    honest = leaves_then old.base side first.left second.left a b c first.honest leaves;
    base = second.base ∙ first.base;
    now = now;
    fits = second.fits;
    one_each = one_longer rounds round n first.one_each;
    by_names =
        ask_by_names-more old.kept.capacity (names_of old.kept.pages) rounds round first.by_names
        (record {
          asked = second.by_names.are ∙ ap₂ (λ (capacity : ℕ) (names : List PageName). asked_of capacity names (second.given ++ second.failed)) first.capacity first.names;
          not_kept =
              ap₂ (λ (capacity : ℕ) (names : List PageName). asked_of capacity names second.failed) (sym first.capacity) (sym names_then) ∙ second.by_names.not_kept;
        });
    capacity = second.by_names.capacity ∙ first.capacity;
    names = names_then ∙ sym (names_behind-more old.kept.capacity (names_of old.kept.pages) rounds round);
    recorded = tells;
    faults =
        subst (λ (n : ℕ). RoseBy n a.faults c.faults) (sym (failures_more rounds round))
        (RoseBy-then (failures_in rounds) (length second.failed) a.faults b.faults c.faults first.faults
        (rose_by first.left second.left (shown second.was.client) (shown second.is.client) b c second.given (second.own ++ second.given) second.failed second.honest.not_fallen second.gone.moved second.by_names.how));
    came = λ place was lt had. elim (same_place place n) [
      | inl at ↦ comes was place at had
      | inr not ↦ came_before was place not (first.came place was (below place n lt not) had)
    ];
    others = λ place beyond_it. second.others place (no_place place n beyond_it) ∙ first.others place (beyond place n beyond_it);
    same = λ place beyond_it. slice_get-set_other first.now (suc n - 1) (second.own ++ second.given) place (no_place place n beyond_it) ∙ first.same place (beyond place n beyond_it);
  }

pub rounds_agree :
    {X : Type 0} (seen : X → LinkSeen) (side : Side) (old new : ConvoyState) (so_far : List (List Want)) (n : ℕ) (before after : X) → IsHonestWith (seen before) old.base side →
    FitsConvoy side old so_far → (rounds : Rounds seen n old new before after) →
    AgreesAfterRounds side old new so_far n (seen before) (seen after) (rounds_up_to seen n old new before after rounds)
rounds_agree {X} seen side old new so_far zero before after honest fits rounds =
    subst (λ (x : X). AgreesAfterRounds side old new so_far zero (seen before) (seen x) []) (sym rounds.1)
    (subst (λ (convoy : ConvoyState). AgreesAfterRounds side old convoy so_far zero (seen before) (seen before) []) (sym rounds.0) (record {
      left = side;
      honest = leaves_alone old.base side (seen before) honest;
      base = refl;
      now = so_far;
      fits = fits;
      one_each = refl;
      by_names = tt;
      capacity = refl;
      names = refl;
      recorded = no_requests (seen before).recorded old.base old.members;
      faults = RoseBy-none (seen before).faults (seen before).faults (no_less (seen before).faults);
      came = λ place was lt had. absurd (none_below place lt);
      others = λ place beyond_it. refl;
      same = λ place beyond_it. refl;
    }))
rounds_agree seen side old new so_far (suc n) before after honest fits (mid, link, rounds, ends) =
    let first = rounds_agree seen side old mid so_far n before link honest fits rounds in
    let still = honest_still old.base mid.base first.left (seen link) first.base first.honest.honest in
    let second = end_agrees seen first.left mid new first.now (suc n) link after still first.fits ends in
    let all = rounds_up_to seen n old mid before link rounds in
    subst (λ (r : Round). AgreesAfterRounds side old new so_far (suc n) (seen before) (seen after) (all ++ r ∷ [])) second.round_is
    (one_round_more side old mid new so_far n (seen before) (seen link) (seen after) all first second.agrees second.ended)
