-- Whose failure it was, and by which counts.
use Rattle.std.proofs.Common.{◌≡◌, ◌∙◌, ◌==◌, ◌&&◌, ◌+◌, ℕ, suc, zero, Bool, true, false, List, [], ◌∷◌, ◌++◌, Option, Some, None, ap, ap₂, cond, eq-eqb, eqb-true, is_none, refl, subst, sym}
use Rattle.std.specs.Prelude.{IsSome}
use Rattle.std.specs.List.{All, filter, slice_get}
use Rattle.std.proofs.lemmas.List.{map-append}
use Rattle.std.proofs.lemmas.List.Elements.{All-head, All-tail, filter-append}
use Rattle.convoy.specs.Replies.Met.{HasFailedBetween, Met}
use Rattle.convoy.specs.Agreement.Names.{Round}
use Rattle.page_client.specs.declared.want.Want.{Want}
use Rattle.cli_replay.specs.ReplayLaws.History.{AreMetIn, IsMetIn, wants_of}
use Rattle.cli_replay.specs.ReplayLaws.Turns.{failed_in, given_in, order_of, rounds_of}
use Rattle.cli_ask.specs.Publishing.{side_with}
use Rattle.page_client.specs.declared.outcome.Outcome.{Outcome}
use Rattle.page_client.specs.declared.outcome.Outcome.TheVariants as outcomes
use Rattle.lc_model.specs.declared.query.Query.{Query}
use Rattle.lc_world.specs.Sides.Side.{Side}
use Rattle.cli_replay.specs.ReplayLaws.Right.{FailsWith}
use Rattle.cli_replay.specs.ReplayLaws.Laws.{FaultsAreOwn}

abbrev HasReply : Met → Type 0
HasReply met = IsSome met.made.got

abbrev HasNone : Met → Type 0
HasNone met = met.made.got ≡ None

abbrev Own : ℕ → Met → Type 0
Own c met = met.client ≡ c

-- an exchange of the client that failed
abbrev pub fails : ℕ → Met → Bool
fails c met = (met.client == c) && is_none met.made.got

abbrev pub fails_of : ℕ → List Met → List Met
fails_of c all = filter (fails c) all

and_false : (b : Bool) → (b && false) ≡ false
and_false true = refl
and_false false = refl

some_not_none : (o : Option (List ℕ)) → IsSome o → is_none o ≡ false
some_not_none None h = absurd (cc)
some_not_none (Some x) h = refl

fails_lost : (c : ℕ) (met : Met) → met.client ≡ c → HasNone met → fails c met ≡ true
fails_lost c met own none = ap₂ (λ (a b : Bool). a && b) (eq-eqb met.client c own) (ap (λ (o : Option (List ℕ)). is_none o) none)

fails_replied : (c : ℕ) (met : Met) → HasReply met → fails c met ≡ false
fails_replied c met got = ap (λ (b : Bool). (met.client == c) && b) (some_not_none met.made.got got) ∙ and_false (met.client == c)

fails_other : (c k : ℕ) (met : Met) → met.client ≡ k → (k == c) ≡ false → fails c met ≡ false
fails_other c k met own other = ap (λ (b : Bool). b && is_none met.made.got) (ap (λ (n : ℕ). n == c) own ∙ other)

keep : (p : Met → Bool) (met : Met) (all : List Met) → p met ≡ true → filter p (met ∷ all) ≡ met ∷ filter p all
keep p met all is = ap (λ (b : Bool). cond b (met ∷ filter p all) (filter p all)) is

leave : (p : Met → Bool) (met : Met) (all : List Met) → p met ≡ false → filter p (met ∷ all) ≡ filter p all
leave p met all is = ap (λ (b : Bool). cond b (met ∷ filter p all) (filter p all)) is

all_lost : (c : ℕ) (all : List Met) → All (Own c) all → All HasNone all → fails_of c all ≡ all
all_lost c [] own none = refl
all_lost c (met ∷ all) own none =
    keep (fails c) met all (fails_lost c met (All-head (Own c) met all own) (All-head HasNone met all none))
    ∙ ap (λ (l : List Met). met ∷ l) (all_lost c all (All-tail (Own c) met all own) (All-tail HasNone met all none))

all_replied : (c : ℕ) (all : List Met) → All HasReply all → fails_of c all ≡ []
all_replied c [] got = refl
all_replied c (met ∷ all) got =
    leave (fails c) met all (fails_replied c met (All-head HasReply met all got)) ∙ all_replied c all (All-tail HasReply met all got)

all_other : (c k : ℕ) (all : List Met) → All (Own k) all → (k == c) ≡ false → fails_of c all ≡ []
all_other c k [] own other = refl
all_other c k (met ∷ all) own other =
    leave (fails c) met all (fails_other c k met (All-head (Own k) met all own) other) ∙ all_other c k all (All-tail (Own k) met all own) other

back_own : (c : ℕ) (front back : List Met) → All (Own c) (front ++ back) → All (Own c) back
back_own c [] back own = own
back_own c (met ∷ front) back own = back_own c front back (All-tail (Own c) met (front ++ back) own)

-- the failures of its own round
own_round : (c : ℕ) (round : Round) (part : List Met) → IsMetIn c round part → wants_of (fails_of c part) ≡ round.failed
own_round c round part one =
    let own : All (Own c) (one.replied ++ one.lost) = subst (All (Own c)) one.are one.own in
    let here : fails_of c part ≡ one.lost =
    ap (fails_of c) one.are ∙ filter-append (fails c) one.replied one.lost
    ∙ ap₂ (λ (x y : List Met). x ++ y) (all_replied c one.replied one.got) (all_lost c one.lost (back_own c one.replied one.lost own) one.got_none) in
    ap wants_of here ∙ sym one.failed

-- the failed exchanges of a client are what failed in its rounds
pub fails_in : (c : ℕ) (order : List ℕ) (rounds : List Round) (met : List Met) → AreMetIn order rounds met → wants_of (fails_of c met) ≡ failed_in (rounds_of c order rounds)
fails_in c [] [] met are = ap (λ (l : List Met). wants_of (fails_of c l)) are
fails_in c [] (r ∷ rs) met are = absurd are
fails_in c (k ∷ order) [] met are = absurd are
fails_in c (k ∷ order) (r ∷ rs) met (part, rest, is, one, more) = split ∙ by_test (k == c) refl (fails_in c order rs rest more) where
  split : wants_of (fails_of c met) ≡ wants_of (fails_of c part) ++ wants_of (fails_of c rest)
  split = ap (λ (l : List Met). wants_of (fails_of c l)) is ∙ ap wants_of (filter-append (fails c) part rest) ∙ map-append (λ (met : Met). met.made.want) (fails_of c part) (fails_of c rest)

  by_test : (b : Bool) → (k == c) ≡ b → wants_of (fails_of c rest) ≡ failed_in (rounds_of c order rs) → wants_of (fails_of c part) ++ wants_of (fails_of c rest) ≡ failed_in (rounds_of c (k ∷ order) (r ∷ rs))
  by_test true e later =
      let mine : IsMetIn c r part = subst (λ (n : ℕ). IsMetIn n r part) (eqb-true k c e) one in
      ap₂ (λ (x y : List Want). x ++ y) (own_round c r part mine) later
      ∙ sym (ap (λ (b : Bool). failed_in (cond b (r ∷ rounds_of c order rs) (rounds_of c order rs))) e)
  by_test false e later =
      ap₂ (λ (x y : List Want). x ++ y) (ap wants_of (all_other c k part one.own e)) later
      ∙ sym (ap (λ (b : Bool). failed_in (cond b (r ∷ rounds_of c order rs) (rounds_of c order rs))) e)

-- what failed is among these
among : (c : ℕ) (all : List Met) (place : ℕ) (met : Met) → slice_get all place ≡ Some met → fails c met ≡ true → (j : ℕ) × (slice_get (fails_of c all) j ≡ Some met)
among c [] place met is passes = absurd (cc)
among c (m ∷ all) zero met is passes =
    let same : m ≡ met = cc in
    (0, subst (λ (l : List Met). slice_get l 0 ≡ Some met) (sym (keep (fails c) m all (ap (fails c) same ∙ passes))) is)
among c (m ∷ all) (suc place) met is passes = by_test (fails c m) refl (among c all place met is passes) where
  by_test : (b : Bool) → fails c m ≡ b → (j : ℕ) × (slice_get (fails_of c all) j ≡ Some met) → (j : ℕ) × (slice_get (fails_of c (m ∷ all)) j ≡ Some met)
  by_test true e (j, at) = (suc j, subst (λ (l : List Met). slice_get l (suc j) ≡ Some met) (sym (keep (fails c) m all e)) at)
  by_test false e (j, at) = (j, subst (λ (l : List Met). slice_get l j ≡ Some met) (sym (leave (fails c) m all e)) at)

one_there : (l : List Met) (w : Want) (i j : ℕ) (x y : Met) → wants_of l ≡ w ∷ [] → slice_get l i ≡ Some x → slice_get l j ≡ Some y → x ≡ y
one_there [] w i j x y is at there = absurd (cc)
one_there (m ∷ n ∷ l) w i j x y is at there = absurd (cc)
one_there (m ∷ []) w zero zero x y is at there = cc
one_there (m ∷ []) w zero (suc j) x y is at there = absurd (cc)
one_there (m ∷ []) w (suc i) j x y is at there = absurd (cc)

none_there : (l : List Met) (i : ℕ) (x : Met) → wants_of l ≡ [] → slice_get l i ≡ Some x → ⊥
none_there [] i x is at = absurd (cc)
none_there (m ∷ l) i x is at = absurd (cc)

is_failure : (c low high : ℕ) (met : List Met) (f : HasFailedBetween c low high met) → fails c f.exchange ≡ true
is_failure c low high met f = fails_lost c f.exchange f.own f.failed

-- a client whose rounds have one failure has one pair of counts
pub one_pair : (c : ℕ) (order : List ℕ) (rounds : List Round) (met : List Met) (w : Want) (low high other later : ℕ) → AreMetIn order rounds met →
    failed_in (rounds_of c order rounds) ≡ w ∷ [] → HasFailedBetween c low high met → HasFailedBetween c other later met → (low ≡ other) × (high ≡ later)
one_pair c order rounds met w low high other later are one f g =
    let here = among c met f.place f.exchange f.there (is_failure c low high met f) in
    let there = among c met g.place g.exchange g.there (is_failure c other later met g) in
    let same : f.exchange ≡ g.exchange = one_there (fails_of c met) w here.0 there.0 f.exchange g.exchange (fails_in c order rounds met are ∙ one) here.1 there.1 in
    (sym f.low_is ∙ ap (λ (m : Met). m.low) same ∙ g.low_is, sym f.high_is ∙ ap (λ (m : Met). m.high) same ∙ g.high_is)

-- who failed by what was received failed in its rounds
pub none_failed : (c : ℕ) (order : List ℕ) (rounds : List Round) (met : List Met) (low high : ℕ) → AreMetIn order rounds met →
    failed_in (rounds_of c order rounds) ≡ [] → HasFailedBetween c low high met → ⊥
none_failed c order rounds met low high are none f =
    let here = among c met f.place f.exchange f.there (is_failure c low high met f) in
    none_there (fails_of c met) here.0 f.exchange (fails_in c order rounds met are ∙ none) here.1

-- whoever failed at something ended by a fault of the link
pub only_fault : (side : Side) (query : Query) (version : Option ℕ) (given failed : List Want) (outcome : Outcome) → FailsWith side query version given failed outcome → (failed ≡ [] → ⊥) →
    (low : ℕ) × (high : ℕ) × (outcome ≡ outcomes.LinkFault low high)
only_fault side query version given failed (outcomes.Found journey) so some = absurd (some so)
only_fault side query version given failed outcomes.NoJourney so some = absurd (some so)
only_fault side query version given failed (outcomes.Refused fault) so some = absurd (some so)
only_fault side query version given failed (outcomes.LinkFault low high) so some = (low, high, refl)
only_fault side query version given failed (outcomes.PeerWrong reply fault) so some = absurd (some so)

pub one_failed : (side : Side) (query : Query) (version : Option ℕ) (given failed : List Want) (outcome : Outcome) (low high : ℕ) → FailsWith side query version given failed outcome → outcome ≡ outcomes.LinkFault low high →
    (want : Want) × (failed ≡ want ∷ [])
one_failed side query version given failed outcome low high so is =
    let fails = subst (FailsWith side query version given failed) is so in (fails.want, fails.one)

-- a client ended by a fault of the link with the counts of each exchange of its own that failed
pub faults_are_own : FaultsAreOwn
faults_are_own made publishing all cache recorded now_recorded faults now_faults lines ends caused right place query end asks ended low high fell =
    let so = right.clients place query end asks ended in
    let side : Side = side_with made publishing right.store in
    let own : List Round = rounds_of (place + 1) (order_of all) right.rounds in
    let by_fault = only_fault side query end.version (given_in own) (failed_in own) end.outcome so.failed
    (λ none. none_failed (place + 1) (order_of all) right.rounds caused.met low high right.met_in none fell) in
    let one = one_failed side query end.version (given_in own) (failed_in own) end.outcome by_fault.0 by_fault.1 so.failed by_fault.2 in
    let same = one_pair (place + 1) (order_of all) right.rounds caused.met one.0 by_fault.0 by_fault.1 low high right.met_in one.1
    ((caused.clients place query end asks ended).fault by_fault.0 by_fault.1 by_fault.2) fell in
    by_fault.2 ∙ ap (λ (l : ℕ). outcomes.LinkFault l by_fault.1) same.0 ∙ ap (outcomes.LinkFault low) same.1
