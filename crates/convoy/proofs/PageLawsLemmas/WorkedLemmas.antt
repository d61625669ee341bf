-- Near values that are refused.
use Rattle.std.proofs.Common.{◌≡◌, ℕ, zero, suc, ◌<◌, ◌≤◌, ◌⊎◌, inl, inr, List, [], ◌∷◌, ◌+◌, length, Some, None, refl, ap, sym, ◌∙◌, arith, lit<, lit≤}
use Rattle.std.specs.Prelude.{codes}
use Rattle.std.specs.List.{Contains}
use Rattle.std.specs.Ordering.{ordering_then}
use Rattle.std.specs.declared.cmp.Ordering.TheVariants.{Less, Equal}
use Rattle.std.proofs.lemmas.Cmp.{tied_itself}
use Rattle.std.proofs.lemmas.List.Elements.{All-cons, All-head, All-nil, All-tail}
use Rattle.std.proofs.lemmas.List.Kept.{AllPairs-cons}
use Rattle.lc_model.specs.Connection.{departure_cmp, InDepartureOrder}
use Rattle.lc_model.specs.Journey.{AreRides}
use Rattle.lc_model.specs.Leg.{IsChain, IsLegOf, IsListBest, in_time}
use Rattle.lc_model.specs.RunKey.{key_cmp}
use Rattle.lc_model.specs.Totals.{key_cmp_total}
use Rattle.lc_model.specs.declared.connection.Connection.{Connection}
use Rattle.lc_model.specs.declared.doc.StopsDoc.{StopsDoc}
use Rattle.lc_model.specs.declared.journey.Journey.{Journey}
use Rattle.lc_model.specs.declared.key.RunKey.{RunKey}
use Rattle.lc_model.specs.declared.query.Query.{Query}
use Rattle.lc_model.specs.declared.ride.Ride.{Ride}
use Rattle.lc_model.specs.Versions.Cuts.{first_of}
use Rattle.lc_model.specs.Versions.Pages.{CutPage, departures_of}
use Rattle.lc_model.specs.Versions.Worked.{connection_at, page_at}
use Rattle.convoy.specs.PageLaws.Chain.{along_next, names_of}
use Rattle.convoy.specs.PageLaws.Needed.{needed_names, up_to_bound}
use Rattle.convoy.specs.PageLaws.Worked.{FrontMayBeAllAtOnce, Leaves, RefusedCuts, WorkedNeeded, WorkedSeconds, at, at_eight, four, from_nine, in_sequence, page_with, six}
use Rattle.convoy.proofs.PageLawsLemmas.RowLemmas.{Begin, are_the_list, begin_on_time, seconds_are_whole}

-- a list of six has no other item
not_among : (m : ℕ) → Contains six m → (m ≡ at 8 0) ⊎ ((m ≡ at 8 11) ⊎ ((m ≡ at 8 12) ⊎ ((m ≡ at 8 20) ⊎ ((m ≡ at 9 0) ⊎ (m ≡ at 10 0)))))
not_among m (zero, within, is) = inl (sym is)
not_among m (suc zero, within, is) = inr (inl (sym is))
not_among m (suc (suc zero), within, is) = inr (inr (inl (sym is)))
not_among m (suc (suc (suc zero)), within, is) = inr (inr (inr (inl (sym is))))
not_among m (suc (suc (suc (suc zero))), within, is) = inr (inr (inr (inr (inl (sym is)))))
not_among m (suc (suc (suc (suc (suc zero)))), within, is) = inr (inr (inr (inr (inr (sym is)))))
not_among m (suc (suc (suc (suc (suc (suc k))))), within, is) = absurd (omega arith)

no_half_past : Contains six (at 8 30) → ⊥
no_half_past stands =
    let cases = not_among (at 8 30) stands in
    omega (arith, cases)

pub refused_cuts : RefusedCuts
refused_cuts = record {
  without_first = λ lawful. (let e : Some (at 9 0) ≡ Some (at 8 0) = lawful.begin in let same : at 9 0 ≡ at 8 0 = cc in omega arith);
  no_departure = λ lawful. no_half_past (All-head (λ (m : ℕ). Contains six m) (at 8 30) [] (All-tail (λ (m : ℕ). Contains six m) (at 8 0) (at 8 30 ∷ []) lawful.members));
  twice = λ lawful. (let below : at 9 0 < at 9 0 = lawful.rising 1 2 0 (lit< tt) (lit< tt) in omega arith);
  none_at_all = λ lawful. (let e : None ≡ Some (at 8 0) = lawful.begin in cc);
}

-- the pages of an arrival for a question that leaves then
needed_by : (first : CutPage) (rest : List CutPage) (query : Query) (moment horizon arrival : ℕ) → Leaves query moment horizon →
    needed_names first rest query (Some arrival) ≡ names_of (up_to_bound arrival (along_next first rest moment))
needed_by first rest query moment horizon arrival is = ap (λ m. names_of (up_to_bound arrival (along_next first rest m))) is.leaves

-- those of a horizon without a journey
needed_within : (first : CutPage) (rest : List CutPage) (query : Query) (moment horizon : ℕ) → Leaves query moment horizon →
    needed_names first rest query None ≡ names_of (up_to_bound (moment + horizon) (along_next first rest moment))
needed_within first rest query moment horizon is =
    ap (λ m. names_of (up_to_bound (m + query.horizon) (along_next first rest m))) is.leaves
    ∙ ap (λ h. names_of (up_to_bound (moment + h) (along_next first rest moment))) is.within

pub worked_needed : (key : RunKey) (query : Query) → WorkedNeeded key query
worked_needed key query = record {
  at_last_departure = needed_by (at_eight key) (from_nine key) query (at 8 0) 86_400 (at 8 20);
  a_second_later = needed_by (at_eight key) (from_nine key) query (at 8 0) 86_400 (at 8 20 + 1);
  by_arrival = needed_by (at_eight key) (from_nine key) query (at 8 0) 86_400 (at 8 31);
  no_journey = needed_within (at_eight key) (from_nine key) query (at 8 0) 86_400;
  short_horizon = needed_within (at_eight key) (from_nine key) query (at 8 0) 3_600;
  after_all = needed_within (at_eight key) (from_nine key) query (at 12 0) 86_400;
  empty = needed_within (page_at key 0 []) [] query (at 8 0) 86_400;
}

four_in_order : (key : RunKey) → InDepartureOrder (four key)
four_in_order key =
    let first = in_sequence key 1 (at 8 0) in
    let second = in_sequence key 2 (at 8 11) in
    let third = in_sequence key 3 (at 8 11) in
    let fourth = in_sequence key 4 (at 9 0) in
    let R = λ (c d : Connection). departure_cmp c d ≡ Less in
    let tied : key_cmp key key ≡ Equal = tied_itself key_cmp_total key in
    AllPairs-cons R first (second ∷ third ∷ fourth ∷ [])
    (All-cons (R first) second (third ∷ fourth ∷ []) refl (All-cons (R first) third (fourth ∷ []) refl (All-cons (R first) fourth [] refl (All-nil (R first)))))
    (AllPairs-cons R second (third ∷ fourth ∷ [])
    (All-cons (R second) third (fourth ∷ []) (ap (λ o. ordering_then o Less) tied) (All-cons (R second) fourth [] refl (All-nil (R second))))
    (AllPairs-cons R third (fourth ∷ []) (All-cons (R third) fourth [] refl (All-nil (R third)))
    (AllPairs-cons R fourth [] (All-nil (R fourth)) (λ i j d before within. absurd (omega arith)))))

-- the four on one page begin at 08:00
wrong_name : (key : RunKey) → Begin (four key) (page_with (at 7 0) (four key)) [] → ⊥
wrong_name key (inl (none, first, others)) = cc
wrong_name key (inr all) =
    let e : Some (at 8 0) ≡ Some (at 7 0) = All-head (λ (p : CutPage). first_of (departures_of p.connections) ≡ Some p.departs) (page_with (at 7 0) (four key)) [] all in
    let same : at 8 0 ≡ at 7 0 = cc in
    omega arith

pub worked_seconds : (key : RunKey) → WorkedSeconds key
worked_seconds key = record {
  whole_second = record {
    in_order = four_in_order key;
    cuts = at 8 0 ∷ at 8 11 ∷ [];
    lawful = record {
      rising = AllPairs-cons (λ (x y : ℕ). x < y) (at 8 0) (at 8 11 ∷ []) (All-cons (λ (m : ℕ). at 8 0 < m) (at 8 11) [] (lit< tt) (All-nil (λ (m : ℕ). at 8 0 < m)))
          (AllPairs-cons (λ (x y : ℕ). x < y) (at 8 11) [] (All-nil (λ (m : ℕ). at 8 11 < m)) (λ i j d before within. absurd (omega arith)));
      members = All-cons (λ (m : ℕ). Contains (departures_of (four key)) m) (at 8 0) (at 8 11 ∷ []) (0, (lit< tt), refl)
          (All-cons (λ (m : ℕ). Contains (departures_of (four key)) m) (at 8 11) [] (1, (lit< tt), refl) (All-nil (λ (m : ℕ). Contains (departures_of (four key)) m)));
      begin = refl;
    };
    are = refl;
  };
  skips_a_second = λ pages. (let e : 3 ≡ 4 = ap length (are_the_list _ _ _ pages) in omega arith);
  splits_a_second = λ pages.
      (let split : at 8 11 < at 8 11 = seconds_are_whole _ _ _ pages 0 1 (page_with 0 []) (lit< tt) (lit< tt) 1 (in_sequence key 0 0) (lit< tt) 0 (in_sequence key 0 0) (lit< tt) in omega arith);
  named_by_another = λ pages. wrong_name key (begin_on_time _ _ _ pages);
}

-- a question from A to B from 08:00 to 09:00
abbrev from_a_to_b : Query
from_a_to_b = record {
  from = codes "A";
  to = codes "B";
  leave = at 8 0;
  known = None;
  horizon = 3_600;
  not_before = lit≤ tt;
  not_after = lit≤ tt;
}

-- a ride that departs from A and arrives in B at 09:00
abbrev at_once : RunKey → Ride
at_once key = record { key = key; first_seq = 1; last_seq = 1; board = codes "A"; dep = at 9 0; alight = codes "B"; arr = at 9 0 }

-- a journey of this ride alone
abbrev alone : RunKey → Journey
alone key = record { before = None; rides = at_once key ∷ []; after = None; not_empty = λ none. cc }

alone_is_chain : (key : RunKey) (doc : StopsDoc) → IsChain from_a_to_b doc (connection_at key (at 9 0) ∷ []) (alone key)
alone_is_chain key doc = record {
  are_rides = (leg, tt);
  begins = inl refl;
  not_early = lit≤ tt;
  ends = inl refl;
  in_time = lit≤ tt;
} where
  leg : IsLegOf (in_time from_a_to_b (connection_at key (at 9 0) ∷ [])) (at_once key)
  leg = record {
    boards_at = 0;
    last_at = 0;
    in_order = omega arith;
    boards = connection_at key (at 9 0);
    last = connection_at key (at 9 0);
    is_boards = refl;
    is_last = refl;
    same_run = refl;
    may_board = refl;
    may_alight = refl;
    is_ride = refl;
  }

-- nothing has no chain
no_chain_of_nothing : (query : Query) (doc : StopsDoc) → IsListBest query doc [] None
no_chain_of_nothing query doc = λ journey is. no_rides journey.rides is.are_rides where
  no_rides : (rides : List Ride) → AreRides (IsLegOf (in_time query [])) doc rides → ⊥
  no_rides [] are = are
  no_rides (first ∷ rest) are = (let stands : None ≡ Some are.0.boards = are.0.is_boards in cc)

pub not_at_once : (key : RunKey) (doc : StopsDoc) → FrontMayBeAllAtOnce → ⊥
not_at_once key doc law =
    let c = connection_at key (at 9 0) in
    law from_a_to_b doc [] (c ∷ []) None (at 9 0) (λ i j d before within. absurd (omega arith)) (All-cons (λ (x : Connection). x.dep ≤ x.arr) c [] (omega arith) (All-nil (λ (x : Connection). x.dep ≤ x.arr)))
    (All-cons (λ (x : Connection). at 9 0 ≤ x.dep) c [] (omega arith) (All-nil (λ (x : Connection). at 9 0 ≤ x.dep))) (lit≤ tt) (no_chain_of_nothing from_a_to_b doc) (alone key) (alone_is_chain key doc)
