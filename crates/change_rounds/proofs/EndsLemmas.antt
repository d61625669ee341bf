-- What rounds answer.
use Rattle.std.proofs.Common.{◌≡◌, ℕ, ◌<◌, ◌≤◌, suc, List, Some, None, length, sym, subst, inl, inr, arith}
use Rattle.lc_model.specs.Journey.{IsBest, alight_of, arrives_at, board_of}
use Rattle.lc_model.specs.Leg.{IsLegOf, in_time}
use Rattle.lc_model.specs.Walk.{IsWalkAfter}
use Rattle.lc_model.specs.declared.connection.Connection.{Connection}
use Rattle.lc_model.specs.declared.doc.StopsDoc.{StopsDoc}
use Rattle.lc_model.specs.declared.journey.Journey.{Journey}
use Rattle.lc_model.specs.declared.key.RunKey.{RunKey}
use Rattle.lc_model.specs.declared.query.Query.{Query}
use Rattle.csa_scan.specs.Kept.{Kept}
use Rattle.csa_scan.specs.Near.{IsWalkAt}
use Rattle.csa_scan.specs.RidesTo.{AreRidesTo}
use Rattle.csa_scan.specs.Stands.{IsAsked}
use Rattle.csa_scan.specs.Walks.{AreWalks}
use Rattle.csa_scan.specs.declared.side.Side.TheVariants.{After, Before}
use Rattle.csa_scan.specs.declared.trace.Goal.{Goal}
use Rattle.csa_scan.specs.declared.walks.Walks.{Walks}
use Rattle.csa_scan.proofs.NearWalksLemmas.{made_after, made_before}
use Rattle.csa_scan.proofs.SoughtLemmas.{below}
use Rattle.csa_scan.proofs.WayBackLemmas.{tail_begins, tail_ends, tail_to, tail_whole}
use Rattle.change_rounds.specs.Fewest.{IsFewestChain}
use Rattle.change_rounds.specs.Round.{AfterRounds}
use Rattle.change_rounds.specs.Rounds.{HaveAtLeast, IsChainWithin, IsFewestBelow}
use Rattle.change_rounds.proofs.BeginsLemmas.{some_rides}
use Rattle.change_rounds.proofs.WayLemmas.{few_rides}

-- no chain of so many rides at most arrives by the moment, where the best goal does not
pub none_within : (query : Query) (doc : StopsDoc) (runs : List RunKey) (kept : Kept) (list : List Connection) (n best : ℕ) → AfterRounds query doc runs kept (in_time query list) n →
    ((g : Goal) → kept.best ≡ Some g → best < g.arr) → IsChainWithin query doc list best n None
none_within query doc runs kept list n best h later = λ journey is l.
    let g = h.covers journey is l in
    let late = later g.0 g.1 in let by = g.2 in
    omega arith

-- the rides to the best goal, with the walks that were made for them, are a chain of so many rides at most
pub chain_within : (query : Query) (doc : StopsDoc) → IsAsked query doc → (walks : Walks) → AreWalks query doc walks → (runs : List RunKey) (kept : Kept) (list : List Connection) (n best : ℕ) → AfterRounds query doc runs kept (in_time query list) n →
    (g : Goal) → kept.best ≡ Some g → g.arr ≤ best → (journey : Journey) → AreRidesTo doc.stops runs kept.arrivals g.place journey.rides →
    IsWalkAt Before doc.stops walks.starts.items (board_of journey.rides) journey.before → IsWalkAt After doc.stops walks.ends.items (alight_of journey.rides) journey.after →
    IsChainWithin query doc list best n (Some journey)
chain_within query doc asked walks near runs kept list n best h g e by journey leads before after =
    let legs = in_time query list in
    let b = h.best.sound g e in
    let last = b.0 in
    let tail = tail_to query doc runs legs kept.arrivals g.place h.sound last b.1 journey.rides leads in
    let begins = tail_begins query doc legs kept.arrivals last journey.rides tail in
    let ends = tail_ends query doc legs kept.arrivals last journey.rides tail in
    let P : List ℕ → Type 0 = λ id. IsWalkAfter query doc id b.2.walk in
    let is = tail_whole query doc legs kept.arrivals last g.arr journey tail b.2
    (made_before query doc asked walks.starts.items near.starts (board_of journey.rides) begins.0 journey.before begins.1 before)
    (made_after query doc asked walks.ends.items near.ends (alight_of journey.rides) b.2.walk journey.after (subst P (sym ends.0) b.2.is_walk) after) in
    let arr = is.1 in
    (is.0, omega arith, few_rides doc.stops runs kept.arrivals g.place n (h.within g.place last b.1) journey.rides leads)

-- of a best arrival: the chain of the fewest rides that arrives by it is one of the fewest rides of all best ones
pub fewest_found : (query : Query) (doc : StopsDoc) (list : List Connection) (first journey : Journey) (best rides : ℕ) → IsBest (IsLegOf (in_time query list)) query doc first → arrives_at first ≡ best →
    IsFewestBelow query doc list best rides (Some journey) → IsFewestChain query doc list (Some journey)
fewest_found query doc list first journey best rides is arr h = record {
  is_best = record {
    is_journey = h.0;
    is_earliest = λ other k. let l = is.is_earliest other k in let by = h.1 in omega arith;
  };
  has_fewest = λ other k. let l = k.is_earliest first is.is_journey in h.2 other k.is_journey (omega arith);
}

-- where each has as many rides as the first, that is one
pub fewest_first : (query : Query) (doc : StopsDoc) (list : List Connection) (first : Journey) (best rides : ℕ) → IsBest (IsLegOf (in_time query list)) query doc first → arrives_at first ≡ best → length first.rides ≡ rides →
    IsFewestBelow query doc list best rides None → IsFewestChain query doc list (Some first)
fewest_first query doc list first best rides is arr many h = record {
  is_best = is;
  has_fewest = λ other k. let l = k.is_earliest first is.is_journey in let m = h other k.is_journey (omega arith) in omega arith;
}

-- each chain has one ride at least
pub one_at_least : (query : Query) (doc : StopsDoc) (list : List Connection) (best : ℕ) → HaveAtLeast query doc list best 1
one_at_least query doc list best = λ journey is by. elim (below 0 (length journey.rides)) [
  | inl some ↦ omega arith
  | inr none ↦ absurd (some_rides doc (in_time query list) journey.rides is.are_rides none)
]

-- where none of so many rides at most arrives by the moment, each that does has one more at least
pub one_more : (query : Query) (doc : StopsDoc) (list : List Connection) (best n m : ℕ) → suc n ≡ m → IsChainWithin query doc list best n None → HaveAtLeast query doc list best m
one_more query doc list best n m e none = λ journey is by. elim (below n (length journey.rides)) [
  | inl more ↦ omega arith
  | inr few ↦ let late = none journey is few in absurd (omega arith)
]

-- a chain of as many rides at most as each has at least is one of the fewest
pub fewest_below : (query : Query) (doc : StopsDoc) (list : List Connection) (best n m rides : ℕ) → n ≤ m → HaveAtLeast query doc list best m → (journey : Journey) → IsChainWithin query doc list best n (Some journey) →
    IsFewestBelow query doc list best rides (Some journey)
fewest_below query doc list best n m rides l many journey h = (h.0, h.1, (λ other is by. let k = many other is by in let few = h.2 in omega arith))

-- what has so many has fewer too
pub fewer_too : (query : Query) (doc : StopsDoc) (list : List Connection) (best n m : ℕ) → n ≤ m → HaveAtLeast query doc list best m → HaveAtLeast query doc list best n
fewer_too query doc list best n m l many = λ journey is by. let k = many journey is by in omega arith
