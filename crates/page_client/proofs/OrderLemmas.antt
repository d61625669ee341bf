-- Connections of pages, one page after the other, and where a later one could be better.
use Rattle.std.proofs.Common.{◌≡◌, ℕ, zero, suc, ◌<◌, ◌≤◌, List, [], ◌∷◌, ◌++◌, true, Option, Some, None, inl, inr, refl, sym, subst, arith}
use Rattle.std.specs.List.{All, AllPairs}
use Rattle.std.specs.Ordering.{nat_cmp, ordering_then}
use Rattle.std.specs.declared.cmp.Ordering.{Ordering}
use Rattle.std.specs.declared.cmp.Ordering.TheVariants.{Less, Equal, Greater}
use Rattle.std.proofs.lemmas.Bool.{cases_lt}
use Rattle.std.proofs.lemmas.Bool.Decides.{nat_tests}
use Rattle.std.proofs.lemmas.Cmp.{ranked}
use Rattle.std.proofs.lemmas.List.Elements.{All-append, All-cons, All-head, All-nil, All-tail, All-weaker}
use Rattle.std.proofs.lemmas.List.Kept.{AllPairs-cons}
use Rattle.lc_model.specs.Connection.{InDepartureOrder, departure_cmp, last_departure}
use Rattle.lc_model.specs.Journey.{arrives_at}
use Rattle.lc_model.specs.Leg.{IsListBest}
use Rattle.lc_model.specs.Question.{latest_of}
use Rattle.lc_model.specs.RunKey.{key_cmp}
use Rattle.lc_model.specs.declared.connection.Connection.{Connection}
use Rattle.lc_model.specs.declared.doc.StopsDoc.{StopsDoc}
use Rattle.lc_model.specs.declared.page.PageName.{PageName}
use Rattle.lc_model.specs.declared.query.Query.{Query}
use Rattle.csa_scan.specs.Done.{IsDone}
use Rattle.page_client.specs.Page.{begins_at, is_on_from}
use Rattle.lc_model.proofs.ConnectionLemmas.{departs_by}

-- one connection is before another
abbrev pub Before : Connection → Connection → Type 0
Before c d = departure_cmp c d ≡ Less

-- what holds of all pairs holds of the first item and each later one
pairs_head : {X : Type 0} (R : X → X → Type 0) (x : X) (list : List X) → AllPairs R (x ∷ list) → All (R x) list
pairs_head R x list pairs k d within = pairs zero (suc k) d (omega arith) (omega arith)

pairs_tail : {X : Type 0} (R : X → X → Type 0) (x : X) (list : List X) → AllPairs R (x ∷ list) → AllPairs R list
pairs_tail R x list pairs i j d before within = pairs (suc i) (suc j) d (omega arith) (omega arith)

-- what departs earlier is before
stands_before : (c d : Connection) → c.dep < d.dep → Before c d
stands_before c d earlier = first_part (nat_cmp c.dep d.dep) refl where
  first_part : (o : Ordering) → nat_cmp c.dep d.dep ≡ o → ordering_then o (ordering_then (key_cmp c.key d.key) (nat_cmp c.seq d.seq)) ≡ Less
  first_part Less f = refl
  first_part Equal f = let h = ranked c.dep d.dep Equal (sym f) in absurd (omega arith)
  first_part Greater f = let h = ranked c.dep d.dep Greater (sym f) in absurd (omega arith)

-- a list that departs before a moment, and one that departs from it on, are one list in order
pub in_order-append : (front list : List Connection) (moment : ℕ) → InDepartureOrder front → InDepartureOrder list → All (λ (c : Connection). c.dep < moment) front → All (λ (c : Connection). moment ≤ c.dep) list → InDepartureOrder (front ++ list)
in_order-append [] list moment front_order order early late = order
in_order-append (c ∷ front) list moment front_order order early late =
    let first : c.dep < moment = All-head (λ (d : Connection). d.dep < moment) c front early in
    AllPairs-cons Before c (front ++ list)
    (All-append (Before c) front list (pairs_head Before c front front_order)
    (All-weaker (λ (d : Connection). moment ≤ d.dep) (Before c) (λ d h. stands_before c d (omega arith)) list late))
    (in_order-append front list moment (pairs_tail Before c front front_order) order (All-tail (λ (d : Connection). d.dep < moment) c front early) late)

-- a list in order departs from the departure on with which it begins
pub begins : (list : List Connection) (moment : ℕ) → InDepartureOrder list → begins_at list moment ≡ true → All (λ (c : Connection). moment ≤ c.dep) list
begins [] moment order is = All-nil (λ (c : Connection). moment ≤ c.dep)
begins (first ∷ rest) moment order is =
    let same : first.dep ≡ moment = grind (arith, nat_tests) in
    All-cons (λ (c : Connection). moment ≤ c.dep) first rest (omega arith)
    (All-weaker (Before first) (λ (c : Connection). moment ≤ c.dep) (λ d h. omega (arith, departs_by first d h)) rest (pairs_head Before first rest order))

-- and up to its last one
pub ends : (list : List Connection) (last : ℕ) → InDepartureOrder list → last_departure list ≡ Some last → All (λ (c : Connection). c.dep ≤ last) list
ends [] last order is = absurd (cc)
ends (c ∷ []) last order is =
    let same : c.dep ≡ last = cc in
    All-cons (λ (d : Connection). d.dep ≤ last) c [] (omega arith) (All-nil (λ (d : Connection). d.dep ≤ last))
ends (c ∷ next ∷ rest) last order is =
    let behind = ends (next ∷ rest) last (pairs_tail Before c (next ∷ rest) order) is in
    let next_by : next.dep ≤ last = All-head (λ (d : Connection). d.dep ≤ last) next rest behind in
    let c_by : c.dep ≤ next.dep = departs_by c next (All-head (Before c) next rest (pairs_head Before c (next ∷ rest) order)) in
    All-cons (λ (d : Connection). d.dep ≤ last) c (next ∷ rest) (omega arith) behind

-- a list with a last departure is not empty: its first departure is no later
pub spans : (list : List Connection) (moment last : ℕ) → InDepartureOrder list → begins_at list moment ≡ true → last_departure list ≡ Some last → moment ≤ last
spans [] moment last order begun is = absurd (cc)
spans (first ∷ rest) moment last order begun is =
    let same : first.dep ≡ moment = grind (arith, nat_tests) in
    let by : first.dep ≤ last = All-head (λ (d : Connection). d.dep ≤ last) first rest (ends (first ∷ rest) last order is) in
    omega arith

-- the page of a link begins after the last departure
pub record LeadsOn (list : List Connection) (next : PageName) : Type 0 where
  pub last : ℕ
  pub is_last : last_departure list ≡ Some last
  pub above : last < next.departs

pub leads_on : (list : List Connection) (link : Option PageName) (next : PageName) → is_on_from (last_departure list) link ≡ true → link ≡ Some next → LeadsOn list next
leads_on list None next goes is = absurd (cc)
leads_on list (Some link) next goes is = by_last (last_departure list) refl goes where
  same : link ≡ next
  same = cc

  by_last : (last : Option ℕ) → last_departure list ≡ last → is_on_from last (Some link) ≡ true → LeadsOn list next
  by_last None e on = absurd (cc)
  by_last (Some last) e on = record {
    last = last;
    is_last = e;
    above = let above : last < link.departs = grind (arith, nat_tests) in let P : PageName → Type 0 = λ n. last < n.departs in subst P same above;
  }

-- where a departure after a moment could be better, it is within the horizon
pub within_horizon : (query : Query) (doc : StopsDoc) (taken : List Connection) (best : Option ℕ) (last : ℕ) → IsListBest query doc taken best → (IsDone query best last → ⊥) → last < latest_of query
within_horizon query doc taken None last is not_done = grind (arith, not_done)
within_horizon query doc taken (Some arrival) last ((journey, is_journey, at), least) not_done =
    let by : arrives_at journey ≤ latest_of query = is_journey.in_time in
    elim (cases_lt last arrival) [
      | inl early ↦ omega (arith, at)
      | inr late ↦ absurd (not_done late)
    ]
