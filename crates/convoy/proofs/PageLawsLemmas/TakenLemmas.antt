-- What was taken of the pages from the one on that is for the moment at which the question leaves.
use Rattle.std.proofs.Common.{◌≡◌, ℕ, ◌<◌, ◌≤◌, inl, inr, List, [], ◌∷◌, ◌++◌, Some, ap, sym, subst, ◌∙◌, arith}
use Rattle.std.specs.List.{All}
use Rattle.std.proofs.lemmas.List.Concat.{flat_map-append}
use Rattle.std.proofs.lemmas.List.Elements.{All-append, All-head, All-nil, All-tail, All-weaker}
use Rattle.lc_model.specs.Connection.{InDepartureOrder, NoneArrivesEarly, last_departure}
use Rattle.lc_model.specs.Leg.{IsListBest}
use Rattle.lc_model.specs.declared.connection.Connection.{Connection}
use Rattle.lc_model.specs.declared.query.Query.{Query}
use Rattle.lc_model.specs.Versions.Pages.{CutPage}
use Rattle.convoy.specs.PageLaws.Chain.{ArePagesOf, along_next, connections_along}
use Rattle.convoy.specs.PageLaws.Rides.{connections_on, pages_on}
use Rattle.convoy.specs.PageLaws.Stop.{PagesMayBeAll}
use Rattle.convoy.proofs.PageLawsLemmas.AlongLemmas.{IsParted, least_is_there, parted_by_links}
use Rattle.convoy.proofs.PageLawsLemmas.ChainLemmas.{Follow, by_or_not, next_goes_on, next_stays}
use Rattle.convoy.proofs.PageLawsLemmas.DeparturesLemmas.{all_after}
use Rattle.convoy.proofs.PageLawsLemmas.RowLemmas.{row}
use Rattle.convoy.proofs.PageLawsLemmas.StopLemmas.{all_of_rest, front_may_be_all, order_of_rest}

-- these pages follow each other
abbrev pub AllFollow : List CutPage → Type 0
AllFollow [] = Unit {0}
AllFollow (page ∷ rest) = Follow page rest

pub follow_on : (page : CutPage) (rest : List CutPage) (moment : ℕ) → Follow page rest → AllFollow (along_next page rest moment)
follow_on page [] moment follow = follow
follow_on page (next ∷ rest) moment follow =
    elim (by_or_not next moment) [
      | inl named ↦ subst AllFollow (sym (next_goes_on page next rest moment named.0)) (follow_on next rest moment follow.3)
      | inr later ↦ subst AllFollow (sym (next_stays page next rest moment later.0)) follow
    ]

-- a page is named before each one that follows it
pub named_before : (page : CutPage) (between : List CutPage) (next : CutPage) (more : List CutPage) → Follow page (between ++ next ∷ more) → page.departs < next.departs
named_before page [] next more follow = follow.2
named_before page (q ∷ between) next more follow =
    let onward : q.departs < next.departs = named_before q between next more follow.3 in
    omega (arith, follow.2)

-- what was taken departs before the next page's name
taken_before : (taken : List CutPage) (next : CutPage) (more : List CutPage) → AllFollow (taken ++ next ∷ more) → All (λ (c : Connection). c.dep < next.departs) (connections_along taken)
taken_before [] next more follow = All-nil (λ (c : Connection). c.dep < next.departs)
taken_before (page ∷ []) next more follow =
    All-append (λ (c : Connection). c.dep < next.departs) page.connections [] follow.1 (All-nil (λ (c : Connection). c.dep < next.departs))
taken_before (page ∷ q ∷ taken) next more follow =
    let onward : q.departs < next.departs = named_before q taken next more follow.3 in
    All-append (λ (c : Connection). c.dep < next.departs) page.connections (connections_along (q ∷ taken))
    (All-weaker (λ (c : Connection). c.dep < q.departs) (λ (c : Connection). c.dep < next.departs) (λ c h. omega arith) page.connections follow.1)
    (taken_before (q ∷ taken) next more follow.3)

-- what was not taken departs from the next page's name on
left_from : (moment : ℕ) (page : CutPage) (rest : List CutPage) → moment ≤ page.departs → Follow page rest → All (λ (c : Connection). moment ≤ c.dep) (connections_along (page ∷ rest))
left_from moment page [] before follow =
    All-append (λ (c : Connection). moment ≤ c.dep) page.connections [] (all_after moment page.departs page.connections before follow) (All-nil (λ (c : Connection). moment ≤ c.dep))
left_from moment page (next ∷ rest) before follow =
    All-append (λ (c : Connection). moment ≤ c.dep) page.connections (connections_along (next ∷ rest)) (all_after moment page.departs page.connections before follow.0)
    (left_from moment next rest (omega (arith, follow.2)) follow.3)

pub follow_behind : (taken : List CutPage) (next : CutPage) (more : List CutPage) → AllFollow (taken ++ next ∷ more) → Follow next more
follow_behind [] next more follow = follow
follow_behind (page ∷ []) next more follow = follow.3
follow_behind (page ∷ q ∷ taken) next more follow = follow_behind (q ∷ taken) next more follow.3

-- the last departure is before a moment that all depart before
last_before : (moment last : ℕ) (list : List Connection) → All (λ (c : Connection). c.dep < moment) list → last_departure list ≡ Some last → last < moment
last_before moment last [] early is = cc
last_before moment last (c ∷ []) early is =
    let same : c.dep ≡ last = cc in
    let before : c.dep < moment = All-head (λ (d : Connection). d.dep < moment) c [] early in
    omega arith
last_before moment last (c ∷ next ∷ rest) early is = last_before moment last (next ∷ rest) (All-tail (λ (d : Connection). d.dep < moment) c (next ∷ rest) early) is

-- what was not taken departs after what was taken did last
pub left_later : (taken left : List CutPage) (last : ℕ) → AllFollow (taken ++ left) → last_departure (connections_along taken) ≡ Some last → All (λ (c : Connection). last < c.dep) (connections_along left)
left_later taken [] last follow is = All-nil (λ (c : Connection). last < c.dep)
left_later taken (next ∷ more) last follow is =
    let before : last < next.departs = last_before next.departs last (connections_along taken) (taken_before taken next more follow) is in
    All-weaker (λ (c : Connection). next.departs ≤ c.dep) (λ (c : Connection). last < c.dep) (λ c h. omega arith) (connections_along (next ∷ more))
    (left_from next.departs next more (omega arith) (follow_behind taken next more follow))

-- what was taken of these pages, and what was not
pub record AreTaken (list : List Connection) (first : CutPage) (rest : List CutPage) (query : Query) (taken left : List CutPage) : Type 0 where
  pub parts : connections_on first rest query ≡ connections_along taken ++ connections_along left
  pub in_order : InDepartureOrder (connections_along taken ++ connections_along left)
  pub forward : NoneArrivesEarly (connections_along taken ++ connections_along left)
  pub follow : AllFollow (taken ++ left)

pub are_taken : (list : List Connection) (first : CutPage) (rest : List CutPage) (query : Query) (taken left : List CutPage) → ArePagesOf list first rest → NoneArrivesEarly list → pages_on first rest query ≡ taken ++ left →
    AreTaken list first rest query taken left
are_taken list first rest query taken left pages forward are =
    let is = row list first rest pages in
    let parted : IsParted query.leave list (connections_on first rest query) = parted_by_links list first rest query pages in
    let parts : connections_on first rest query ≡ connections_along taken ++ connections_along left = ap connections_along are ∙ flat_map-append (λ (p : CutPage). p.connections) taken left in
    record {
      parts = parts;
      in_order = subst (λ l. InDepartureOrder l) parts (order_of_rest parted.front (connections_on first rest query) (subst (λ l. InDepartureOrder l) (sym parted.whole) pages.in_order));
      forward = subst (λ l. NoneArrivesEarly l) parts (all_of_rest (λ (c : Connection). c.dep ≤ c.arr) parted.front (connections_on first rest query) (subst (λ l. NoneArrivesEarly l) (sym parted.whole) forward));
      follow = subst AllFollow are (follow_on first rest query.leave is.follow);
    }

pub pages_may_be_all : PagesMayBeAll
pages_may_be_all list first rest query doc taken left best last pages forward are is_last by_last =
    let parts = are_taken list first rest query taken left pages forward are in
    let there = least_is_there list first rest query doc best pages forward in
    let law = front_may_be_all query doc (connections_along taken) (connections_along left) best last parts.in_order parts.forward (left_later taken left last parts.follow is_last) by_last in (
      (λ least. there.1 (subst (λ l. IsListBest query doc l best) (sym parts.parts) (law.0 least))),
      (λ least. law.1 (subst (λ l. IsListBest query doc l best) parts.parts (there.0 least))),
    )
