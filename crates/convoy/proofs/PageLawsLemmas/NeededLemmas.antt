-- A client that takes page after page until it is over takes the needed pages.
use Rattle.std.proofs.Common.{◌≡◌, ℕ, ◌≤◌, inl, inr, List, [], ◌∷◌, ◌++◌, Bool, true, false, Option, Some, None, refl, ap, sym, subst, ◌∙◌, arith}
use Rattle.std.specs.Prelude.{◌↔◌}
use Rattle.std.proofs.lemmas.Bool.{false_from_ne_true, le-leb, leb-true}
use Rattle.std.proofs.lemmas.List.{append-nil, append_assoc}
use Rattle.std.proofs.lemmas.List.Concat.{flat_map-append}
use Rattle.lc_model.specs.Connection.{NoneArrivesEarly, last_departure}
use Rattle.lc_model.specs.Leg.{IsListBest}
use Rattle.lc_model.specs.Ride.{IsRideAt}
use Rattle.lc_model.specs.declared.connection.Connection.{Connection}
use Rattle.lc_model.specs.declared.doc.StopsDoc.{StopsDoc}
use Rattle.lc_model.specs.declared.query.Query.{Query}
use Rattle.lc_model.proofs.OneValueLemmas.{least_arrivals_are_one, one_least_arrival}
use Rattle.lc_model.specs.Versions.Pages.{CutPage}
use Rattle.convoy.specs.PageLaws.Chain.{ArePagesOf, connections_along}
use Rattle.convoy.specs.PageLaws.Needed.{IsOver, IsTakenUntilOver, OneListOfNeeded, needed_pages, reaches, up_to_bound}
use Rattle.convoy.specs.PageLaws.Rides.{pages_on}
use Rattle.convoy.specs.PageLaws.Stop.{bound_of}
use Rattle.convoy.proofs.PageLawsLemmas.AlongLemmas.{least_is_there}
use Rattle.convoy.proofs.PageLawsLemmas.TakenLemmas.{pages_may_be_all}
use Rattle.convoy.proofs.PageLawsLemmas.UpToLemmas.{EndsThere, IsUpTo, is_last_by, is_up_to, up_to_taken}

pub one_list_of_needed : OneListOfNeeded
one_list_of_needed runs query doc first rest a b is_a is_b =
    let one : is_a.best ≡ is_b.best = least_arrivals_are_one (IsRideAt runs) query doc is_a.best is_b.best is_a.is_best is_b.is_best in
    is_a.are ∙ ap (needed_pages first rest query) one ∙ sym is_b.are

-- the last departure of connections is that of their rest
last_of_rest : (front rest : List Connection) (last : ℕ) → last_departure rest ≡ Some last → last_departure (front ++ rest) ≡ Some last
last_of_rest [] rest last is = is
last_of_rest (c ∷ []) [] last is = cc
last_of_rest (c ∷ []) (d ∷ rest) last is = is
last_of_rest (c ∷ d ∷ front) rest last is = last_of_rest (d ∷ front) rest last is

-- the last departure of what was taken is that of the page that was taken last
pub last_taken : (before : List CutPage) (page : CutPage) (last : ℕ) → last_departure page.connections ≡ Some last → last_departure (connections_along (before ++ page ∷ [])) ≡ Some last
last_taken before page last is =
    ap last_departure (flat_map-append (λ (p : CutPage). p.connections) before (page ∷ []))
    ∙ last_of_rest (connections_along before) (page.connections ++ []) last (ap last_departure (append-nil page.connections) ∙ is)

-- a page reaches a bound by its last departure
reaches_by : (bound last : ℕ) (departure : Option ℕ) → departure ≡ Some last → bound ≤ last → reaches bound departure ≡ true
reaches_by bound last None is by_last = cc
reaches_by bound last (Some at) is by_last =
    let same : at ≡ last = cc in
    le-leb bound at (omega arith)

record ReachesAt (bound : ℕ) (departure : Option ℕ) : Type 0 where
  last : ℕ
  is_last : departure ≡ Some last
  by_last : bound ≤ last

reaches_at : (bound : ℕ) (departure : Option ℕ) → reaches bound departure ≡ true → ReachesAt bound departure
reaches_at bound None there = cc
reaches_at bound (Some last) there = record { last = last; is_last = refl; by_last = leb-true bound last there }

module _ (list : List Connection) (first : CutPage) (rest : List CutPage) (query : Query) (doc : StopsDoc) (pages : ArePagesOf list first rest) (forward : NoneArrivesEarly list) where
  -- what was taken up to a page has the same least arrival as all connections, if its last departure is at the bound or later
  pub same_best : (before : List CutPage) (page : CutPage) (left : List CutPage) (best : Option ℕ) (last : ℕ) → pages_on first rest query ≡ before ++ page ∷ left → last_departure page.connections ≡ Some last → bound_of query best ≤ last →
      (IsListBest query doc (connections_along (before ++ page ∷ [])) best ↔ IsListBest query doc list best)
  same_best before page left best last are is_last by_last =
      pages_may_be_all list first rest query doc (before ++ page ∷ []) left best last pages forward (are ∙ sym (append_assoc before (page ∷ []) left)) (last_taken before page last is_last) by_last

  pub over_is_over : (before : List CutPage) (page : CutPage) (left : List CutPage) (taken_best best : Option ℕ) (last : ℕ) → pages_on first rest query ≡ before ++ page ∷ left → last_departure page.connections ≡ Some last →
      IsListBest query doc (connections_along (before ++ page ∷ [])) taken_best → IsListBest query doc list best → (bound_of query taken_best ≤ last ↔ bound_of query best ≤ last)
  over_is_over before page left taken_best best last are is_last is_taken is_best =
      let P : Option ℕ → Type 0 = λ b. bound_of query b ≤ last in (
        (λ by_last. subst P (one_least_arrival query doc list taken_best best ((same_best before page left taken_best last are is_last by_last).0 is_taken) is_best) by_last),
        (λ by_last. subst P (one_least_arrival query doc (connections_along (before ++ page ∷ [])) best taken_best ((same_best before page left best last are is_last by_last).1 is_best) is_taken) by_last),
      )

  -- one is over after a page exactly where it reaches the bound of all connections
  reaches_if_over : (before : List CutPage) (page : CutPage) (left : List CutPage) (best : Option ℕ) → pages_on first rest query ≡ before ++ page ∷ left → IsListBest query doc list best → IsOver query doc before page →
      is_last_by (bound_of query best) page ≡ true
  reaches_if_over before page left best are is_best over =
      reaches_by (bound_of query best) over.last (last_departure page.connections) over.is_last
      ((over_is_over before page left over.best best over.last are over.is_last over.is_best is_best).0 over.by_last)

  pub over_if_reaches : (before : List CutPage) (page : CutPage) (left : List CutPage) (best : Option ℕ) → pages_on first rest query ≡ before ++ page ∷ left → IsListBest query doc list best → is_last_by (bound_of query best) page ≡ true →
      IsOver query doc before page
  over_if_reaches before page left best are is_best there =
      let found = reaches_at (bound_of query best) (last_departure page.connections) there in
      record {
        best = best;
        is_best = (same_best before page left best found.last are found.is_last found.by_last).1 is_best;
        last = found.last;
        is_last = found.is_last;
        by_last = found.by_last;
      }

  -- a page of those taken is one of all
  among : (taken left before : List CutPage) (page : CutPage) (behind : List CutPage) → pages_on first rest query ≡ taken ++ left → taken ≡ before ++ page ∷ behind → pages_on first rest query ≡ before ++ page ∷ (behind ++ left)
  among taken left before page behind are is = are ∙ ap (λ l. l ++ left) is ∙ append_assoc before (page ∷ behind) left

  ends_there : (taken : List CutPage) (best : Option ℕ) → IsListBest query doc list best → (until : IsTakenUntilOver query doc (pages_on first rest query) taken) → EndsThere (bound_of query best) taken until.left
  ends_there taken best is_best until = record {
    goes_on = λ before page next behind is. false_from_ne_true (is_last_by (bound_of query best) page)
        (λ there. until.goes_on before page next behind is (over_if_reaches before page (next ∷ behind ++ until.left) best (among taken until.left before page (next ∷ behind) until.are is) is_best there));
    ends = elim until.ends [
      | inl nothing ↦ inl nothing
      | inr found ↦ inr (found.0, found.1, found.2, reaches_if_over found.0 found.1 until.left best (among taken until.left found.0 found.1 [] until.are found.2) is_best found.3)
    ];
  }

  taken_best : (taken : List CutPage) (best : Option ℕ) → IsListBest query doc list best → (until : IsTakenUntilOver query doc (pages_on first rest query) taken) → IsListBest query doc (connections_along taken) best
  taken_best taken best is_best until =
      elim until.ends [
        | inl nothing ↦
            (let all : pages_on first rest query ≡ taken = until.are ∙ ap (λ l. taken ++ l) nothing ∙ append-nil taken in
            subst (λ (l : List CutPage). IsListBest query doc (connections_along l) best) all ((least_is_there list first rest query doc best pages forward).0 is_best))
        | inr found ↦
            (let over = found.3 in
            let are : pages_on first rest query ≡ found.0 ++ found.1 ∷ until.left = among taken until.left found.0 found.1 [] until.are found.2 in
            let by_last : bound_of query best ≤ over.last = (over_is_over found.0 found.1 until.left over.best best over.last are over.is_last over.is_best is_best).0 over.by_last in
            subst (λ (l : List CutPage). IsListBest query doc (connections_along l) best) (sym found.2)
            ((same_best found.0 found.1 until.left best over.last are over.is_last by_last).1 is_best))
      ]

  pub takes_the_needed : (taken : List CutPage) (best : Option ℕ) → IsListBest query doc list best → IsTakenUntilOver query doc (pages_on first rest query) taken →
      (taken ≡ needed_pages first rest query best) × IsListBest query doc (connections_along taken) best
  takes_the_needed taken best is_best until =
      (sym (up_to_taken (bound_of query best) taken until.left (ends_there taken best is_best until)) ∙ ap (up_to_bound (bound_of query best)) (sym until.are), taken_best taken best is_best until)

  pub always_stops : (best : Option ℕ) → IsListBest query doc list best → IsTakenUntilOver query doc (pages_on first rest query) (needed_pages first rest query best)
  always_stops best is_best =
      let found : IsUpTo (bound_of query best) (pages_on first rest query) = is_up_to (bound_of query best) (pages_on first rest query) in
      let needed = needed_pages first rest query best in
      record {
        left = found.left;
        are = found.are;
        goes_on = λ before page next behind is over.
            let there : is_last_by (bound_of query best) page ≡ true = reaches_if_over before page (next ∷ behind ++ found.left) best (among needed found.left before page (next ∷ behind) found.are is) is_best over in
            let not_there : is_last_by (bound_of query best) page ≡ false = found.there.goes_on before page next behind is in
            contradicts (is_last_by (bound_of query best) page) there not_there;
        ends = elim found.there.ends [
          | inl nothing ↦ inl nothing
          | inr end ↦ inr (end.0, end.1, end.2, over_if_reaches end.0 end.1 found.left best (among needed found.left end.0 end.1 [] found.are end.2) is_best end.3)
        ];
      } where
        contradicts : (b : Bool) → b ≡ true → b ≡ false → ⊥
        contradicts b there not_there = cc
