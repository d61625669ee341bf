-- A client that takes page after page back until it is over takes exactly the needed pages.
use Rattle.std.proofs.Common.{◌≡◌, ℕ, ◌<◌, ◌≤◌, ◌⊎◌, inl, inr, List, [], ◌∷◌, ◌++◌, Option, Bool, true, false, cond, refl, sym, ◌∙◌, ap, subst, arith, append-nil, append_assoc}
use Rattle.std.specs.Prelude.{nat_le}
use Rattle.std.proofs.lemmas.Bool.{cases_lt}
use Rattle.std.proofs.lemmas.Bool.Decides.{nat_tests}
use Rattle.lc_model.specs.Connection.{NoneArrivesEarly}
use Rattle.lc_model.specs.Leg.{IsLegOf, in_time}
use Rattle.lc_model.specs.declared.connection.Connection.{Connection}
use Rattle.lc_model.specs.declared.doc.StopsDoc.{StopsDoc}
use Rattle.lc_model.specs.declared.query.Query.{Query}
use Rattle.lc_model.specs.Versions.Pages.{CutPage}
use Rattle.convoy.specs.PageLaws.Chain.{ArePagesOf}
use Rattle.back_scan.specs.Latest.{IsListLatest}
use Rattle.back_scan.proofs.OneLatestLemmas.{latest_departures_are_one}
use Rattle.back_client.specs.Ends.Early.{bound_back}
use Rattle.back_client.specs.Ends.NeededBack.{IsOverBack, IsTakenBackUntilOver, TakesTheNeededBack, connections_back, down_to_bound, needed_pages_back, pages_back}
use Rattle.back_client.proofs.EndsLemmas.BackLemmas.{all_pages_back, pages_back_may_be_all}

by_bound : (name bound : ℕ) → name ≤ bound → nat_le name bound ≡ true
by_bound name bound h = grind (arith, nat_tests)

above_bound : (name bound : ℕ) → bound < name → nat_le name bound ≡ false
above_bound name bound h = grind (arith, nat_tests)

-- pages that were taken down to the bound, and not below it
down_is : (bound : ℕ) (taken left : List CutPage) → (taken ≡ [] → ⊥) →
    ((before : List CutPage) (page next : CutPage) (behind : List CutPage) → taken ≡ before ++ page ∷ next ∷ behind → bound < page.departs) →
    ((left ≡ []) ⊎ ((before : List CutPage) × (page : CutPage) × (taken ≡ before ++ page ∷ []) × (page.departs ≤ bound))) → taken ≡ down_to_bound bound (taken ++ left)
down_is bound [] left some goes ends = absurd (some refl)
down_is bound (p ∷ []) left some goes (inl none) =
    let P : List CutPage → Type 0 = λ l. p ∷ [] ≡ p ∷ cond (nat_le p.departs bound) [] (down_to_bound bound l) in
    subst P (sym none) (either (nat_le p.departs bound)) where
      either : (t : Bool) → p ∷ [] ≡ p ∷ cond t [] []
      either true = refl
      either false = refl
down_is bound (p ∷ []) left some goes (inr (before, page, is, by)) = ap (λ l. p ∷ l) (stops before is) where
  stops : (before : List CutPage) → p ∷ [] ≡ before ++ page ∷ [] → [] ≡ cond (nat_le p.departs bound) [] (down_to_bound bound left)
  stops [] e =
      let same : p ≡ page = cc in
      let P : CutPage → Type 0 = λ q. q.departs ≤ bound in
      let l = subst P (sym same) by in
      ap (λ t. cond t [] (down_to_bound bound left)) (sym (by_bound p.departs bound l))
  stops (b ∷ []) e = absurd (cc)
  stops (b ∷ c ∷ before) e = absurd (cc)
down_is bound (p ∷ q ∷ more) left some goes ends =
    let l = goes [] p q more refl in
    let rest = down_is bound (q ∷ more) left (λ e. absurd (cc)) (λ before page next behind e. goes (p ∷ before) page next behind (ap (λ x. p ∷ x) e)) (shorter ends) in
    ap (λ x. p ∷ x) (rest ∙ ap (λ t. cond t [] (down_to_bound bound (q ∷ more ++ left))) (sym (above_bound p.departs bound l))) where
      shorter : (left ≡ []) ⊎ ((before : List CutPage) × (page : CutPage) × (p ∷ q ∷ more ≡ before ++ page ∷ []) × (page.departs ≤ bound)) →
          (left ≡ []) ⊎ ((before : List CutPage) × (page : CutPage) × (q ∷ more ≡ before ++ page ∷ []) × (page.departs ≤ bound))
      shorter (inl none) = inl none
      shorter (inr ([], page, is, by)) = absurd (cc)
      shorter (inr (b ∷ before, page, is, by)) = inr (before, page, cc, by)

-- a page amid pages, with those after it
parted_at : (before : List CutPage) (page : CutPage) (rest : List CutPage) → before ++ page ∷ rest ≡ (before ++ page ∷ []) ++ rest
parted_at before page rest = sym (append_assoc before (page ∷ []) rest)

module _ (list : List Connection) (first : CutPage) (rest : List CutPage) (query : Query) (doc : StopsDoc) (latest : Option ℕ) (pages : ArePagesOf list first rest) (forward : NoneArrivesEarly list) (is_latest : IsListLatest query doc list latest) where
  -- where one is over by what was taken, one is so by all
  over_by_all : (before : List CutPage) (page : CutPage) (left : List CutPage) → pages_back first rest query ≡ (before ++ page ∷ []) ++ left → IsOverBack query doc before page → page.departs ≤ bound_back query latest
  over_by_all before page left are over =
      let whole = (pages_back_may_be_all list first rest query doc before page left over.latest pages forward are over.by_name).0 over.is_latest in
      let same = latest_departures_are_one (IsLegOf (in_time query list)) query doc over.latest latest whole is_latest in
      let P : Option ℕ → Type 0 = λ o. page.departs ≤ bound_back query o in
      subst P same over.by_name

  -- and where one is not, the page is named above the bound
  not_over : (before : List CutPage) (page : CutPage) (left : List CutPage) → pages_back first rest query ≡ (before ++ page ∷ []) ++ left → (IsOverBack query doc before page → ⊥) → bound_back query latest < page.departs
  not_over before page left are not = elim (cases_lt (bound_back query latest) page.departs) [
    | inl above ↦ above
    | inr by ↦ absurd (not (record { latest = latest; is_latest = (pages_back_may_be_all list first rest query doc before page left latest pages forward are by).1 is_latest; by_name = by }))
  ]

  some_taken : (taken left : List CutPage) → pages_back first rest query ≡ taken ++ left → (left ≡ []) ⊎ ((before : List CutPage) × (page : CutPage) × (taken ≡ before ++ page ∷ []) × IsOverBack query doc before page) → taken ≡ [] → ⊥
  some_taken taken left are (inl none) e = let f = ap (λ t. t ++ left) e in let g = are ∙ f ∙ none in cc
  some_taken taken left are (inr ([], page, is, over)) e = let f = sym e ∙ is in cc
  some_taken taken left are (inr (b ∷ before, page, is, over)) e = let f = sym e ∙ is in cc

  at_end : (taken left before : List CutPage) (page : CutPage) → pages_back first rest query ≡ taken ++ left → taken ≡ before ++ page ∷ [] → pages_back first rest query ≡ (before ++ page ∷ []) ++ left
  at_end taken left before page are is = are ∙ ap (λ t. t ++ left) is

  ends_so : (taken left : List CutPage) → pages_back first rest query ≡ taken ++ left → (left ≡ []) ⊎ ((before : List CutPage) × (page : CutPage) × (taken ≡ before ++ page ∷ []) × IsOverBack query doc before page) →
      (left ≡ []) ⊎ ((before : List CutPage) × (page : CutPage) × (taken ≡ before ++ page ∷ []) × (page.departs ≤ bound_back query latest))
  ends_so taken left are (inl none) = inl none
  ends_so taken left are (inr (before, page, is, over)) = inr (before, page, is, over_by_all before page left (at_end taken left before page are is) over)

  known_by : (taken left : List CutPage) → pages_back first rest query ≡ taken ++ left → (left ≡ []) ⊎ ((before : List CutPage) × (page : CutPage) × (taken ≡ before ++ page ∷ []) × IsOverBack query doc before page) →
      IsListLatest query doc (connections_back taken) latest
  known_by taken left are (inl none) = (all_pages_back list first rest query doc taken latest pages forward (are ∙ ap (λ l. taken ++ l) none ∙ append-nil taken)).1 is_latest
  known_by taken left are (inr (before, page, is, over)) =
      let there = at_end taken left before page are is in
      let P : List CutPage → Type 0 = λ t. IsListLatest query doc (connections_back t) latest in
      subst P (sym is) ((pages_back_may_be_all list first rest query doc before page left latest pages forward there (over_by_all before page left there over)).1 is_latest)

  pub takes_needed : (taken : List CutPage) → IsTakenBackUntilOver query doc (pages_back first rest query) taken → (taken ≡ needed_pages_back first rest query latest) × IsListLatest query doc (connections_back taken) latest
  takes_needed taken h = (
    down_is (bound_back query latest) taken h.left (some_taken taken h.left h.are h.ends)
        (λ before page next behind e. not_over before page (next ∷ behind ++ h.left) (h.are ∙ ap (λ t. t ++ h.left) (e ∙ parted_at before page (next ∷ behind)) ∙ append_assoc (before ++ page ∷ []) (next ∷ behind) h.left) (h.goes_on before page next behind e))
        (ends_so taken h.left h.are h.ends)
        ∙ ap (down_to_bound (bound_back query latest)) (sym h.are),
    known_by taken h.left h.are h.ends,
  )

pub takes_the_needed_back : TakesTheNeededBack
takes_the_needed_back list first rest query doc taken latest pages forward is_latest h = takes_needed list first rest query doc latest pages forward is_latest taken h
