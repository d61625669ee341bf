-- That what was asked for, one page after the other back, is a front of the needed pages.
use Rattle.std.proofs.Common.{◌≡◌, ℕ, ◌<◌, inl, inr, List, [], ◌∷◌, ◌++◌, Option, Bool, false, cond, refl, sym, ◌∙◌, ap, arith, append_assoc}
use Rattle.std.specs.Prelude.{nat_le}
use Rattle.std.proofs.lemmas.Bool.{cases_lt}
use Rattle.std.proofs.lemmas.Bool.Decides.{nat_tests}
use Rattle.lc_model.specs.Connection.{NoneArrivesEarly}
use Rattle.lc_model.specs.declared.connection.Connection.{Connection}
use Rattle.lc_model.specs.declared.doc.StopsDoc.{StopsDoc}
use Rattle.lc_model.specs.declared.query.Query.{Query}
use Rattle.lc_model.specs.Versions.Pages.{CutPage}
use Rattle.convoy.specs.PageLaws.Chain.{ArePagesOf}
use Rattle.back_scan.specs.Latest.{IsListLatest}
use Rattle.back_client.specs.Ends.Early.{bound_back}
use Rattle.back_client.specs.Ends.NeededBack.{IsOverBack, down_to_bound, needed_pages_back, pages_back}
use Rattle.back_client.proofs.EndsLemmas.BackLemmas.{pages_back_may_be_all}

-- These pages were asked for, the last one without being taken. One was not over after any that was taken.
pub record IsAskedBack (query : Query) (doc : StopsDoc) (pages asked : List CutPage) : Type 0 where
  pub before : List CutPage
  pub last : CutPage
  pub behind : List CutPage
  pub are : asked ≡ before ++ last ∷ []
  pub parts : pages ≡ before ++ last ∷ behind
  pub goes_on : (front : List CutPage) (page : CutPage) (more : List CutPage) → before ≡ front ++ page ∷ more → ¬ IsOverBack query doc front page

above : (name bound : ℕ) → bound < name → nat_le name bound ≡ false
above name bound l = grind (arith, nat_tests)

-- pages above the bound go on to the page after them
down_on : (bound : ℕ) (before : List CutPage) (last : CutPage) (behind : List CutPage) → ((front : List CutPage) (page : CutPage) (more : List CutPage) → before ≡ front ++ page ∷ more → bound < page.departs) →
    (more : List CutPage) × (down_to_bound bound (before ++ last ∷ behind) ≡ before ++ last ∷ more)
down_on bound [] last behind goes = (cond (nat_le last.departs bound) [] (down_to_bound bound behind), refl)
down_on bound (p ∷ before) last behind goes =
    let on = down_on bound before last behind (λ front page more e. goes (p ∷ front) page more (ap (λ (l : List CutPage). p ∷ l) e)) in
    let l : bound < p.departs = goes [] p before refl in
    (on.0, ap (λ (b : Bool). p ∷ cond b [] (down_to_bound bound (before ++ last ∷ behind))) (above p.departs bound l) ∙ ap (λ (ps : List CutPage). p ∷ ps) on.1)

module _ (list : List Connection) (first : CutPage) (rest : List CutPage) (query : Query) (doc : StopsDoc) (latest : Option ℕ) (pages : ArePagesOf list first rest) (forward : NoneArrivesEarly list) (is_latest : IsListLatest query doc list latest) where
  -- where one is not over, the page is named above the bound
  not_over : (before : List CutPage) (page : CutPage) (left : List CutPage) → pages_back first rest query ≡ (before ++ page ∷ []) ++ left → (IsOverBack query doc before page → ⊥) → bound_back query latest < page.departs
  not_over before page left are not = elim (cases_lt (bound_back query latest) page.departs) [
    | inl more ↦ more
    | inr by ↦ absurd (not (record { latest = latest; is_latest = (pages_back_may_be_all list first rest query doc before page left latest pages forward are by).1 is_latest; by_name = by }))
  ]

  -- what was asked for is a front of what is needed
  pub front_of_needed : (asked : List CutPage) → IsAskedBack query doc (pages_back first rest query) asked → (more : List CutPage) × (needed_pages_back first rest query latest ≡ asked ++ more)
  front_of_needed asked back =
      let on = down_on (bound_back query latest) back.before back.last back.behind (λ front page more e.
      let whole : pages_back first rest query ≡ (front ++ page ∷ []) ++ (more ++ back.last ∷ back.behind) =
      back.parts ∙ ap (λ (l : List CutPage). l ++ back.last ∷ back.behind) e ∙ append_assoc front (page ∷ more) (back.last ∷ back.behind) ∙ sym (append_assoc front (page ∷ []) (more ++ back.last ∷ back.behind)) in
      not_over front page (more ++ back.last ∷ back.behind) whole (back.goes_on front page more e)) in (
        on.0,
        ap (down_to_bound (bound_back query latest)) back.parts ∙ on.1
            ∙ sym (append_assoc back.before (back.last ∷ []) on.0) ∙ ap (λ (l : List CutPage). l ++ on.0) (sym back.are),
      )
