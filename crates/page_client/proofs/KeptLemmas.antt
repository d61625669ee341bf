-- What holds of each cached page holds of each page that is cached later.
use Rattle.std.proofs.Common.{◌≡◌, ℕ, ◌⊎◌, Bool, not, List, [], ◌∷◌, take, Option, Some, None, Contains, cond, true, false, subst, sym, refl, ap, ◌∙◌}
use Rattle.std.specs.List.{All, filter, find}
use Rattle.std.specs.Option.{option_map_or}
use Rattle.std.proofs.lemmas.List.Elements.{All-cons, All-contains, All-head, All-tail}
use Rattle.lc_model.proofs.ListLemmas.{All-from_contains, IsKept-filter}
use Rattle.lc_model.specs.declared.page.PageName.{PageName}
use Rattle.lru.proofs.CallerLemmas.{Contains-take}
use Rattle.page_json.specs.declared.page.Page.{Page}
use Rattle.page_client.specs.Kept.{Kept, has_name, page_named, with_put, with_used, without}
use Rattle.page_client.proofs.KeyLemmas.{both}

module _ (P : Page → Type 0) where
  All-without : (pages : List Page) (name : PageName) → All P pages → All P (without pages name)
  All-without pages name all = All-from_contains P (without pages name) (λ page c. All-contains P pages page all (IsKept-filter (λ (page : Page). not (has_name name page)) pages page c).stands)

  -- also of a page that is put
  pub All-with_put : (kept : Kept) (page : Page) → P page → All P kept.pages → All P (with_put kept page)
  All-with_put kept page here all =
      let front = page ∷ without kept.pages page.name in
      All-from_contains P (take kept.capacity front) (λ other c. All-contains P front other (All-cons P page _ here (All-without kept.pages page.name all)) (Contains-take kept.capacity front other c))

  -- of the page that is found
  pub found : (test : Page → Bool) (pages : List Page) (page : Page) → All P pages → find test pages ≡ Some page → P page
  found test [] page all is = cc
  found test (first ∷ rest) page all is = (elim (test first) as (λ v. cond v (Some first) (find test rest) ≡ Some page → P page) [
    | true ↦ λ e. let same : first ≡ page = cc in subst P same (All-head P first rest all)
    | false ↦ λ e. found test rest page (All-tail P first rest all) e
  ]) is

  used : (pages : List Page) (name : PageName) (page : Option Page) → page_named pages name ≡ page → All P pages → All P (option_map_or (λ (page : Page). page ∷ without pages name) page pages)
  used pages name None is all = all
  used pages name (Some page) is all = All-cons P page _ (found (has_name name) pages page all is) (All-without pages name all)

  -- and where one is used
  pub All-with_used : (pages : List Page) (name : PageName) → All P pages → All P (with_used pages name)
  All-with_used pages name all = used pages name (page_named pages name) refl all

-- the page that is found passes the test
pub passes : (test : Page → Bool) (pages : List Page) (page : Page) → find test pages ≡ Some page → test page ≡ true
passes test [] page is = cc
passes test (first ∷ rest) page is = (elim (test first) as (λ v. test first ≡ v → cond v (Some first) (find test rest) ≡ Some page → test page ≡ true) [
  | true ↦ λ t e. let same : first ≡ page = cc in subst (λ (p : Page). test p ≡ true) same t
  | false ↦ λ t e. passes test rest page e
]) refl is

-- the page that is found has the name
pub named : (pages : List Page) (name : PageName) (page : Page) → page_named pages name ≡ Some page → page.name ≡ name
named pages name page is =
    let e = both name.version name.departs page.name.version page.name.departs (passes (has_name name) pages page is) in
    let of : ℕ → ℕ → PageName = λ version departs. record { version = version; departs = departs } in
    ap (λ (v : ℕ). of v page.name.departs) (sym e.0) ∙ ap (of name.version) (sym e.1)
