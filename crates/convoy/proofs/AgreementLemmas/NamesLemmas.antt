-- The names of cached pages, want after want.
use Rattle.std.proofs.Common.{zero, suc, ◌⊎◌, inl, inr, Contains, ◌≡◌, ℕ, Bool, true, false, not, cond, List, [], ◌∷◌, ◌++◌, take, Option, Some, None, refl, ap, ap₂, sym, subst, ◌∙◌}
use Rattle.std.specs.Prelude.{◌||◌, find, if◌then◌else◌}
use Rattle.std.specs.Option.{option_map_or}
use Rattle.std.proofs.lemmas.List.{append_assoc, take-map}
use Rattle.lc_model.specs.declared.page.PageName.{PageName}
use Rattle.lc_model.proofs.ListLemmas.{Contains-cases, Contains-here, Contains-nil, Contains-there, IsKept-filter}
use Rattle.page_json.specs.declared.page.Page.{Page}
use Rattle.page_client.specs.Kept.{Kept, has_name, is_same, page_named, with_put, with_used, without}
use Rattle.page_client.proofs.KeptLemmas.{named}
use Rattle.page_client.specs.declared.want.Want.{Want}
use Rattle.page_client.specs.declared.want.Want.TheVariants as wants
use Rattle.convoy.specs.Agreement.Names.{AskByNames, IsByNames, Round, names_behind, asked_for, asked_of, is_among, names_after, names_of, names_then, names_with, others}

-- the names after wants and further wants
pub names_after-append : (capacity : ℕ) (names : List PageName) (first second : List Want) → names_after capacity names (first ++ second) ≡ names_after capacity (names_after capacity names first) second
names_after-append capacity names [] second = refl
names_after-append capacity names (want ∷ first) second = names_after-append capacity (names_then capacity names want) first second

pub asked_of-append : (capacity : ℕ) (names : List PageName) (first second : List Want) →
    asked_of capacity names (first ++ second) ≡ asked_of capacity names first ++ asked_of capacity (names_after capacity names first) second
asked_of-append capacity names [] second = refl
asked_of-append capacity names (want ∷ first) second =
    let behind = names_then capacity names want in
    ap (λ (l : List Want). asked_for names want ++ l) (asked_of-append capacity (names_then capacity names want) first second)
    ∙ sym (append_assoc (asked_for names want) (asked_of capacity behind first) (asked_of capacity (names_after capacity behind first) second))

-- a page is found by its name where the name is among the names
found_among : (name : PageName) (pages : List Page) (page : Page) → page_named pages name ≡ Some page → is_among (names_of pages) name ≡ true
found_among name [] page is = absurd (cc)
found_among name (first ∷ pages) page is =
    (elim (has_name name first) as (λ v. cond v (Some first) (find (has_name name) pages) ≡ Some page → (v || is_among (names_of pages) name) ≡ true) [
      | true ↦ λ e. refl
      | false ↦ λ e. found_among name pages page e
    ]) is

pub not_among : (name : PageName) (pages : List Page) → page_named pages name ≡ None → is_among (names_of pages) name ≡ false
not_among name [] is = refl
not_among name (first ∷ pages) is =
    (elim (has_name name first) as (λ v. cond v (Some first) (find (has_name name) pages) ≡ None → (v || is_among (names_of pages) name) ≡ false) [
      | true ↦ λ e. absurd (cc)
      | false ↦ λ e. not_among name pages e
    ]) is

-- the names of the other pages are the other names
names_without : (name : PageName) (pages : List Page) → names_of (without pages name) ≡ others (names_of pages) name
names_without name [] = refl
names_without name (first ∷ pages) =
    elim (not (has_name name first)) as (λ v. names_of (cond v (first ∷ without pages name) (without pages name)) ≡ cond v (first.name ∷ others (names_of pages) name) (others (names_of pages) name)) [
      | true ↦ ap (λ (names : List PageName). first.name ∷ names) (names_without name pages)
      | false ↦ names_without name pages
    ]

-- a cached page that is used
pub used_names : (capacity : ℕ) (pages : List Page) (name : PageName) (page : Page) → page_named pages name ≡ Some page → names_of (with_used pages name) ≡ names_with capacity (names_of pages) name
used_names capacity pages name page is =
    let among = found_among name pages page is in
    let front : names_of (with_used pages name) ≡ page.name ∷ names_of (without pages name) =
    ap (λ (o : Option Page). names_of (option_map_or (λ (p : Page). p ∷ without pages name) o pages)) is in
    let own : page.name ∷ names_of (without pages name) ≡ name ∷ others (names_of pages) name = ap₂ (λ (n : PageName) (l : List PageName). n ∷ l) (named pages name page is) (names_without name pages) in
    front ∙ own
    ∙ ap (λ (b : Bool). if b then name ∷ others (names_of pages) name else take capacity (name ∷ others (names_of pages) name)) (sym among)

-- nothing is asked for then
pub used_not_asked : (pages : List Page) (name : PageName) (page : Page) → page_named pages name ≡ Some page → asked_for (names_of pages) (wants.Page name) ≡ []
used_not_asked pages name page is = ap (λ (b : Bool). if b then [] else wants.Page name ∷ []) (found_among name pages page is)

-- a page that is put
pub put_names : (kept : Kept) (page : Page) → page_named kept.pages page.name ≡ None → names_of (with_put kept page) ≡ names_with kept.capacity (names_of kept.pages) page.name
put_names kept page lacks =
    let name = page.name in
    sym (take-map (λ (p : Page). p.name) kept.capacity (page ∷ without kept.pages page.name))
    ∙ ap (λ (l : List PageName). take kept.capacity (page.name ∷ l)) (names_without page.name kept.pages)
    ∙ ap (λ (b : Bool). if b then page.name ∷ others (names_of kept.pages) page.name else take kept.capacity (page.name ∷ others (names_of kept.pages) page.name))
    (sym (not_among page.name kept.pages lacks))

-- it is asked for
pub lacked_is_asked : (pages : List Page) (name : PageName) → page_named pages name ≡ None → asked_for (names_of pages) (wants.Page name) ≡ wants.Page name ∷ []
lacked_is_asked pages name lacks = ap (λ (b : Bool). if b then [] else wants.Page name ∷ []) (not_among name pages lacks)

-- one round more
pub names_behind-more : (capacity : ℕ) (names : List PageName) (rounds : List Round) (more : Round) →
    names_behind capacity names (rounds ++ more ∷ []) ≡ names_after capacity (names_behind capacity names rounds) more.given
names_behind-more capacity names [] more = refl
names_behind-more capacity names (round ∷ rounds) more = names_behind-more capacity (names_after capacity names round.given) rounds more

pub ask_by_names-more : (capacity : ℕ) (names : List PageName) (rounds : List Round) (more : Round) → AskByNames capacity names rounds →
    IsByNames capacity (names_behind capacity names rounds) more → AskByNames capacity names (rounds ++ more ∷ [])
ask_by_names-more capacity names [] more all is = (is, tt)
ask_by_names-more capacity names (round ∷ rounds) more all is = (all.0, ask_by_names-more capacity (names_after capacity names round.given) rounds more all.1 is)

Contains-take : {X : Type 0} (n : ℕ) (xs : List X) (x : X) → Contains (take n xs) x → Contains xs x
Contains-take zero xs x stands = absurd (Contains-nil x stands)
Contains-take (suc n) [] x stands = absurd (Contains-nil x stands)
Contains-take (suc n) (first ∷ xs) x stands =
    elim (Contains-cases first (take n xs) x stands) [
      | inl same ↦ subst (Contains (first ∷ xs)) same (Contains-here first xs)
      | inr more ↦ Contains-there first xs x (Contains-take n xs x more)
    ]

-- a name that is there once this one was wanted was there before, or is this one
in_front : (names : List PageName) (name other : PageName) → Contains (name ∷ others names name) other → Contains names other ⊎ (name ≡ other)
in_front names name other stands =
    elim (Contains-cases name (others names name) other stands) [
      | inl same ↦ inr same
      | inr more ↦ inl (IsKept-filter (λ (n : PageName). not (is_same name n)) names other more).stands
    ]

with_it : (capacity : ℕ) (names : List PageName) (name other : PageName) → Contains (names_with capacity names name) other → Contains names other ⊎ (name ≡ other)
with_it capacity names name other stands =
    by_test (is_among names name) stands where
      by_test : (among : Bool) → Contains (if among then name ∷ others names name else take capacity (name ∷ others names name)) other → Contains names other ⊎ (name ≡ other)
      by_test true stands = in_front names name other stands
      by_test false stands = in_front names name other (Contains-take capacity (name ∷ others names name) other stands)

-- a name that is there after wants was there before, or a page of that name was wanted
pub were_wanted : (capacity : ℕ) (names : List PageName) (given : List Want) (name : PageName) → Contains (names_after capacity names given) name → Contains names name ⊎ Contains given (wants.Page name)
were_wanted capacity names [] name stands = inl stands
were_wanted capacity names (want ∷ more) name stands =
    elim (were_wanted capacity (names_then capacity names want) more name stands) [
      | inl then_there ↦ by_want want then_there
      | inr later ↦ inr (Contains-there want more (wants.Page name) later)
    ] where
      by_want : (want : Want) → Contains (names_then capacity names want) name → Contains names name ⊎ Contains (want ∷ more) (wants.Page name)
      by_want wants.Gate there = inl there
      by_want wants.Stops there = inl there
      by_want wants.Finished there = inl there
      by_want (wants.Page other) there =
          elim (with_it capacity names other name there) [
            | inl before ↦ inl before
            | inr same ↦ inr (subst (λ (n : PageName). Contains (wants.Page other ∷ more) (wants.Page n)) same (Contains-here (wants.Page other) more))
          ]
