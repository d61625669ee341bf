-- Pages one after the other, and the page for a moment among them.
use Rattle.std.proofs.Common.{◌≡◌, ℕ, ◌<◌, ◌≤◌, ◌⊎◌, inl, inr, List, [], ◌∷◌, ◌++◌, Bool, true, false, cond, Option, Some, None, refl, ap, sym, subst, ◌∙◌, arith, filter}
use Rattle.std.specs.Prelude.{nat_le, nat_lt, reverse}
use Rattle.std.specs.List.{All, AllPairs, Contains}
use Rattle.std.proofs.lemmas.Bool.{le-leb}
use Rattle.std.proofs.lemmas.Bool.Decides.{leb_tells, nat_tests}
use Rattle.std.proofs.lemmas.List.{append-nil, reverse-append}
use Rattle.std.proofs.lemmas.List.Elements.{All-append, All-cons, All-head, All-nil, All-tail, All-weaker, Contains-append_right, filter-append, filter_passes}
use Rattle.std.proofs.lemmas.List.Kept.{AllPairs-cons}
use Rattle.lc_model.specs.declared.connection.Connection.{Connection}
use Rattle.lc_model.specs.Versions.Cuts.{first_of}
use Rattle.lc_model.specs.Versions.Pages.{CutPage, departing, departures_of, last_page, page_for, pages_from}
use Rattle.convoy.specs.PageLaws.Chain.{along_next, along_previous, connections_along}
use Rattle.convoy.proofs.PageLawsLemmas.DeparturesLemmas.{Sorted, all_after, between, is_within, no_part_beyond, part_at, part_begins, whole_part}
use Rattle.convoy.proofs.PageLawsLemmas.FilterLemmas.{filter_all, filter_drops, filter_none, filter_takes, pairs_head, pairs_tail}

-- the numbers strictly increase
abbrev pub Rising : List ℕ → Type 0
Rising cuts = AllPairs (λ (x y : ℕ). x < y) cuts

-- the page of a cut, before the others
abbrev pub page_of_cut : ℕ → List ℕ → List Connection → CutPage
page_of_cut cut rest list = record { departs = cut; connections = departing cut (first_of rest) list }

-- the pages of cuts are what departs from the first cut on
pub pages_are_part : (cut : ℕ) (rest : List ℕ) (list : List Connection) → Rising (cut ∷ rest) → Sorted list → connections_along (pages_from (cut ∷ rest) list) ≡ departing cut None list
pages_are_part cut [] list rising sorted = append-nil (departing cut None list)
pages_are_part cut (next ∷ rest) list rising sorted =
    let rises : cut < next = All-head (λ (m : ℕ). cut < m) next rest (pairs_head (λ (x y : ℕ). x < y) cut (next ∷ rest) rising) in
    ap (λ (more : List Connection). departing cut (Some next) list ++ more) (pages_are_part next rest list (pairs_tail (λ (x y : ℕ). x < y) cut (next ∷ rest) rising) sorted)
    ∙ part_at cut next list (omega arith) sorted

-- from the first departure on is all
pub all_from_first : (cut : ℕ) (list : List Connection) → Sorted list → Some cut ≡ first_of (departures_of list) → departing cut None list ≡ list
all_from_first cut [] sorted begin = refl
all_from_first cut (c ∷ list) sorted begin =
    let same : cut ≡ c.dep = cc in
    whole_part cut (c ∷ list) (All-cons (λ (d : Connection). cut ≤ d.dep) c list (omega arith) (all_after cut c.dep list (omega arith) sorted.0))

pub no_departures : (list : List Connection) → first_of (departures_of list) ≡ None → list ≡ []
no_departures [] none = refl
no_departures (c ∷ list) none = cc

-- A page names the first departure of what is on it at the earliest. All that is on it departs before the next
-- page's name, which is later.
abbrev pub Follow : CutPage → List CutPage → Type 0
Follow page [] = All (λ (c : Connection). page.departs ≤ c.dep) page.connections
Follow page (next ∷ rest) =
    All (λ (c : Connection). page.departs ≤ c.dep) page.connections × All (λ (c : Connection). c.dep < next.departs) page.connections
    × (page.departs < next.departs) × Follow next rest

passes_from : (from : ℕ) (to : Option ℕ) (c : Connection) → is_within from to c ≡ true → from ≤ c.dep
passes_from from to c passes = grind (arith, nat_tests)

passes_to : (from to : ℕ) (c : Connection) → is_within from (Some to) c ≡ true → c.dep < to
passes_to from to c passes = grind (arith, nat_tests)

-- what is on a part departs from its begin on
pub part_from : (from : ℕ) (to : Option ℕ) (list : List Connection) → All (λ (c : Connection). from ≤ c.dep) (departing from to list)
part_from from to list =
    All-weaker (λ (c : Connection). is_within from to c ≡ true) (λ (c : Connection). from ≤ c.dep) (λ c. passes_from from to c) (departing from to list) (filter_passes (is_within from to) list)

pub part_to : (from to : ℕ) (list : List Connection) → All (λ (c : Connection). c.dep < to) (departing from (Some to) list)
part_to from to list =
    All-weaker (λ (c : Connection). is_within from (Some to) c ≡ true) (λ (c : Connection). c.dep < to) (λ c. passes_to from to c) (departing from (Some to) list) (filter_passes (is_within from (Some to)) list)

pub pages_follow : (cut : ℕ) (rest : List ℕ) (list : List Connection) → Rising (cut ∷ rest) → Follow (page_of_cut cut rest list) (pages_from rest list)
pages_follow cut [] list rising = part_from cut None list
pages_follow cut (next ∷ rest) list rising =
    let rises : cut < next = All-head (λ (m : ℕ). cut < m) next rest (pairs_head (λ (x y : ℕ). x < y) cut (next ∷ rest) rising) in
    (part_from cut (Some next) list, part_to cut next list, rises, pages_follow next rest list (pairs_tail (λ (x y : ℕ). x < y) cut (next ∷ rest) rising))

-- each page begins with the departure of its name
pub pages_begin : (cut : ℕ) (rest : List ℕ) (list : List Connection) → Rising (cut ∷ rest) → Sorted list → All (λ (m : ℕ). Contains (departures_of list) m) (cut ∷ rest) →
    All (λ (p : CutPage). first_of (departures_of p.connections) ≡ Some p.departs) (pages_from (cut ∷ rest) list)
pages_begin cut [] list rising sorted members =
    All-cons (λ (p : CutPage). first_of (departures_of p.connections) ≡ Some p.departs) (page_of_cut cut [] list) []
    (part_begins cut None list sorted (All-head (λ (m : ℕ). Contains (departures_of list) m) cut [] members) refl)
    (All-nil (λ (p : CutPage). first_of (departures_of p.connections) ≡ Some p.departs))
pages_begin cut (next ∷ rest) list rising sorted members =
    let rises : cut < next = All-head (λ (m : ℕ). cut < m) next rest (pairs_head (λ (x y : ℕ). x < y) cut (next ∷ rest) rising) in
    let ends : nat_lt cut next ≡ true = grind (arith, nat_tests) in
    All-cons (λ (p : CutPage). first_of (departures_of p.connections) ≡ Some p.departs) (page_of_cut cut (next ∷ rest) list) (pages_from (next ∷ rest) list)
    (part_begins cut (Some next) list sorted (All-head (λ (m : ℕ). Contains (departures_of list) m) cut (next ∷ rest) members) ends)
    (pages_begin next rest list (pairs_tail (λ (x y : ℕ). x < y) cut (next ∷ rest) rising) sorted (All-tail (λ (m : ℕ). Contains (departures_of list) m) cut (next ∷ rest) members))

-- pages that follow each other increase
pub all_later : (page : CutPage) (rest : List CutPage) → Follow page rest → All (λ (q : CutPage). page.departs < q.departs) rest
all_later page [] follow = All-nil (λ (q : CutPage). page.departs < q.departs)
all_later page (next ∷ rest) follow =
    All-cons (λ (q : CutPage). page.departs < q.departs) next rest follow.2
    (All-weaker (λ (q : CutPage). next.departs < q.departs) (λ (q : CutPage). page.departs < q.departs) (λ q h. omega (arith, follow.2)) rest (all_later next rest follow.3))

pub names_rise : (page : CutPage) (rest : List CutPage) → Follow page rest → AllPairs (λ (p q : CutPage). p.departs < q.departs) (page ∷ rest)
names_rise page [] follow = AllPairs-cons (λ (p q : CutPage). p.departs < q.departs) page [] (all_later page [] follow) (λ i j d before within. absurd (omega arith))
names_rise page (next ∷ rest) follow =
    AllPairs-cons (λ (p q : CutPage). p.departs < q.departs) page (next ∷ rest) (all_later page (next ∷ rest) follow) (names_rise next rest follow.3)

-- what is on the one page departs before all that is on the other one
abbrev pub IsBeforeAll : CutPage → CutPage → Type 0
IsBeforeAll p q = All (λ (c : Connection). All (λ (d : Connection). c.dep < d.dep) q.connections) p.connections

from_name : (page : CutPage) (rest : List CutPage) → Follow page rest → All (λ (c : Connection). page.departs ≤ c.dep) page.connections
from_name page [] follow = follow
from_name page (next ∷ rest) follow = follow.0

-- all pages begin at a moment or later where the first one does
all_from : (moment : ℕ) (page : CutPage) (rest : List CutPage) → moment ≤ page.departs → Follow page rest → All (λ (q : CutPage). All (λ (d : Connection). moment ≤ d.dep) q.connections) (page ∷ rest)
all_from moment page [] before follow =
    All-cons (λ (q : CutPage). All (λ (d : Connection). moment ≤ d.dep) q.connections) page [] (all_after moment page.departs page.connections before follow)
    (All-nil (λ (q : CutPage). All (λ (d : Connection). moment ≤ d.dep) q.connections))
all_from moment page (next ∷ rest) before follow =
    All-cons (λ (q : CutPage). All (λ (d : Connection). moment ≤ d.dep) q.connections) page (next ∷ rest) (all_after moment page.departs page.connections before follow.0)
    (all_from moment next rest (omega (arith, follow.2)) follow.3)

before_all : (moment : ℕ) (p q : CutPage) → All (λ (c : Connection). c.dep < moment) p.connections → All (λ (d : Connection). moment ≤ d.dep) q.connections → IsBeforeAll p q
before_all moment p q before after =
    All-weaker (λ (c : Connection). c.dep < moment) (λ (c : Connection). All (λ (d : Connection). c.dep < d.dep) q.connections)
    (λ c h. All-weaker (λ (d : Connection). moment ≤ d.dep) (λ (d : Connection). c.dep < d.dep) (λ d g. omega arith) q.connections after) p.connections before

pub seconds_are_whole : (page : CutPage) (rest : List CutPage) → Follow page rest → AllPairs IsBeforeAll (page ∷ rest)
seconds_are_whole page [] follow = λ i j d before within. absurd (omega arith)
seconds_are_whole page (next ∷ rest) follow =
    AllPairs-cons IsBeforeAll page (next ∷ rest)
    (All-weaker (λ (q : CutPage). All (λ (d : Connection). next.departs ≤ d.dep) q.connections) (λ (q : CutPage). IsBeforeAll page q) (λ q h. before_all next.departs page q follow.1 h) (next ∷ rest)
    (all_from next.departs next rest (omega arith) follow.3))
    (seconds_are_whole next rest follow.3)

-- whether a page is named by the moment
abbrev pub is_by : ℕ → CutPage → Bool
is_by moment page = nat_le page.departs moment

-- after a page that is named after the moment none is named by it
pub none_by : (moment : ℕ) (page : CutPage) (rest : List CutPage) → moment < page.departs → Follow page rest → filter (is_by moment) rest ≡ []
none_by moment page rest after follow =
    filter_none (is_by moment) rest
    (All-weaker (λ (q : CutPage). page.departs < q.departs) (λ q. is_by moment q ≡ false) (λ q h. is_after q h) rest (all_later page rest follow)) where
      is_after : (q : CutPage) → page.departs < q.departs → nat_le q.departs moment ≡ false
      is_after q h = grind (arith, nat_tests)

-- the page for a moment, where the next page is named by it, and where it is not
pub goes_on : (page next : CutPage) (rest : List CutPage) (moment : ℕ) → nat_le next.departs moment ≡ true → page_for page (next ∷ rest) moment ≡ page_for next rest moment
goes_on page next rest moment named = ap (last_page page) (filter_takes (is_by moment) next rest named)

pub stays : (page next : CutPage) (rest : List CutPage) (moment : ℕ) → Follow next rest → nat_le next.departs moment ≡ false → page_for page (next ∷ rest) moment ≡ page
stays page next rest moment follow not_named =
    let after : moment < next.departs = grind (arith, nat_tests) in
    ap (last_page page) (filter_drops (is_by moment) next rest not_named ∙ none_by moment next rest after follow)

-- the pages along the links, likewise
pub next_goes_on : (page next : CutPage) (rest : List CutPage) (moment : ℕ) → nat_le next.departs moment ≡ true → along_next page (next ∷ rest) moment ≡ along_next next rest moment
next_goes_on page next rest moment named = ap (λ b. cond b (along_next next rest moment) (page ∷ next ∷ rest)) named

pub next_stays : (page next : CutPage) (rest : List CutPage) (moment : ℕ) → nat_le next.departs moment ≡ false → along_next page (next ∷ rest) moment ≡ page ∷ next ∷ rest
next_stays page next rest moment not_named = ap (λ b. cond b (along_next next rest moment) (page ∷ next ∷ rest)) not_named

pub previous_goes_on : (page next : CutPage) (rest : List CutPage) (moment : ℕ) → nat_le next.departs moment ≡ true → along_previous page (next ∷ rest) moment ≡ along_previous next rest moment ++ page ∷ []
previous_goes_on page next rest moment named = ap (λ b. cond b (along_previous next rest moment ++ page ∷ []) []) named

pub previous_stays : (page next : CutPage) (rest : List CutPage) (moment : ℕ) → nat_le next.departs moment ≡ false → along_previous page (next ∷ rest) moment ≡ []
previous_stays page next rest moment not_named = ap (λ b. cond b (along_previous next rest moment ++ page ∷ []) []) not_named

-- a test of names holds or not
pub by_or_not : (page : CutPage) (moment : ℕ) → ((nat_le page.departs moment ≡ true) × (page.departs ≤ moment)) ⊎ ((nat_le page.departs moment ≡ false) × (moment < page.departs))
by_or_not page moment = leb_tells page.departs moment

pub begins_there : (page : CutPage) (rest : List CutPage) (moment : ℕ) → Follow page rest → (more : List CutPage) × (along_next page rest moment ≡ page_for page rest moment ∷ more)
begins_there page [] moment follow = ([], refl)
begins_there page (next ∷ rest) moment follow =
    elim (by_or_not next moment) [
      | inl named ↦
          (let found = begins_there next rest moment follow.3 in
          (found.0, next_goes_on page next rest moment named.0 ∙ found.1 ∙ ap (λ p. p ∷ found.0) (sym (goes_on page next rest moment named.0))))
      | inr later ↦
          (next ∷ rest, next_stays page next rest moment later.0 ∙ ap (λ p. p ∷ next ∷ rest) (sym (stays page next rest moment follow.3 later.0)))
    ]

pub links_part : (page : CutPage) (rest : List CutPage) (moment : ℕ) → reverse (along_previous page rest moment) ++ along_next page rest moment ≡ page ∷ rest
links_part page [] moment = refl
links_part page (next ∷ rest) moment =
    elim (by_or_not next moment) [
      | inl named ↦
          (ap (λ back. reverse back ++ along_next page (next ∷ rest) moment) (previous_goes_on page next rest moment named.0)
          ∙ ap (λ on. reverse (along_previous next rest moment ++ page ∷ []) ++ on) (next_goes_on page next rest moment named.0)
          ∙ ap (λ back. back ++ along_next next rest moment) (reverse-append (along_previous next rest moment) (page ∷ []))
          ∙ ap (λ more. page ∷ more) (links_part next rest moment))
      | inr later ↦
          (ap (λ back. reverse back ++ along_next page (next ∷ rest) moment) (previous_stays page next rest moment later.0)
          ∙ next_stays page next rest moment later.0)
    ]

-- along the links to the next one is what departs from the name of the page for the moment on
pub next_are_part : (cut : ℕ) (rest : List ℕ) (list : List Connection) (moment : ℕ) → Rising (cut ∷ rest) → Sorted list →
    connections_along (along_next (page_of_cut cut rest list) (pages_from rest list) moment) ≡ departing (page_for (page_of_cut cut rest list) (pages_from rest list) moment).departs None list
next_are_part cut [] list moment rising sorted = append-nil (departing cut None list)
next_are_part cut (next ∷ rest) list moment rising sorted =
    let page = page_of_cut cut (next ∷ rest) list in
    let after = page_of_cut next rest list in
    let others = pages_from rest list in
    let rising_on : Rising (next ∷ rest) = pairs_tail (λ (x y : ℕ). x < y) cut (next ∷ rest) rising in
    elim (by_or_not after moment) [
      | inl named ↦
          (ap connections_along (next_goes_on page after others moment named.0)
          ∙ next_are_part next rest list moment rising_on sorted
          ∙ ap (λ (p : CutPage). departing p.departs None list) (sym (goes_on page after others moment named.0)))
      | inr later ↦
          (ap connections_along (next_stays page after others moment later.0)
          ∙ pages_are_part cut (next ∷ rest) list rising sorted
          ∙ ap (λ (p : CutPage). departing p.departs None list) (sym (stays page after others moment (pages_follow next rest list rising_on) later.0)))
    ]

-- The page is named by the moment, and no other page that is has a later name. Or it is the first one, and none is.
abbrev pub IsGreatest : CutPage → List CutPage → ℕ → CutPage → Type 0
IsGreatest first rest moment page =
    ((page.departs ≤ moment) × All (λ (p : CutPage). p.departs ≤ moment → p.departs ≤ page.departs) (first ∷ rest))
    ⊎ ((page ≡ first) × All (λ (p : CutPage). moment < p.departs) (first ∷ rest))

-- a first page alone, or with none after it that is named by the moment
greatest_at_first : (page : CutPage) (rest : List CutPage) (moment : ℕ) → All (λ (p : CutPage). moment < p.departs) rest → IsGreatest page rest moment page
greatest_at_first page rest moment others =
    elim (by_or_not page moment) [
      | inl named ↦
          inl (
            named.1,
            All-cons (λ (p : CutPage). p.departs ≤ moment → p.departs ≤ page.departs) page rest (λ h. omega arith)
                (All-weaker (λ (p : CutPage). moment < p.departs) (λ (p : CutPage). p.departs ≤ moment → p.departs ≤ page.departs) (λ p after by_then. absurd (omega arith)) rest others),
          )
      | inr later ↦ inr (refl, All-cons (λ (p : CutPage). moment < p.departs) page rest later.1 others)
    ]

-- one page more before the others
greatest_behind : (page next : CutPage) (rest : List CutPage) (moment : ℕ) (found : CutPage) → page.departs < next.departs → next.departs ≤ moment → IsGreatest next rest moment found → IsGreatest page (next ∷ rest) moment found
greatest_behind page next rest moment found rises named (inl (by_then, all)) =
    let reaches : next.departs ≤ found.departs = All-head (λ (p : CutPage). p.departs ≤ moment → p.departs ≤ found.departs) next rest all named in
    inl (by_then, All-cons (λ (p : CutPage). p.departs ≤ moment → p.departs ≤ found.departs) page (next ∷ rest) (λ h. omega arith) all)
greatest_behind page next rest moment found rises named (inr (is_first, all)) =
    let later : moment < next.departs = All-head (λ (p : CutPage). moment < p.departs) next rest all in
    absurd (omega arith)

all_after_next : (next : CutPage) (rest : List CutPage) (moment : ℕ) → moment < next.departs → Follow next rest → All (λ (p : CutPage). moment < p.departs) (next ∷ rest)
all_after_next next rest moment after follow =
    All-cons (λ (p : CutPage). moment < p.departs) next rest after
    (All-weaker (λ (q : CutPage). next.departs < q.departs) (λ (q : CutPage). moment < q.departs) (λ q h. omega arith) rest (all_later next rest follow))

pub is_greatest : (page : CutPage) (rest : List CutPage) (moment : ℕ) → Follow page rest → IsGreatest page rest moment (page_for page rest moment)
is_greatest page [] moment follow = greatest_at_first page [] moment (All-nil (λ (p : CutPage). moment < p.departs))
is_greatest page (next ∷ rest) moment follow =
    elim (by_or_not next moment) [
      | inl named ↦
          subst (IsGreatest page (next ∷ rest) moment) (sym (goes_on page next rest moment named.0))
          (greatest_behind page next rest moment (page_for next rest moment) follow.2 named.1 (is_greatest next rest moment follow.3))
      | inr later ↦
          subst (IsGreatest page (next ∷ rest) moment) (sym (stays page next rest moment follow.3 later.0))
          (greatest_at_first page (next ∷ rest) moment (all_after_next next rest moment later.1 follow.3))
    ]

pub is_one_of : (page : CutPage) (rest : List CutPage) (moment : ℕ) → Follow page rest → Contains (page ∷ rest) (page_for page rest moment)
is_one_of page [] moment follow = (0, (omega arith), refl)
is_one_of page (next ∷ rest) moment follow =
    elim (by_or_not next moment) [
      | inl named ↦
          subst (Contains (page ∷ next ∷ rest)) (sym (goes_on page next rest moment named.0))
          (Contains-append_right (page ∷ []) (next ∷ rest) (page_for next rest moment) (is_one_of next rest moment follow.3))
      | inr later ↦ subst (Contains (page ∷ next ∷ rest)) (sym (stays page next rest moment follow.3 later.0)) (0, (omega arith), refl)
    ]

-- What is along the links to the previous one departs before a limit that no page named by the moment exceeds.
pub early_along_previous : (limit : ℕ) (page : CutPage) (rest : List CutPage) (moment : ℕ) → Follow page rest → All (λ (p : CutPage). p.departs ≤ moment → p.departs ≤ limit) rest →
    All (λ (c : Connection). c.dep < limit) (connections_along (reverse (along_previous page rest moment)))
early_along_previous limit page [] moment follow limits = All-nil (λ (c : Connection). c.dep < limit)
early_along_previous limit page (next ∷ rest) moment follow limits =
    let Early : List CutPage → Type 0 = λ back. All (λ (c : Connection). c.dep < limit) (connections_along (reverse back)) in
    elim (by_or_not next moment) [
      | inl named ↦
          (let reaches : next.departs ≤ limit = All-head (λ (p : CutPage). p.departs ≤ moment → p.departs ≤ limit) next rest limits named.1 in
          let onward = early_along_previous limit next rest moment follow.3 (All-tail (λ (p : CutPage). p.departs ≤ moment → p.departs ≤ limit) next rest limits) in
          let on_page : All (λ (c : Connection). c.dep < limit) page.connections = All-weaker (λ (c : Connection). c.dep < next.departs) (λ (c : Connection). c.dep < limit) (λ c h. omega arith) page.connections follow.1 in
          let P : List CutPage → Type 0 = λ pages. All (λ (c : Connection). c.dep < limit) (connections_along pages) in
          subst Early (sym (previous_goes_on page next rest moment named.0))
          (subst P (sym (reverse-append (along_previous next rest moment) (page ∷ [])))
          (All-append (λ (c : Connection). c.dep < limit) page.connections (connections_along (reverse (along_previous next rest moment))) on_page onward)))
      | inr later ↦ subst Early (sym (previous_stays page next rest moment later.0)) (All-nil (λ (c : Connection). c.dep < limit))
    ]

-- it departs before the moment, and before the name of the page for it
pub before_moment : (page : CutPage) (rest : List CutPage) (moment : ℕ) → Follow page rest → All (λ (c : Connection). c.dep < moment) (connections_along (reverse (along_previous page rest moment)))
before_moment page rest moment follow =
    early_along_previous moment page rest moment follow (λ k d within h. h)

limited : (page : CutPage) (rest : List CutPage) (moment : ℕ) (found : CutPage) → IsGreatest page rest moment found → All (λ (p : CutPage). p.departs ≤ moment → p.departs ≤ found.departs) rest
limited page rest moment found (inl (by_then, all)) = All-tail (λ (p : CutPage). p.departs ≤ moment → p.departs ≤ found.departs) page rest all
limited page rest moment found (inr (is_first, all)) =
    All-weaker (λ (p : CutPage). moment < p.departs) (λ (p : CutPage). p.departs ≤ moment → p.departs ≤ found.departs) (λ p after by_then. absurd (omega arith)) rest
    (All-tail (λ (p : CutPage). moment < p.departs) page rest all)

pub before_name : (page : CutPage) (rest : List CutPage) (moment : ℕ) → Follow page rest →
    All (λ (c : Connection). c.dep < (page_for page rest moment).departs) (connections_along (reverse (along_previous page rest moment)))
before_name page rest moment follow =
    let found = page_for page rest moment in
    early_along_previous found.departs page rest moment follow (limited page rest moment found (is_greatest page rest moment follow))

-- a list whose front departs before a moment, and whose rest departs from there on, parts there
pub parts_there : (moment : ℕ) (front rest : List Connection) → All (λ (c : Connection). c.dep < moment) front → All (λ (c : Connection). moment ≤ c.dep) rest → departing 0 (Some moment) (front ++ rest) ≡ front
parts_there moment front rest before after =
    filter-append (is_within 0 (Some moment)) front rest
    ∙ ap (λ kept. kept ++ departing 0 (Some moment) rest) (filter_all (is_within 0 (Some moment)) front (All-weaker (λ (c : Connection). c.dep < moment) (λ c. is_within 0 (Some moment) c ≡ true) (λ c h. between 0 moment c (omega arith) h) front before))
    ∙ ap (λ kept. front ++ kept) (no_part_beyond 0 moment rest after)
    ∙ append-nil front

not_behind : (before : List CutPage) (page : CutPage) (more : List CutPage) → [] ≡ before ++ page ∷ more → ⊥
not_behind [] page more e = cc
not_behind (q ∷ before) page more e = cc

-- a page that is named after all those before it
found_behind : (page : CutPage) (rest before : List CutPage) (found : CutPage) (behind : List CutPage) → Follow page rest → page ∷ rest ≡ before ++ found ∷ behind → page.departs ≤ found.departs
found_behind page rest [] found behind follow is =
    let same : page ≡ found = cc in
    let e : page.departs ≡ found.departs = ap (λ (p : CutPage). p.departs) same in
    omega arith
found_behind page [] (x ∷ before) found behind follow is =
    let others : [] ≡ before ++ found ∷ behind = cc in
    absurd (not_behind before found behind others)
found_behind page (next ∷ rest) (x ∷ before) found behind follow is =
    let others : next ∷ rest ≡ before ++ found ∷ behind = cc in
    let onward : next.departs ≤ found.departs = found_behind next rest before found behind follow.3 others in
    omega (arith, follow.2)

-- a page that is asked for by its name is found with those before and after it
pub found_by_name : (page : CutPage) (rest before : List CutPage) (found : CutPage) (behind : List CutPage) → Follow page rest → page ∷ rest ≡ before ++ found ∷ behind →
    (page_for page rest found.departs ≡ found) × (along_next page rest found.departs ≡ found ∷ behind) × (along_previous page rest found.departs ≡ reverse before)
found_by_name page [] [] found behind follow is =
    let same : page ≡ found = cc in
    (same, is, refl)
found_by_name page (next ∷ rest) [] found behind follow is =
    let same : page ≡ found = cc in
    let e : page.departs ≡ found.departs = ap (λ (p : CutPage). p.departs) same in
    let after : nat_le next.departs found.departs ≡ false = is_after (omega (arith, follow.2)) in
    (stays page next rest found.departs follow.3 after ∙ same, next_stays page next rest found.departs after ∙ is, previous_stays page next rest found.departs after) where
      is_after : found.departs < next.departs → nat_le next.departs found.departs ≡ false
      is_after h = grind (arith, nat_tests)
found_by_name page [] (x ∷ before) found behind follow is =
    let others : [] ≡ before ++ found ∷ behind = cc in
    absurd (not_behind before found behind others)
found_by_name page (next ∷ rest) (x ∷ before) found behind follow is =
    let others : next ∷ rest ≡ before ++ found ∷ behind = cc in
    let first : page ≡ x = cc in
    let named : nat_le next.departs found.departs ≡ true = le-leb next.departs found.departs (found_behind next rest before found behind follow.3 others) in
    let onward = found_by_name next rest before found behind follow.3 others in (
      goes_on page next rest found.departs named ∙ onward.0,
      next_goes_on page next rest found.departs named ∙ onward.1,
      previous_goes_on page next rest found.departs named ∙ ap (λ back. back ++ page ∷ []) onward.2 ∙ ap (λ p. reverse before ++ p ∷ []) first ∙ sym (reverse-append (x ∷ []) before),
    )
