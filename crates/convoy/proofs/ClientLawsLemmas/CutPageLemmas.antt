-- Pages as they are published: they are valid, and advance.
use Rattle.std.proofs.Common.{◌≡◌, ℕ, ◌<◌, ◌≤◌, List, [], ◌∷◌, ◌++◌, Bool, true, Option, Some, None, inl, inr, refl, sym, ap, subst}
use Rattle.std.specs.Prelude.{nat_le, nat_lt, ◌&&◌, option_map, filter}
use Rattle.std.specs.List.{All, Contains}
use Rattle.std.proofs.lemmas.Bool.{eq-eqb, lt-ltb}
use Rattle.std.proofs.lemmas.List.Elements.{All-cons, All-contains, All-filter, All-head, All-nil, All-tail}
use Rattle.std.proofs.lemmas.List.Kept.{AllPairs-filter}
use Rattle.std.specs.declared.cmp.Ordering.TheVariants.{Less}
use Rattle.lc_model.specs.Connection.{InDepartureOrder, NoneArrivesEarly, departure_cmp, last_departure}
use Rattle.lc_model.specs.declared.connection.Connection.{Connection}
use Rattle.lc_model.specs.declared.page.PageName.{PageName}
use Rattle.lc_model.proofs.ListLemmas.{AllPairs-nil, Contains-cases, Contains-nil}
use Rattle.lc_model.specs.Versions.Cuts.{AreCuts, first_of}
use Rattle.lc_model.specs.Versions.Pages.{CutPage, departing, departures_of, is_before, page_for, pages_from, pages_of}
use Rattle.page_json.specs.Valid.{IsOfVersion, IsValidPage}
use Rattle.convoy.specs.PageLaws.Chain.{ArePagesOf, names_of}
use Rattle.convoy.proofs.PageLawsLemmas.ChainLemmas.{Follow, page_of_cut, pages_begin}
use Rattle.convoy.proofs.PageLawsLemmas.DeparturesLemmas.{sorted_from_order}
use Rattle.convoy.proofs.PageLawsLemmas.NameLemmas.{cuts_name_neighbours}
use Rattle.convoy.proofs.PageLawsLemmas.RowLemmas.{is_greatest_by_then, row}
use Rattle.convoy.proofs.PageLawsLemmas.TakenLemmas.{AllFollow, follow_behind}
use Rattle.page_client.specs.Page.{advances, begins_at, is_on_from}
use Rattle.lc_world.specs.Sides.PageAt.{named, next_cut, page_among, page_at, previous_cut}

-- ---- valid

-- what is on a page is in order, and none of it arrives early
record IsPart (page : CutPage) : Type 0 where
  in_order : InDepartureOrder page.connections
  forward : NoneArrivesEarly page.connections

part : (departs from : ℕ) (to : Option ℕ) (list : List Connection) → InDepartureOrder list → NoneArrivesEarly list → IsPart (record { departs = departs; connections = departing from to list })
part departs from to list in_order forward =
    let within : Connection → Bool = λ c. nat_le from c.dep && is_before to c.dep in
    record {
      in_order = AllPairs-filter (λ (x y : Connection). departure_cmp x y ≡ Less) within list in_order;
      forward = All-filter within (λ (c : Connection). c.dep ≤ c.arr) list forward;
    }

parts : (cuts : List ℕ) (list : List Connection) → InDepartureOrder list → NoneArrivesEarly list → All IsPart (pages_from cuts list)
parts [] list in_order forward = All-nil IsPart
parts (cut ∷ rest) list in_order forward =
    All-cons IsPart (page_of_cut cut rest list) (pages_from rest list) (part cut cut (first_of rest) list in_order forward) (parts rest list in_order forward)

no_part : IsPart (record { departs = 0; connections = [] })
no_part = record { in_order = AllPairs-nil (λ (x y : Connection). departure_cmp x y ≡ Less); forward = All-nil (λ (c : Connection). c.dep ≤ c.arr) }

-- with the page for a moment
page_is_part : (cuts : List ℕ) (list : List Connection) (moment : ℕ) → AreCuts (departures_of list) cuts → InDepartureOrder list → NoneArrivesEarly list → IsPart (page_among (pages_of cuts list) moment)
page_is_part [] list moment lawful in_order forward = no_part
page_is_part (cut ∷ rest) list moment lawful in_order forward =
    let pages : ArePagesOf list (page_of_cut cut rest list) (pages_from rest list) = record { in_order = in_order; cuts = cut ∷ rest; lawful = lawful; are = refl } in
    All-contains IsPart (pages_from (cut ∷ rest) list) (page_for (page_of_cut cut rest list) (pages_from rest list) moment) (parts (cut ∷ rest) list in_order forward)
    (is_greatest_by_then list (page_of_cut cut rest list) (pages_from rest list) moment pages).0

of_version : (version : ℕ) (departs : Option ℕ) → IsOfVersion version (option_map (named version) departs)
of_version version None = tt
of_version version (Some departs) = refl

pub page_is_valid : (version : ℕ) (cuts : List ℕ) (list : List Connection) (moment : ℕ) → AreCuts (departures_of list) cuts → InDepartureOrder list → NoneArrivesEarly list → IsValidPage (page_at version cuts list moment)
page_is_valid version cuts list moment lawful in_order forward =
    let is = page_is_part cuts list moment lawful in_order forward in
    let departs = (page_among (pages_of cuts list) moment).departs in
    record {
      in_order = is.in_order;
      forward = is.forward;
      next = of_version version (next_cut cuts departs);
      previous = of_version version (previous_cut cuts departs);
    }

-- ---- advances

-- an item of a list, with what is before it and after it
record Stands {X : Type 0} (xs : List X) (x : X) : Type 0 where
  before : List X
  behind : List X
  is : xs ≡ before ++ x ∷ behind

stands : {X : Type 0} (xs : List X) (x : X) → Contains xs x → Stands xs x
stands [] x there = absurd (Contains-nil x there)
stands (y ∷ xs) x there = elim (Contains-cases y xs x there) [
  | inl same ↦ record { before = []; behind = xs; is = ap (λ v. v ∷ xs) same }
  | inr more ↦ let s = stands xs x more in record { before = y ∷ s.before; behind = s.behind; is = ap (λ rest. y ∷ rest) s.is }
]

begins : (list : List Connection) (departs : ℕ) → first_of (departures_of list) ≡ Some departs → begins_at list departs ≡ true
begins [] departs is = cc
begins (c ∷ list) departs is = let same : c.dep ≡ departs = cc in eq-eqb c.dep departs same

-- a link leads on where all departs before it
on_before : (list : List Connection) (departs : ℕ) (next : PageName) → first_of (departures_of list) ≡ Some departs → All (λ (c : Connection). c.dep < next.departs) list → is_on_from (last_departure list) (Some next) ≡ true
on_before [] departs next is before = absurd (cc)
on_before (c ∷ []) departs next is before = lt-ltb c.dep next.departs (All-head (λ (d : Connection). d.dep < next.departs) c [] before)
on_before (c ∷ d ∷ rest) departs next is before = on_before (d ∷ rest) d.dep next refl (All-tail (λ (e : Connection). e.dep < next.departs) c (d ∷ rest) before)

on_from : (version : ℕ) (page : CutPage) (behind : List CutPage) → Follow page behind → first_of (departures_of page.connections) ≡ Some page.departs
    → is_on_from (last_departure page.connections) (option_map (named version) (first_of (names_of behind))) ≡ true
on_from version page [] follow is = refl
on_from version page (next ∷ behind) follow is = on_before page.connections page.departs (named version next.departs) is follow.1

both : (a b : Bool) → a ≡ true → b ≡ true → (a && b) ≡ true
both a b e f = rw (e, f) refl

pub page_advances : (version : ℕ) (cuts : List ℕ) (list : List Connection) (moment : ℕ) → AreCuts (departures_of list) cuts → InDepartureOrder list → advances (page_at version cuts list moment) ≡ true
page_advances version [] list moment lawful in_order = refl
page_advances version (cut ∷ rest) list moment lawful in_order =
    let first = page_of_cut cut rest list in
    let others = pages_from rest list in
    let pages : ArePagesOf list first others = record { in_order = in_order; cuts = cut ∷ rest; lawful = lawful; are = refl } in
    let page = page_for first others moment in
    let there : Contains (first ∷ others) page = (is_greatest_by_then list first others moment pages).0 in
    let at = stands (first ∷ others) page there in
    let starts : first_of (departures_of page.connections) ≡ Some page.departs =
    All-contains (λ (p : CutPage). first_of (departures_of p.connections) ≡ Some p.departs) (first ∷ others) page (pages_begin cut rest list lawful.rising (sorted_from_order list in_order) lawful.members) there in
    let follow : Follow page at.behind = follow_behind at.before page at.behind (subst AllFollow at.is (row list first others pages).follow) in
    let next : filter (nat_lt page.departs) (cut ∷ rest) ≡ names_of at.behind = (cuts_name_neighbours list first others at.before page at.behind pages at.is).0 in
    both (begins_at page.connections page.departs) (is_on_from (last_departure page.connections) (option_map (named version) (next_cut (cut ∷ rest) page.departs)))
    (begins page.connections page.departs starts)
    (subst (λ (names : List ℕ). is_on_from (last_departure page.connections) (option_map (named version) (first_of names)) ≡ true) (sym next) (on_from version page at.behind follow starts))
