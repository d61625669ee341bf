-- The pages of connections by lawful cuts are a row: what follows from that.
use Rattle.std.proofs.Common.{◌≡◌, ℕ, ◌<◌, ◌≤◌, ◌⊎◌, inl, inr, List, [], ◌∷◌, ◌++◌, get_or, Some, None, refl, ap, sym, subst, ◌∙◌, arith}
use Rattle.std.specs.Prelude.{reverse}
use Rattle.std.specs.List.{All, Contains}
use Rattle.std.proofs.lemmas.List.Concat.{flat_map-append}
use Rattle.std.proofs.lemmas.List.Elements.{All-contains, All-nil, Contains-append_cases, Contains-get_or}
use Rattle.lc_model.specs.declared.connection.Connection.{Connection}
use Rattle.lc_model.specs.Versions.Cuts.{AreCuts, first_of}
use Rattle.lc_model.specs.Versions.Pages.{CutPage, departing, departures_of, page_for, pages_from, pages_of}
use Rattle.convoy.specs.PageLaws.Chain.{AreTheList, ArePagesOf, BackAreTheRest, BeginOnTime, FoundByName, IsGreatestByThen, IsWhereNextBegins, LateAreAlongNext, LinksPartPages, NamesRise, NeverEmpty, NextAreTheSuffix, SecondsAreWhole, along_next, along_previous, connections_along}
use Rattle.convoy.proofs.PageLawsLemmas.ChainLemmas.{Follow, all_from_first, before_moment, before_name, begins_there, found_by_name as found_in_row, is_greatest, is_one_of, links_part, names_rise as rise_by_name, next_are_part, no_departures, pages_are_part, pages_begin, pages_follow, part_from, parts_there, seconds_are_whole as are_whole}
use Rattle.convoy.proofs.PageLawsLemmas.DeparturesLemmas.{Sorted, sorted_from_order}

-- each page begins with the departure of its name, or there is one empty page of nothing
abbrev pub Begin : List Connection → CutPage → List CutPage → Type 0
Begin list first rest =
    ((list ≡ []) × (first ≡ record { departs = 0; connections = [] }) × (rest ≡ []))
    ⊎ All (λ (p : CutPage). first_of (departures_of p.connections) ≡ Some p.departs) (first ∷ rest)

-- what is known of the pages of connections
pub record IsRow (list : List Connection) (first : CutPage) (rest : List CutPage) : Type 0 where
  pub follow : Follow first rest
  pub whole : connections_along (first ∷ rest) ≡ list
  pub suffix : (moment : ℕ) → connections_along (along_next first rest moment) ≡ departing (page_for first rest moment).departs None list
  pub begin : Begin list first rest

-- what holds of the first page and the others
abbrev AtPages : (CutPage → List CutPage → Type 0) → List CutPage → Type 0
AtPages P [] = Unit {0}
AtPages P (first ∷ rest) = P first rest

row_of_cuts : (list : List Connection) (cuts : List ℕ) → Sorted list → AreCuts (departures_of list) cuts → AtPages (IsRow list) (pages_of cuts list)
row_of_cuts list [] sorted lawful =
    let empty : list ≡ [] = no_departures list (sym lawful.begin) in
    let P : List Connection → Type 0 = λ (l : List Connection). IsRow l (record { departs = 0; connections = [] }) [] in
    subst P (sym empty) (record {
      follow = All-nil (λ (c : Connection). 0 ≤ c.dep);
      whole = refl;
      suffix = λ moment. refl;
      begin = inl (refl, refl, refl);
    })
row_of_cuts list (cut ∷ more) sorted lawful = record {
  follow = pages_follow cut more list lawful.rising;
  whole = pages_are_part cut more list lawful.rising sorted ∙ all_from_first cut list sorted lawful.begin;
  suffix = λ moment. next_are_part cut more list moment lawful.rising sorted;
  begin = inr (pages_begin cut more list lawful.rising sorted lawful.members);
}

pub row : (list : List Connection) (first : CutPage) (rest : List CutPage) → ArePagesOf list first rest → IsRow list first rest
row list first rest pages = subst (AtPages (IsRow list)) pages.are (row_of_cuts list pages.cuts (sorted_from_order list pages.in_order) pages.lawful)

-- back along the links to the previous one and on along those to the next one is the list
pub whole_by_links : (list : List Connection) (first : CutPage) (rest : List CutPage) (moment : ℕ) → IsRow list first rest →
    connections_along (reverse (along_previous first rest moment)) ++ connections_along (along_next first rest moment) ≡ list
whole_by_links list first rest moment is =
    sym (flat_map-append (λ (p : CutPage). p.connections) (reverse (along_previous first rest moment)) (along_next first rest moment))
    ∙ ap connections_along (links_part first rest moment) ∙ is.whole

pub never_empty : NeverEmpty
never_empty list [] = (record { departs = 0; connections = [] }, [], refl)
never_empty list (cut ∷ rest) = (record { departs = cut; connections = departing cut (first_of rest) list }, pages_from rest list, refl)

pub are_the_list : AreTheList
are_the_list list first rest pages = (row list first rest pages).whole

pub begin_on_time : BeginOnTime
begin_on_time list first rest pages = (row list first rest pages).begin

pub names_rise : NamesRise
names_rise list first rest pages = rise_by_name first rest (row list first rest pages).follow

pub seconds_are_whole : SecondsAreWhole
seconds_are_whole list first rest pages = are_whole first rest (row list first rest pages).follow

pub is_greatest_by_then : IsGreatestByThen
is_greatest_by_then list first rest moment pages =
    let follow = (row list first rest pages).follow in
    (is_one_of first rest moment follow, is_greatest first rest moment follow)

pub is_where_next_begins : IsWhereNextBegins
is_where_next_begins list first rest moment pages = begins_there first rest moment (row list first rest pages).follow

pub links_part_pages : LinksPartPages
links_part_pages = links_part

pub next_are_the_suffix : NextAreTheSuffix
next_are_the_suffix list first rest moment pages = (row list first rest pages).suffix moment

pub back_are_the_rest : BackAreTheRest
back_are_the_rest list first rest moment pages =
    let is = row list first rest pages in
    let name = (page_for first rest moment).departs in
    let front = connections_along (reverse (along_previous first rest moment)) in
    let suffix : connections_along (along_next first rest moment) ≡ departing name None list = is.suffix moment in
    let both : front ++ departing name None list ≡ list = ap (λ on. front ++ on) (sym suffix) ∙ whole_by_links list first rest moment is in
    let parts : departing 0 (Some name) (front ++ departing name None list) ≡ front =
    parts_there name front (departing name None list) (before_name first rest moment is.follow) (part_from name None list) in
    let back : front ≡ departing 0 (Some name) list = sym parts ∙ ap (λ l. departing 0 (Some name) l) both in
    (back, sym both ∙ ap (λ l. l ++ departing name None list) back)

pub late_are_along_next : LateAreAlongNext
late_are_along_next list first rest moment pages =
    let is = row list first rest pages in
    let front = connections_along (reverse (along_previous first rest moment)) in
    let on = connections_along (along_next first rest moment) in
    let early : All (λ (c : Connection). c.dep < moment) front = before_moment first rest moment is.follow in
    let whole : front ++ on ≡ list = whole_by_links list first rest moment is in
    ((λ k d within late. there front on moment (get_or list k d) early late (subst (λ l. Contains l (get_or list k d)) (sym whole) (Contains-get_or list k d within))), early) where
      there : (front on : List Connection) (moment : ℕ) (c : Connection) → All (λ (d : Connection). d.dep < moment) front → moment ≤ c.dep → Contains (front ++ on) c → Contains on c
      there front on moment c early late stands =
          elim (Contains-append_cases front on c stands) [
            | inl in_front ↦ (let before : c.dep < moment = All-contains (λ (d : Connection). d.dep < moment) front c early in_front in absurd (omega arith))
            | inr in_on ↦ in_on
          ]

pub found_by_name : FoundByName
found_by_name list first rest before page behind pages is = found_in_row first rest before page behind (row list first rest pages).follow is
