-- The pages of a side between their neighbours, and the one to which its time gate sends.
use Rattle.std.proofs.Common.{◌≡◌, ℕ, ◌<◌, ◌≤◌, inl, inr, List, [], ◌∷◌, ◌++◌, Bool, false, Option, Some, None, refl, ap, sym, subst, ◌∙◌, arith}
use Rattle.std.specs.Prelude.{◌⊎◌, ◌||◌, option_map, reverse, if◌then◌else◌}
use Rattle.std.specs.List.{Contains, last_or}
use Rattle.std.proofs.lemmas.Bool.Decides.{nat_tests}
use Rattle.std.proofs.lemmas.List.{append_assoc}
use Rattle.std.proofs.lemmas.List.Elements.{All-contains, Contains-append_right}
use Rattle.lc_model.specs.declared.connection.Connection.{Connection}
use Rattle.lc_model.specs.declared.query.Query.{Query}
use Rattle.lc_model.proofs.ListLemmas.{Contains-here}
use Rattle.lc_model.specs.Versions.Cuts.{first_of}
use Rattle.lc_model.specs.Versions.Pages.{CutPage, departures_of, page_for}
use Rattle.page_json.specs.declared.page.Page.{Page}
use Rattle.convoy.specs.PageLaws.Chain.{ArePagesOf, along_next, along_previous, names_of}
use Rattle.convoy.specs.PageLaws.Rides.{pages_on}
use Rattle.convoy.proofs.PageLawsLemmas.ChainLemmas.{by_or_not, links_part, next_goes_on, next_stays, previous_stays}
use Rattle.convoy.proofs.PageLawsLemmas.NameLemmas.{cuts_name_neighbours}
use Rattle.convoy.proofs.PageLawsLemmas.RowLemmas.{found_by_name, is_where_next_begins, row}
use Rattle.page_client.specs.Shown.{is_early, is_late, is_off, wrong_gate}
use Rattle.page_client.specs.declared.fault.PeerFault.TheVariants.{GateWrong}
use Rattle.page_client.specs.declared.outcome.Outcome.TheVariants.{PeerWrong}
use Rattle.lc_world.specs.Sides.PageAt.{linked, named, previous_cut}
use Rattle.lc_world.specs.Sides.Response.{IsPageOf}
use Rattle.lc_world.specs.Sides.Side.{IsValidSide, Side}
use Rattle.lc_world.proofs.SidesLemmas.PageLemmas.{never_falls}
use Rattle.convoy.specs.ClientLaws.Laws.{IsAmong, LinksLeadAlong}
use Rattle.convoy.specs.ClientLaws.Published.{IsPublished, Published, between}
use Rattle.convoy.proofs.ClientLawsLemmas.PublishedLemmas.{one_published, pages_are_among}

linked_between : (version : ℕ) (list : List Connection) (first : CutPage) (rest before : List CutPage) (page : CutPage) (behind : List CutPage) (pages : ArePagesOf list first rest) →
    first ∷ rest ≡ before ++ page ∷ behind → linked version pages.cuts page ≡ between version before page behind
linked_between version list first rest before page behind pages parts =
    let cuts = cuts_name_neighbours list first rest before page behind pages parts in
    ap (λ (above : List ℕ). let p : Page = record {
      name = named version page.departs;
      next = option_map (named version) (first_of above);
      previous = option_map (named version) (previous_cut pages.cuts page.departs);
      list = page.connections;
    } in p) cuts.0
    ∙ ap (λ (below : List ℕ). let p : Page = record {
      name = named version page.departs;
      next = option_map (named version) (first_of (names_of behind));
      previous = option_map (named version) (last_or None below);
      list = page.connections;
    } in p) cuts.1

-- the pages of what is published, with the side's cuts
abbrev pub pages_by_cuts : (side : Side) (version : ℕ) (published : Published) → IsValidSide side → IsPublished side version published → ArePagesOf published.list published.first published.rest
pages_by_cuts side version published valid is = record {
  in_order = is.are_connections.in_order;
  cuts = side.cuts_of (departures_of published.list);
  lawful = valid.lawful (departures_of published.list) (never_falls published.list is.are_connections.in_order);
  are = is.are_pages;
}

-- a page of a side is the one for its moment of what is published
page_is : (side : Side) (version moment : ℕ) (published : Published) (page : Page) → IsPublished side version published → IsPageOf side version moment page →
    page ≡ linked version (side.cuts_of (departures_of published.list)) (page_for published.first published.rest moment)
page_is side version moment published page is_published is =
    let among : IsAmong side version moment page = pages_are_among side version moment page is in
    let same : among.published ≡ published = one_published side version among.published published among.is_published is_published in
    among.is ∙ ap (λ (q : Published). linked version (side.cuts_of (departures_of q.list)) (page_for q.first q.rest moment)) same

module _ (side : Side) (version : ℕ) (published : Published) (valid : IsValidSide side) (is_published : IsPublished side version published)
    (before : List CutPage) (p : CutPage) (behind : List CutPage) (parts : published.first ∷ published.rest ≡ before ++ p ∷ behind) where
  -- the page is found by its name
  pub found : page_for published.first published.rest p.departs ≡ p
  found = (found_by_name published.list published.first published.rest before p behind (pages_by_cuts side version published valid is_published) parts).0

  linked_there : linked version (side.cuts_of (departures_of published.list)) p ≡ between version before p behind
  linked_there = linked_between version published.list published.first published.rest before p behind (pages_by_cuts side version published valid is_published) parts

  -- the side's own page is between its neighbours
  pub own_is_between : (page : Page) → IsPageOf side version p.departs page → page ≡ between version before p behind
  own_is_between page is =
      page_is side version p.departs published page is_published is ∙ ap (linked version (side.cuts_of (departures_of published.list))) found ∙ linked_there

-- the links of a page that is sent lead to its neighbours
pub links_lead_along : LinksLeadAlong
links_lead_along side version moment published page valid is_published is =
    let here : CutPage = page_for published.first published.rest moment in
    let before : List CutPage = reverse (along_previous published.first published.rest moment) in
    let next = is_where_next_begins published.list published.first published.rest moment (pages_by_cuts side version published valid is_published) in
    let parts : published.first ∷ published.rest ≡ before ++ here ∷ next.0 =
    sym (links_part published.first published.rest moment) ∙ ap (λ (on : List CutPage). before ++ on) next.1 in
    record {
      behind = next.0;
      along = next.1;
      is = page_is side version moment published page is_published is ∙ linked_there side version published valid is_published before here next.0 parts;
    }

-- all pages, where those are known that go on from a moment
pub all_parts : (first : CutPage) (rest : List CutPage) (query : Query) (before : List CutPage) (page : CutPage) (behind : List CutPage) → pages_on first rest query ≡ before ++ page ∷ behind →
    first ∷ rest ≡ (reverse (along_previous first rest query.leave) ++ before) ++ page ∷ behind
all_parts first rest query before page behind parts =
    sym (links_part first rest query.leave)
    ∙ ap (λ on. reverse (along_previous first rest query.leave) ++ on) parts
    ∙ sym (append_assoc (reverse (along_previous first rest query.leave)) before (page ∷ behind))

-- the page after the one for a moment is named after the moment
next_is_later : (first : CutPage) (rest : List CutPage) (moment : ℕ) (page next : CutPage) (more : List CutPage) → along_next first rest moment ≡ page ∷ next ∷ more → moment < next.departs
next_is_later first [] moment page next more is = let nothing : [] ≡ next ∷ more = cc in absurd (cc)
next_is_later first (q ∷ rest) moment page next more is =
    elim (by_or_not q moment) [
      | inl by_then ↦ next_is_later q rest moment page next more (sym (next_goes_on first q rest moment by_then.0) ∙ is)
      | inr later ↦
          (let here : first ∷ q ∷ rest ≡ page ∷ next ∷ more = sym (next_stays first q rest moment later.0) ∙ is in
          let same : q ≡ next = cc in
          subst (λ (n : CutPage). moment < n.departs) same later.1)
    ]

-- where the first page is named by the moment, so is the page for it
by_moment : (first : CutPage) (rest : List CutPage) (moment : ℕ) (page : CutPage) (more : List CutPage) → first.departs ≤ moment → along_next first rest moment ≡ page ∷ more → page.departs ≤ moment
by_moment first [] moment page more early is =
    let same : first ≡ page = cc in
    subst (λ (n : CutPage). n.departs ≤ moment) same early
by_moment first (q ∷ rest) moment page more early is =
    elim (by_or_not q moment) [
      | inl by_then ↦ by_moment q rest moment page more by_then.1 (sym (next_goes_on first q rest moment by_then.0) ∙ is)
      | inr later ↦
          (let here : first ∷ q ∷ rest ≡ page ∷ more = sym (next_stays first q rest moment later.0) ∙ is in
          let same : first ≡ page = cc in
          subst (λ (n : CutPage). n.departs ≤ moment) same early)
    ]

-- the page for a moment is named by it, or no page is before it
by_moment_or_first : (first : CutPage) (rest : List CutPage) (moment : ℕ) (page : CutPage) (more : List CutPage) → along_next first rest moment ≡ page ∷ more →
    (page.departs ≤ moment) ⊎ (along_previous first rest moment ≡ [])
by_moment_or_first first [] moment page more is = inr refl
by_moment_or_first first (q ∷ rest) moment page more is =
    elim (by_or_not q moment) [
      | inl by_then ↦ inl (by_moment q rest moment page more by_then.1 (sym (next_goes_on first q rest moment by_then.0) ∙ is))
      | inr later ↦ inr (previous_stays first q rest moment later.0)
    ]

-- what is on the page for a moment begins with its name, or nothing is on it
begins_or_empty : (list : List Connection) (first : CutPage) (rest : List CutPage) (query : Query) (page : CutPage) (more : List CutPage) → ArePagesOf list first rest → pages_on first rest query ≡ page ∷ more →
    (page.connections ≡ []) ⊎ (first_of (departures_of page.connections) ≡ Some page.departs)
begins_or_empty list first rest query page more pages is =
    elim (row list first rest pages).begin [
      | inl nothing ↦
          (let alone : along_next first [] query.leave ≡ page ∷ more = subst (λ (r : List CutPage). along_next first r query.leave ≡ page ∷ more) nothing.2 is in
          let same : first ≡ page = cc in
          inl (ap (λ (p : CutPage). p.connections) (sym same ∙ nothing.1)))
      | inr begin ↦
          (let parts = all_parts first rest query [] page more is in
          let stands : Contains (first ∷ rest) page =
          subst (λ (l : List CutPage). Contains l page) (sym parts) (Contains-append_right (reverse (along_previous first rest query.leave) ++ []) (page ∷ more) page (Contains-here page more)) in
          inr (All-contains (λ (p : CutPage). first_of (departures_of p.connections) ≡ Some p.departs) (first ∷ rest) page begin stands))
    ]

not_late : (leave departs : ℕ) (list : List Connection) (previous : Option _) → (list ≡ []) ⊎ (first_of (departures_of list) ≡ Some departs) → (departs ≤ leave) ⊎ (previous ≡ None) → is_late leave list previous ≡ false
not_late leave departs [] previous begins early = refl
not_late leave departs (c ∷ list) None begins early = refl
not_late leave departs (c ∷ list) (Some name) (inl nothing) early = absurd (cc)
not_late leave departs (c ∷ list) (Some name) (inr begins) (inr first) = absurd (cc)
not_late leave departs (c ∷ list) (Some name) (inr begins) (inl early) =
    let same : c.dep ≡ departs = cc in
    let by_then : c.dep ≤ leave = omega arith in
    grind (arith, nat_tests)

not_early : (leave version : ℕ) (behind : List CutPage) → ((next : CutPage) (more : List CutPage) → behind ≡ next ∷ more → leave < next.departs) → is_early leave (option_map (named version) (first_of (names_of behind))) ≡ false
not_early leave version [] later = refl
not_early leave version (next ∷ more) later = let after : leave < next.departs = later next more refl in grind (arith, nat_tests)

neither : (a b : Bool) → a ≡ false → b ≡ false → (a || b) ≡ false
neither a b e f = rw (e, f) refl

nothing_before : (version : ℕ) (back : List CutPage) → back ≡ [] → option_map (named version) (last_or None (names_of (reverse back ++ []))) ≡ None
nothing_before version back none = ap (λ (b : List CutPage). option_map (named version) (last_or None (names_of (reverse b ++ [])))) none

-- the page for the moment at which the question leaves is the right one to be sent to
is_not_off : (list : List Connection) (first : CutPage) (rest : List CutPage) (query : Query) (version : ℕ) (page : CutPage) (behind : List CutPage) → ArePagesOf list first rest → pages_on first rest query ≡ page ∷ behind →
    is_off query.leave (between version (reverse (along_previous first rest query.leave) ++ []) page behind) ≡ false
is_not_off list first rest query version page behind pages is =
    let back = along_previous first rest query.leave in
    let previous = option_map (named version) (last_or None (names_of (reverse back ++ []))) in
    let next = option_map (named version) (first_of (names_of behind)) in
    let early : (page.departs ≤ query.leave) ⊎ (previous ≡ None) =
    elim (by_moment_or_first first rest query.leave page behind is) [
      | inl by_then ↦ inl by_then
      | inr none ↦ inr (nothing_before version back none)
    ] in
    neither (is_late query.leave page.connections previous) (is_early query.leave next)
    (not_late query.leave page.departs page.connections previous (begins_or_empty list first rest query page behind pages is) early)
    (not_early query.leave version behind (λ q more e. next_is_later first rest query.leave page q more (is ∙ ap (λ l. page ∷ l) e)))

no_wrong_gate : (page : Page) (leave : ℕ) (gate : Option (List ℕ)) → is_off leave page ≡ false → wrong_gate page leave gate ≡ None
no_wrong_gate page leave None right = refl
no_wrong_gate page leave (Some reply) right = ap (λ (off : Bool). if off then Some (PeerWrong reply (GateWrong page)) else None) right

-- the time gate is right to send to it
pub gate_is_right : (list : List Connection) (first : CutPage) (rest : List CutPage) (query : Query) (version : ℕ) (page : CutPage) (behind : List CutPage) (sent : Page) (gate : Option (List ℕ)) → ArePagesOf list first rest →
    pages_on first rest query ≡ page ∷ behind → sent ≡ between version (reverse (along_previous first rest query.leave) ++ []) page behind → wrong_gate sent query.leave gate ≡ None
gate_is_right list first rest query version page behind sent gate pages is same =
    no_wrong_gate sent query.leave gate (ap (is_off query.leave) same ∙ is_not_off list first rest query version page behind pages is)
