-- Along the links of published pages are all connections.
use Rattle.std.proofs.Common.{◌≡◌, ◌⊎◌, inl, inr, ℕ, zero, suc, List, [], ◌∷◌, ◌++◌, map, reverse, Option, Some, None, refl, ap, sym, subst, ◌∙◌, arith}
use Rattle.std.specs.Prelude.{option_map}
use Rattle.std.specs.List.{Contains, last_or}
use Rattle.std.proofs.lemmas.List.{append_assoc, map-append, reverse-append, reverse-reverse}
use Rattle.std.proofs.lemmas.List.Elements.{All-contains, Contains-append_right}
use Rattle.lc_model.proofs.ListLemmas.{Contains-here}
use Rattle.lc_model.specs.declared.connection.Connection.{Connection}
use Rattle.lc_model.specs.declared.page.PageName.{PageName}
use Rattle.lc_model.specs.Versions.Cuts.{first_of}
use Rattle.lc_model.specs.Versions.Pages.{CutPage, departing, departures_of, page_for}
use Rattle.page_json.specs.declared.page.Page.{Page}
use Rattle.convoy.specs.PageLaws.Chain.{ArePagesOf, connections_along, names_of}
use Rattle.convoy.proofs.PageLawsLemmas.NameLemmas.{cuts_name_neighbours}
use Rattle.convoy.proofs.PageLawsLemmas.RowLemmas.{Begin, back_are_the_rest, begin_on_time, found_by_name, is_greatest_by_then, next_are_the_suffix}
use Rattle.lc_world.specs.Sides.PageAt.{linked, named, page_among}
use Rattle.lc_world.specs.Sides.Response.{IsPageOf}
use Rattle.lc_world.specs.Sides.Side.{IsTimetableAt, IsValidSide, Side}
use Rattle.lc_world.proofs.SidesLemmas.OneReplyLemmas.{one_page, one_timetable}
use Rattle.lc_world.proofs.SidesLemmas.PageLemmas.{never_falls}
use Rattle.convoy.specs.ClientLaws.Links.{AreAlongNext, AreAlongPrevious, NextLinksEnd, NextLinksHaveTheRest, PagesBeginAtTheirNames, PreviousLinksEnd, PreviousLinksHaveTheFront, connections_on}
use Rattle.convoy.specs.ClientLaws.Published.{IsPublished, Published}
use Rattle.convoy.proofs.ClientLawsLemmas.PublishedLemmas.{pages_are_among}

-- an item of a list parts it
pub record IsPart {X : Type 0} (xs : List X) (x : X) : Type 0 where
  pub before : List X
  pub behind : List X
  pub parts : xs ≡ before ++ x ∷ behind

part_of : {X : Type 0} (xs : List X) (x : X) → Contains xs x → IsPart xs x
part_of [] x (k, inside, is) = absurd (omega (arith, inside))
part_of (y ∷ xs) x (zero, inside, is) = record { before = []; behind = xs; parts = ap (λ v. v ∷ xs) is }
part_of (y ∷ xs) x (suc k, inside, is) =
    let rest = part_of xs x (k, omega (arith, inside), is) in
    record { before = y ∷ rest.before; behind = rest.behind; parts = ap (λ v. y ∷ v) rest.parts }

last_of_names : (before : List CutPage) (o : Option ℕ) (p : CutPage) → last_or o (names_of (before ++ p ∷ [])) ≡ Some p.departs
last_of_names [] o p = refl
last_of_names (q ∷ before) o p = last_of_names before (Some q.departs) p

some_is_one : {X : Type 0} (x y : X) → Some x ≡ Some y → x ≡ y
some_is_one x y e = cc

-- a version of a side with all that is published of it
module _ (side : Side) (version : ℕ) (valid : IsValidSide side) (published : Published) (is : IsPublished side version published) where
  abbrev cuts : List ℕ
  cuts = side.cuts_of (departures_of published.list)

  abbrev page_as : CutPage → Page
  page_as p = linked version cuts p

  abbrev pages : ArePagesOf published.list published.first published.rest
  pages = record {
    in_order = is.are_connections.in_order;
    cuts = side.cuts_of (departures_of published.list);
    lawful = valid.lawful (departures_of published.list) (never_falls published.list is.are_connections.in_order);
    are = is.are_pages;
  }

  -- the pages are these before one, that one, and these after it
  abbrev Parts : List CutPage → CutPage → List CutPage → Type 0
  Parts before p behind = published.first ∷ published.rest ≡ before ++ p ∷ behind

  -- a page is the side's own by its name
  own : (before : List CutPage) (p : CutPage) (behind : List CutPage) → Parts before p behind → IsPageOf side version p.departs (page_as p)
  own before p behind parts =
      let found : page_for published.first published.rest p.departs ≡ p = (found_by_name published.list published.first published.rest before p behind pages parts).0 in
      record {
        list = published.list;
        timetable = record { live = published.live; are_live = is.are_live; are_connections = is.are_connections };
        is = ap (linked version cuts) (sym (ap (λ (l : List CutPage). page_among l p.departs) is.are_pages ∙ found));
      }

  next_is : (before : List CutPage) (p : CutPage) (behind : List CutPage) → Parts before p behind → (page_as p).next ≡ option_map (named version) (first_of (names_of behind))
  next_is before p behind parts =
      ap (λ (l : List ℕ). option_map (named version) (first_of l)) (cuts_name_neighbours published.list published.first published.rest before p behind pages parts).0

  previous_is : (before : List CutPage) (p : CutPage) (behind : List CutPage) → Parts before p behind → (page_as p).previous ≡ option_map (named version) (last_or None (names_of before))
  previous_is before p behind parts =
      ap (λ (l : List ℕ). option_map (named version) (last_or None l)) (cuts_name_neighbours published.list published.first published.rest before p behind pages parts).1

  -- one page further
  further : (before : List CutPage) (p q : CutPage) (behind : List CutPage) → Parts before p (q ∷ behind) → Parts (before ++ p ∷ []) q behind
  further before p q behind parts = parts ∙ sym (append_assoc before (p ∷ []) (q ∷ behind))

  along : (before : List CutPage) (p : CutPage) (behind : List CutPage) → Parts before p behind → AreAlongNext side (page_as p) (map page_as behind)
  along before p [] parts = next_is before p [] parts
  along before p (q ∷ behind) parts = (next_is before p (q ∷ behind) parts, own (before ++ p ∷ []) q behind (further before p q behind parts), along (before ++ p ∷ []) q behind (further before p q behind parts))

  -- a page of a name is the one with it
  the_page : (before : List CutPage) (p : CutPage) (behind : List CutPage) (page : Page) → Parts before p behind → page.name ≡ named version p.departs → IsPageOf side page.name.version page.name.departs page → page_as p ≡ page
  the_page before p behind page parts name is_page =
      one_page side version p.departs (page_as p) page (own before p behind parts) (subst (λ (n : PageName). IsPageOf side n.version n.departs page) name is_page)

  only_along : (before : List CutPage) (p : CutPage) (behind : List CutPage) (more : List Page) → Parts before p behind → AreAlongNext side (page_as p) more → map page_as behind ≡ more
  only_along before p [] [] parts are = refl
  only_along before p [] (m ∷ more) parts are = absurd (let f : None ≡ Some m.name = sym (next_is before p [] parts) ∙ are.0 in cc)
  only_along before p (q ∷ behind) [] parts are = absurd (let f : Some (named version q.departs) ≡ None = sym (next_is before p (q ∷ behind) parts) ∙ are in cc)
  only_along before p (q ∷ behind) (m ∷ more) parts are =
      let on = further before p q behind parts in
      let name : m.name ≡ named version q.departs = some_is_one m.name (named version q.departs) (sym are.0 ∙ next_is before p (q ∷ behind) parts) in
      let same : page_as q ≡ m = the_page (before ++ p ∷ []) q behind m on name are.1 in
      let others : map page_as behind ≡ more = only_along (before ++ p ∷ []) q behind more on (subst (λ (x : Page). AreAlongNext side x more) (sym same) are.2) in
      ap (λ (x : Page). x ∷ map page_as behind) same ∙ ap (λ (l : List Page). m ∷ l) others

  on_pages : (list : List CutPage) → connections_on (map page_as list) ≡ connections_along list
  on_pages [] = refl
  on_pages (p ∷ list) = ap (λ (l : List Connection). p.connections ++ l) (on_pages list)

  suffix : (before : List CutPage) (p : CutPage) (behind : List CutPage) → Parts before p behind → connections_along (p ∷ behind) ≡ departing p.departs None published.list
  suffix before p behind parts =
      let found = found_by_name published.list published.first published.rest before p behind pages parts in
      sym (ap connections_along found.1) ∙ next_are_the_suffix published.list published.first published.rest p.departs pages
      ∙ ap (λ (q : CutPage). departing q.departs None published.list) found.0

  next_have_the_rest : (before : List CutPage) (p : CutPage) (behind : List CutPage) (more : List Page) → Parts before p behind → AreAlongNext side (page_as p) more
      → connections_on (page_as p ∷ more) ≡ departing p.departs None published.list
  next_have_the_rest before p behind more parts are =
      ap (λ (l : List Page). connections_on (page_as p ∷ l)) (sym (only_along before p behind more parts are)) ∙ on_pages (p ∷ behind) ∙ suffix before p behind parts

  -- the pages before one, in reverse: the nearest one is the last
  nearer : (before : List CutPage) (p q : CutPage) (behind : List CutPage) → Parts (before ++ q ∷ []) p behind → Parts before q (p ∷ behind)
  nearer before p q behind parts = parts ∙ append_assoc before (q ∷ []) (p ∷ behind)

  -- by the pages before in their turned order
  back : (turned : List CutPage) (p : CutPage) (behind : List CutPage) → Parts (reverse turned) p behind → AreAlongPrevious side (page_as p) (map page_as turned)
  back [] p behind parts = previous_is [] p behind parts
  back (q ∷ turned) p behind parts =
      let on : Parts (reverse turned) q (p ∷ behind) = nearer (reverse turned) p q behind (parts ∙ ap (λ (l : List CutPage). l ++ p ∷ behind) (turned_on q turned)) in
      let name = previous_is (reverse (q ∷ turned)) p behind parts ∙ ap (λ (l : List CutPage). option_map (named version) (last_or None (names_of l))) (turned_on q turned)
      ∙ ap (option_map (named version)) (last_of_names (reverse turned) None q) in
      (name, own (reverse turned) q (p ∷ behind) on, back turned q (p ∷ behind) on)
    where
      turned_on : (x : CutPage) (xs : List CutPage) → reverse (x ∷ xs) ≡ reverse xs ++ x ∷ []
      turned_on x xs = reverse-append (x ∷ []) xs

  only_back : (turned : List CutPage) (p : CutPage) (behind : List CutPage) (more : List Page) → Parts (reverse turned) p behind → AreAlongPrevious side (page_as p) more → map page_as turned ≡ more
  only_back [] p behind [] parts are = refl
  only_back [] p behind (m ∷ more) parts are = absurd (let f : None ≡ Some m.name = sym (previous_is [] p behind parts) ∙ are.0 in cc)
  only_back (q ∷ turned) p behind [] parts are = absurd (let f : Some (named version q.departs) ≡ None = sym (back (q ∷ turned) p behind parts).0 ∙ are in cc)
  only_back (q ∷ turned) p behind (m ∷ more) parts are =
      let on : Parts (reverse turned) q (p ∷ behind) = nearer (reverse turned) p q behind (parts ∙ ap (λ (l : List CutPage). l ++ p ∷ behind) (reverse-append (q ∷ []) turned)) in
      let name : m.name ≡ named version q.departs = some_is_one m.name (named version q.departs) (sym are.0 ∙ (back (q ∷ turned) p behind parts).0) in
      let same : page_as q ≡ m = the_page (reverse turned) q (p ∷ behind) m on name are.1 in
      let others : map page_as turned ≡ more = only_back turned q (p ∷ behind) more on (subst (λ (x : Page). AreAlongPrevious side x more) (sym same) are.2) in
      ap (λ (x : Page). x ∷ map page_as turned) same ∙ ap (λ (l : List Page). m ∷ l) others

  front : (before : List CutPage) (p : CutPage) (behind : List CutPage) → Parts before p behind → connections_along before ≡ departing 0 (Some p.departs) published.list
  front before p behind parts =
      let found = found_by_name published.list published.first published.rest before p behind pages parts in
      sym (ap (λ (l : List CutPage). connections_along (reverse l)) found.2 ∙ ap connections_along (reverse-reverse before))
      ∙ (back_are_the_rest published.list published.first published.rest p.departs pages).0 ∙ ap (λ (q : CutPage). departing 0 (Some q.departs) published.list) found.0

  reverse_pages : (list : List CutPage) → reverse (map page_as list) ≡ map page_as (reverse list)
  reverse_pages [] = refl
  reverse_pages (p ∷ list) =
      reverse-append (page_as p ∷ []) (map page_as list) ∙ ap (λ (l : List Page). l ++ page_as p ∷ []) (reverse_pages list)
      ∙ sym (map-append page_as (reverse list) (p ∷ [])) ∙ ap (map page_as) (sym (reverse-append (p ∷ []) list))

  previous_have_the_front : (before : List CutPage) (p : CutPage) (behind : List CutPage) (more : List Page) → Parts before p behind → AreAlongPrevious side (page_as p) more
      → connections_on (reverse more) ≡ departing 0 (Some p.departs) published.list
  previous_have_the_front before p behind more parts are =
      let turned : Parts (reverse (reverse before)) p behind = parts ∙ ap (λ (l : List CutPage). l ++ p ∷ behind) (sym (reverse-reverse before)) in
      let same : map page_as (reverse before) ≡ more = only_back (reverse before) p behind more turned are in
      ap (λ (l : List Page). connections_on (reverse l)) (sym same) ∙ ap connections_on (reverse_pages (reverse before)) ∙ on_pages (reverse (reverse before))
      ∙ ap connections_along (reverse-reverse before) ∙ front before p behind parts

-- a page of a side is among those that are published
pub record StandsAmong (side : Side) (version : ℕ) (page : Page) : Type 0 where
  pub published : Published
  pub is_published : IsPublished side version published
  pub before : List CutPage
  pub p : CutPage
  pub behind : List CutPage
  pub parts : published.first ∷ published.rest ≡ before ++ p ∷ behind
  pub is : page ≡ linked version (side.cuts_of (departures_of published.list)) p

stands_among : (side : Side) (version moment : ℕ) (page : Page) → IsValidSide side → IsPageOf side version moment page → StandsAmong side version page
stands_among side version moment page valid is_page =
    let among = pages_are_among side version moment page is_page in
    let part = part_of (among.published.first ∷ among.published.rest) (page_for among.published.first among.published.rest moment)
    (is_greatest_by_then among.published.list among.published.first among.published.rest moment (pages side version valid among.published among.is_published)).0 in
    record {
      published = among.published;
      is_published = among.is_published;
      before = part.before;
      p = page_for among.published.first among.published.rest moment;
      behind = part.behind;
      parts = part.parts;
      is = among.is;
    }

-- the timetable of what is published is the version's
same_list : (side : Side) (version : ℕ) (list : List Connection) (published : Published) → IsPublished side version published → IsTimetableAt side version list → published.list ≡ list
same_list side version list published is timetable =
    one_timetable side version published.list list (record { live = published.live; are_live = is.are_live; are_connections = is.are_connections }) timetable

pub next_links_have_the_rest : NextLinksHaveTheRest
next_links_have_the_rest side version list page more at are =
    let s = stands_among side version at.moment page at.valid at.is in
    let of_page : connections_on (page ∷ more) ≡ connections_on (linked version (side.cuts_of (departures_of s.published.list)) s.p ∷ more) = ap (λ (x : Page). connections_on (x ∷ more)) s.is in
    let named_so : s.p.departs ≡ page.name.departs = sym (ap (λ (x : Page). x.name.departs) s.is) in
    of_page ∙ next_have_the_rest side version at.valid s.published s.is_published s.before s.p s.behind more s.parts (subst (λ (x : Page). AreAlongNext side x more) s.is are)
    ∙ ap (λ (m : ℕ). departing m None s.published.list) named_so ∙ ap (departing page.name.departs None) (same_list side version list s.published s.is_published at.timetable)

pub previous_links_have_the_front : PreviousLinksHaveTheFront
previous_links_have_the_front side version list page more at are =
    let s = stands_among side version at.moment page at.valid at.is in
    let named_so : s.p.departs ≡ page.name.departs = sym (ap (λ (x : Page). x.name.departs) s.is) in
    previous_have_the_front side version at.valid s.published s.is_published s.before s.p s.behind more s.parts (subst (λ (x : Page). AreAlongPrevious side x more) s.is are)
    ∙ ap (λ (m : ℕ). departing 0 (Some m) s.published.list) named_so ∙ ap (departing 0 (Some page.name.departs)) (same_list side version list s.published s.is_published at.timetable)

pub next_links_end : NextLinksEnd
next_links_end side version list page at =
    let s = stands_among side version at.moment page at.valid at.is in (
      _,
      subst (λ (x : Page). AreAlongNext side x (map (linked version (side.cuts_of (departures_of s.published.list))) s.behind)) (sym s.is)
          (along side version at.valid s.published s.is_published s.before s.p s.behind s.parts),
    )

pub previous_links_end : PreviousLinksEnd
previous_links_end side version list page at =
    let s = stands_among side version at.moment page at.valid at.is in
    let turned = s.parts ∙ ap (λ (l : List CutPage). l ++ s.p ∷ s.behind) (sym (reverse-reverse s.before)) in (
      _,
      subst (λ (x : Page). AreAlongPrevious side x (map (linked version (side.cuts_of (departures_of s.published.list))) (reverse s.before))) (sym s.is)
          (back side version at.valid s.published s.is_published (reverse s.before) s.p s.behind turned),
    )

begins_by : (list : List Connection) (first : CutPage) (rest before : List CutPage) (p : CutPage) (behind : List CutPage) → first ∷ rest ≡ before ++ p ∷ behind → Begin list first rest
    → (list ≡ []) ⊎ (first_of (departures_of p.connections) ≡ Some p.departs)
begins_by list first rest before p behind parts (inl nothing) = inl nothing.0
begins_by list first rest before p behind parts (inr all) =
    inr (All-contains (λ (q : CutPage). first_of (departures_of q.connections) ≡ Some q.departs) (first ∷ rest) p all
    (subst (λ (l : List CutPage). Contains l p) (sym parts) (Contains-append_right before (p ∷ behind) p (Contains-here p behind))))

pub pages_begin_at_their_names : PagesBeginAtTheirNames
pages_begin_at_their_names side version list page at =
    let s = stands_among side version at.moment page at.valid at.is in
    let same = same_list side version list s.published s.is_published at.timetable in
    let begin = begin_on_time s.published.list s.published.first s.published.rest (pages side version at.valid s.published s.is_published) in
    elim (begins_by s.published.list s.published.first s.published.rest s.before s.p s.behind s.parts begin) [
      | inl nothing ↦ inl (sym same ∙ nothing)
      | inr begins ↦ inr (ap (λ (x : Page). first_of (departures_of x.list)) s.is ∙ begins ∙ sym (ap (λ (x : Page). Some x.name.departs) s.is))
    ]
