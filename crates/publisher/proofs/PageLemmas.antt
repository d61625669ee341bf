-- The page at the place of a moment is the page for it.
use Rattle.std.proofs.Common.{◌≡◌, ℕ, List, [], ◌∷◌, Option, Some, None, refl, ap, sym, subst, ◌∙◌}
use Rattle.std.specs.Prelude.{nat_le, ◌&&◌, option_map}
use Rattle.std.proofs.lemmas.List.Kept.{AllPairs-filter}
use Rattle.std.specs.declared.cmp.Ordering.TheVariants.{Less}
use Rattle.lc_model.specs.Connection.{InDepartureOrder, NoneArrivesEarly, departure_cmp}
use Rattle.lc_model.specs.declared.connection.Connection.{Connection}
use Rattle.lc_model.specs.Versions.Cuts.{AreCuts, first_of}
use Rattle.lc_model.specs.Versions.Pages.{departing, departures_of, is_before}
use Rattle.page_json.specs.declared.page.Page.{Page}
use Rattle.page_json.specs.Valid.{IsOfVersion, IsValidPage}
use Rattle.publisher.specs.Place.{place_of}
use Rattle.publisher.specs.PlaceOf.{IsPlaceOf}
use Rattle.publisher.specs.declared.place.Place.{Place}
use Rattle.publisher.proofs.PlaceLemmas.{next_at_place, page_at_place, page_of_place, previous_at_place}
use Rattle.lc_world.specs.Sides.PageAt.{linked, named, page_at}
use Rattle.lc_world.specs.Sides.Response.{IsPageOf}
use Rattle.lc_world.specs.Sides.Side.{IsTimetableAt, Side, date_in}
use Rattle.lc_world.proofs.SidesLemmas.OneReplyLemmas.{one_timetable}
use Rattle.lc_model.specs.declared.page.PageName.{PageName}
use Rattle.lc_model.specs.declared.stop.Stop.{Stop}
use Rattle.lc_model.specs.Versions.History.{news_at}
use Rattle.lc_model.specs.Versions.Timetable.{AreLiveRuns}
use Rattle.version_store.specs.Rows.{AreConnectionsAt, AreRows}
use Rattle.publisher.specs.Held.{Held, side_of}

-- where cuts are lawful and there are none, there is nothing
nothing_by : (list : List Connection) → first_of [] ≡ first_of (departures_of list) → list ≡ []
nothing_by [] begin = refl
nothing_by (c ∷ list) begin = cc

nothing : (cuts : List ℕ) (list : List Connection) → AreCuts (departures_of list) cuts → cuts ≡ [] → list ≡ []
nothing cuts list lawful none = nothing_by list (subst (λ (cs : List ℕ). first_of cs ≡ first_of (departures_of list)) none lawful.begin)

-- the page that is made at a place
abbrev pub page_made : ℕ → Place → List Connection → Page
page_made version place list = record {
  name = named version place.cut;
  next = option_map (named version) place.next;
  previous = option_map (named version) place.previous;
  list = departing place.cut place.next list;
}

-- it is the page for the moment
pub made_is_page : (version departs : ℕ) (cuts : List ℕ) (list : List Connection) → AreCuts (departures_of list) cuts
    → page_made version (place_of cuts departs) list ≡ page_at version cuts list departs
made_is_page version departs cuts list lawful =
    let place = place_of cuts departs in
    let at = page_at_place cuts list departs lawful.rising (nothing cuts list lawful) in
    let next = next_at_place cuts departs lawful.rising in
    let previous = previous_at_place cuts departs lawful.rising in
    let made : linked version cuts (page_of_place place list) ≡ page_made version place list = rw (next, previous) refl in
    sym (ap (linked version cuts) at ∙ made)

-- what is made at the place of a moment is the page for it
pub is_page_of : (side : Side) (version departs : ℕ) (place : Place) (p : IsPlaceOf side version departs place) → IsPageOf side version departs (page_made version place p.list)
is_page_of side version departs place p = record {
  list = p.list;
  timetable = p.timetable;
  is =
      ap (λ (q : Place). page_made version q p.list) p.is
      ∙ made_is_page version departs (side.cuts_of (departures_of p.list)) p.list p.lawful;
}

-- the page at a place is valid
pub valid_page : (version : ℕ) (place : Place) (list : List Connection) → InDepartureOrder list → NoneArrivesEarly (departing place.cut place.next list)
    → IsValidPage (page_made version place list)
valid_page version place list in_order forward = record {
  in_order = AllPairs-filter (λ (x y : Connection). departure_cmp x y ≡ Less) (λ (c : Connection). nat_le place.cut c.dep && is_before place.next c.dep) list in_order;
  forward = forward;
  next = of_version version place.next;
  previous = of_version version place.previous;
}
  where
    of_version : (v : ℕ) (departs : Option ℕ) → IsOfVersion v (option_map (named v) departs)
    of_version v None = tt
    of_version v (Some d) = refl

module _ {G : Type 0} (cuts_of : G → List ℕ → List ℕ) (held : Held G) (same_stops : held.store.stops ≡ held.doc.stops) where
  -- what the store has at a version is the side's timetable
  pub timetable_of : (version : ℕ) (list : List Connection) → AreConnectionsAt held.store version list → IsTimetableAt (side_of cuts_of held) version list
  timetable_of version list at = record {
    live = at.live;
    are_live =
        subst (λ (stops : List Stop). AreLiveRuns held.store.runs stops (news_at (date_in held.store.zone) held.store.history version) at.live) same_stops at.are_runs;
    are_connections = at.are_connections;
  }

  -- the store's rows from there on are those of the page
  pub rows_are : (version departs : ℕ) (place : Place) (p : IsPlaceOf (side_of cuts_of held) version departs place) (rows : List Connection)
      → AreRows held.store version place.cut place.next rows → rows ≡ departing place.cut place.next p.list
  rows_are version departs place p rows are =
      are.departing
      ∙ ap (departing place.cut place.next) (one_timetable (side_of cuts_of held) version are.all p.list (timetable_of version are.all are.of_version) p.timetable)

  -- the page that is made of them
  pub is_made : (version departs : ℕ) (place : Place) (p : IsPlaceOf (side_of cuts_of held) version departs place) (rows : List Connection) (next previous : Option PageName)
      → AreRows held.store version place.cut place.next rows → next ≡ option_map (named version) place.next → previous ≡ option_map (named version) place.previous
      → page_made version place p.list ≡ record { name = named version place.cut; next = next; previous = previous; list = rows }
  is_made version departs place p rows next previous are is_next is_previous =
      let same = rows_are version departs place p rows are in
      rw (is_next, is_previous, same) refl
