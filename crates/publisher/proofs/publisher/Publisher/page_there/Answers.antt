use Rattle.std.proofs.Common.{◌∙◌, subst, sym}
use Rattle.lc_model.specs.Connection.{NoneArrivesEarly}
use Rattle.page_json.specs.Valid.{IsValidPage}
use Rattle.publisher.specs.Held.{side_of}
use Rattle.publisher.specs.Inside.{held_of}
use Rattle.publisher.specs.PlaceOf.{IsPlaceOf}
use Rattle.lc_world.specs.Sides.Response.{IsPageOf}
use Rattle.publisher.proofs.PageLemmas.{is_made, is_page_of, rows_are, valid_page}
use Rattle.publisher.proofs.publisher.Publisher.page_there.Goals as goal

pub returns-clause-page : goal.returns-clause-page
returns-clause-page g c =
    let cuts_of = g.G.Fragmenter.cuts_of in
    let held = held_of c.self.inside in
    let place = c.args.place in
    let p : IsPlaceOf (side_of cuts_of held) c.args.version c.args.departs place =
    subst (λ h. IsPlaceOf (side_of cuts_of h) c.args.version c.args.departs place) (sym c.self.view_is) c.requires.place in
    let made = is_made cuts_of held c.self.invariant.stops c.args.version c.args.departs place p c.in_ok-list.list c.named.result c.named-2.result c.in_ok-list.ensures c.named.ensures c.named-2.ensures in
    let page = subst (IsPageOf (side_of cuts_of held) c.args.version c.args.departs) made (is_page_of (side_of cuts_of held) c.args.version c.args.departs place p) in
    subst (λ h. IsPageOf (side_of cuts_of h) c.args.version c.args.departs
    (record { name = record { version = c.args.version; departs = place.cut }; next = c.named.result; previous = c.named-2.result; list = c.in_ok-list.list }))
    c.self.view_is page

pub returns-clause-valid : goal.returns-clause-valid
returns-clause-valid g c =
    let cuts_of = g.G.Fragmenter.cuts_of in
    let held = held_of c.self.inside in
    let place = c.args.place in
    let p : IsPlaceOf (side_of cuts_of held) c.args.version c.args.departs place =
    subst (λ h. IsPlaceOf (side_of cuts_of h) c.args.version c.args.departs place) (sym c.self.view_is) c.requires.place in
    let made = is_made cuts_of held c.self.invariant.stops c.args.version c.args.departs place p c.in_ok-list.list c.named.result c.named-2.result c.in_ok-list.ensures c.named.ensures c.named-2.ensures in
    let rows = rows_are cuts_of held c.self.invariant.stops c.args.version c.args.departs place p c.in_ok-list.list c.in_ok-list.ensures in
    let forward = subst NoneArrivesEarly (c.as_slice-forward.ensures.value ∙ rows) c.as_slice-forward.ensures.forward in
    subst IsValidPage made (valid_page c.args.version place p.list p.timetable.are_connections.in_order forward)
