use Rattle.std.proofs.Common.{◌≡◌, ◌++◌, refl, sym, ap, subst, ◌∙◌}
use Rattle.publisher.specs.Held.{side_of}
use Rattle.lc_world.specs.Sides.Side.{Side}
use Rattle.wire_session.specs.Session.{held_of}
use Rattle.wire_session.specs.Stands.{Held, Stands}
use Rattle.wire_session.specs.declared.phase.Phase.TheVariants.{Open, Ended, Spent}
use Rattle.wire_session.proofs.SessionLemmas.{ended_stands, open_where_waits, spent_stands, waits_where_open}
use Rattle.wire_session.proofs.session.Session.hear.Goals as goal

pub returns-in-Ok-More-clause-stands : goal.returns-in-Ok-More-clause-stands
returns-in-Ok-More-clause-stands g c =
    let before : Held = held_of c.self.inside in
    let replies = c.hear.new.replies in
    let side : Side = side_of g.G.Fragmenter.cuts_of c.args.publisher.now in
    let next : Side = side_of g.G.Fragmenter.cuts_of c.hear.new.publisher in
    let is_open : c.self.inside.phase ≡ Open = ap (λ (h : Held). h.phase) c.self.view_is ∙ c.requires in
    let after : Held = record {
      pending = replies.output;
      requests = replies.count;
      phase = c.self.inside.phase;
      waiting = c.hear.new.input.items;
      waits_for = c.hear.new.room.waits_for;
    } in
    λ start fed sent stands.
    open_where_waits after start (fed ++ c.args.piece.now) sent next is_open
    (rw c.in-Ok-More.field-0-is at
    (c.in-Ok-More.ensures.stands start fed sent
    (waits_where_open before start fed sent side is_open (subst (λ (h : Held). Stands h start fed sent side) (sym c.self.view_is) stands))))

pub returns-in-Ok-Ended-clause-stands : goal.returns-in-Ok-Ended-clause-stands
returns-in-Ok-Ended-clause-stands g c =
    let before : Held = held_of c.self.inside in
    let replies = c.hear.new.replies in
    let side : Side = side_of g.G.Fragmenter.cuts_of c.args.publisher.now in
    let next : Side = side_of g.G.Fragmenter.cuts_of c.hear.new.publisher in
    let is_open : c.self.inside.phase ≡ Open = ap (λ (h : Held). h.phase) c.self.view_is ∙ c.requires in
    let after : Held = record {
      pending = replies.output;
      requests = replies.count;
      phase = Ended;
      waiting = c.hear.new.input.items;
      waits_for = c.hear.new.room.waits_for;
    } in
    λ start fed sent stands.
    ended_stands after start (fed ++ c.args.piece.now) sent next refl
    (rw c.in-Ok-Ended.field-0-is at
    (c.in-Ok-Ended.ensures.stands start fed sent
    (waits_where_open before start fed sent side is_open (subst (λ (h : Held). Stands h start fed sent side) (sym c.self.view_is) stands))))

pub returns-in-Err-clause-stands : goal.returns-in-Err-clause-stands
returns-in-Err-clause-stands g c =
    let before : Held = held_of c.self.inside in
    let replies = c.hear.new.replies in
    let side : Side = side_of g.G.Fragmenter.cuts_of c.args.publisher.now in
    let next : Side = side_of g.G.Fragmenter.cuts_of c.hear.new.publisher in
    let is_open : c.self.inside.phase ≡ Open = ap (λ (h : Held). h.phase) c.self.view_is ∙ c.requires in
    let after : Held = record {
      pending = replies.output;
      requests = replies.count;
      phase = Spent;
      waiting = c.hear.new.input.items;
      waits_for = c.hear.new.room.waits_for;
    } in
    λ start fed sent stands.
    spent_stands after start (fed ++ c.args.piece.now) sent next refl
    (c.in-Err.ensures.stands start fed sent
    (waits_where_open before start fed sent side is_open (subst (λ (h : Held). Stands h start fed sent side) (sym c.self.view_is) stands)))
