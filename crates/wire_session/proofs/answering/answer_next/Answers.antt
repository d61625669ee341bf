use Rattle.std.proofs.Common.{◌≡◌, ◌++◌, ◌⊎◌, ℕ, List, inl, inr, refl, sym, ap, subst, take}
use Rattle.std.proofs.lemmas.Result.{err_from_is_err_and}
use Rattle.publisher.specs.Held.{side_of}
use Rattle.lc_world.specs.Sides.Reply.{IsNextSide}
use Rattle.lc_world.specs.Sides.Side.{Side}
use Rattle.wire_session.specs.Stands.{IsCutShort}
use Rattle.wire_session.specs.declared.replies.Replies.{Replies}
use Rattle.wire_session.proofs.FrontLemmas.{refused_has_reason}
use Rattle.wire_session.proofs.StandLemmas.{refused}
use Rattle.wire_session.proofs.StepLemmas.{counted_after, cut_short, cut_short_by, ends_refused, left_after}
use Rattle.wire_session.proofs.answering.answer_next.Goals as goal

pub refuse-requires-clause-reason : goal.refuse-requires-clause-reason
refuse-requires-clause-reason g c = refused_has_reason c.args.bytes.now c.in-Refused.status c.in-Refused.ensures.said

pub returns-in_err-refuse-in-Refused-clause-left :
    goal.returns-in_err-refuse-in-Refused-clause-left
returns-in_err-refuse-in-Refused-clause-left g c =
    let p = err_from_is_err_and c.from_residual.result c.from_residual.ensures.1 in
    let same : c.refuse.new.replies ≡ c.args.replies.now = c.in_err-refuse-in-Refused.ensures.unchanged in
    let side : Side = side_of g.G.Fragmenter.cuts_of c.args.publisher.now in
    rw p.1
    (λ start fed sent was.
    subst (λ (r : Replies). IsCutShort start fed (sent ++ r.output) r.count side) (sym same)
    (cut_short start fed (sent ++ c.args.replies.now.output) c.args.replies.now.count side c.args.bytes.now side was (inl refl)))

pub returns-in_err-closes-in-Whole-clause-left : goal.returns-in_err-closes-in-Whole-clause-left
returns-in_err-closes-in-Whole-clause-left g c =
    let p = err_from_is_err_and c.from_residual-in_err-closes-in-Whole.result c.from_residual-in_err-closes-in-Whole.ensures.1 in
    let same : c.answer.new.replies ≡ c.args.replies.now = c.in_err-closes-in-Whole.ensures.unchanged in
    let before = c.args.replies.now in
    let side : Side = side_of g.G.Fragmenter.cuts_of c.args.publisher.now in
    let next : Side = side_of g.G.Fragmenter.cuts_of c.answer.new.publisher in
    let bytes : List ℕ = c.args.bytes.now in
    let left : (next ≡ side) ⊎ IsNextSide side (take c.in-Whole.length bytes) next =
    elim c.in_err-closes-in-Whole.ensures.left [ inl is ↦ inl (ap (side_of g.G.Fragmenter.cuts_of) is) | inr is ↦ inr is ] in
    rw p.1
    (λ start fed sent was.
    subst (λ (r : Replies). IsCutShort start fed (sent ++ r.output) r.count next) (sym same)
    (cut_short_by start fed (sent ++ before.output) before.count side bytes next c.in-Whole.length was c.in-Whole.ensures.said left))

pub returns-in-NotYet-clause-left : goal.returns-in-NotYet-clause-left
returns-in-NotYet-clause-left g c = λ start fed sent was. record {
  answered = was;
  waits = c.in-NotYet.ensures.said;
  waits_for = c.in-NotYet.ensures.waits refl;
}

pub returns-in_ok-refuse-in-Refused-clause-left : goal.returns-in_ok-refuse-in-Refused-clause-left
returns-in_ok-refuse-in-Refused-clause-left g c =
    let side : Side = side_of g.G.Fragmenter.cuts_of c.args.publisher.now in
    let before = c.args.replies.now in
    λ start fed sent was.
    ends_refused start fed sent before.output before.count side c.in-Refused.status c.refuse.new.replies.output c.refuse.new.replies.count
    c.in_ok-refuse-in-Refused.ensures.output c.in_ok-refuse-in-Refused.ensures.count
    (refused start fed (sent ++ before.output) before.count side c.args.bytes.now c.in-Refused.status was c.in-Refused.ensures.said)

pub returns-in_ok-closes-in-Whole-clause-left : goal.returns-in_ok-closes-in-Whole-clause-left
returns-in_ok-closes-in-Whole-clause-left g c =
    let before = c.args.replies.now in
    let after = c.answer.new.replies in
    let side : Side = side_of g.G.Fragmenter.cuts_of c.args.publisher.now in
    let next : Side = side_of g.G.Fragmenter.cuts_of c.answer.new.publisher in
    let said = c.in_ok-closes-in-Whole in
    rw c.next_after.ensures
    (λ start fed sent was.
    left_after start fed sent before.output before.count side c.args.bytes.now c.in-Whole.length next said.closes after.output after.count
    c.take_request.new.self.waits_for was c.in-Whole.ensures.said said.ensures.replied said.ensures.count)

pub returns-in_ok-closes-in-Whole-clause-counts : goal.returns-in_ok-closes-in-Whole-clause-counts
returns-in_ok-closes-in-Whole-clause-counts g c =
    rw c.next_after.ensures
    (counted_after c.in_ok-closes-in-Whole.closes c.args.replies.now.count c.answer.new.replies.count c.in-Whole.length c.requires
    c.in_ok-closes-in-Whole.ensures.count)
