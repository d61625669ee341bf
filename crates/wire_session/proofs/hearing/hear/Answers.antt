use Rattle.std.proofs.Common.{◌≡◌, ◌++◌, ◌<◌, ℕ, List, length, drop, ap, sym, subst, ◌∙◌, arith}
use Rattle.std.proofs.lemmas.Result.{err_from_is_err_and}
use Rattle.publisher.specs.Held.{side_of}
use Rattle.lc_world.specs.Sides.Side.{Side}
use Rattle.wire_session.specs.Stands.{IsWaiting}
use Rattle.wire_session.proofs.StepLemmas.{all_of, answered_with, cut_short_at, waits_with}
use Rattle.wire_session.proofs.hearing.hear.Goals as goal

pub returns-in_err-extend_from_slice-clause-stands :
    goal.returns-in_err-extend_from_slice-clause-stands
returns-in_err-extend_from_slice-clause-stands g c =
    let p = err_from_is_err_and c.from_residual.result c.from_residual.ensures.1 in
    let replies = c.args.replies.now in
    let side : Side = side_of g.G.Fragmenter.cuts_of c.args.publisher.now in
    rw p.1
    (λ start fed sent was.
    cut_short_at start fed (sent ++ replies.output) replies.count side c.args.input.now.items c.args.room.now.waits_for c.args.piece.now was)

pub returns-then-len-waits_for-clause-stands : goal.returns-then-len-waits_for-clause-stands
returns-then-len-waits_for-clause-stands g c =
    let replies = c.args.replies.now in
    let side : Side = side_of g.G.Fragmenter.cuts_of c.args.publisher.now in
    let input = c.extend_from_slice.new.self in
    let long = input.ok.0 in
    let short : length input.items < c.args.room.now.waits_for = omega (arith, long) in
    λ start fed sent was.
    waits_with start fed (sent ++ replies.output) replies.count side c.args.input.now.items c.args.room.now.waits_for c.args.piece.now input.items
    c.in_ok-extend_from_slice.ensures.items short was

pub returns-in_err-used-clause-stands : goal.returns-in_err-used-clause-stands
returns-in_err-used-clause-stands g c =
    let p = err_from_is_err_and c.from_residual-in_err-used.result c.from_residual-in_err-used.ensures.1 in
    let replies = c.args.replies.now in
    let side : Side = side_of g.G.Fragmenter.cuts_of c.args.publisher.now in
    let piece : List ℕ = c.args.piece.now in
    let all : c.as_slice.result.now ≡ c.args.input.now.items ++ piece =
    all_of c.as_slice.result.now c.extend_from_slice.new.self.items (c.args.input.now.items ++ piece) c.as_slice.ensures.value c.in_ok-extend_from_slice.ensures.items in
    rw p.1
    (λ start fed sent was.
    c.in_err-used.ensures.left start (fed ++ piece) sent
    (answered_with start fed (sent ++ replies.output) replies.count side c.args.input.now.items c.args.room.now.waits_for piece c.as_slice.result.now all was))

pub returns-in-Some-clause-stands : goal.returns-in-Some-clause-stands
returns-in-Some-clause-stands g c =
    let replies = c.args.replies.now in
    let after = c.answer_all.new.replies in
    let side : Side = side_of g.G.Fragmenter.cuts_of c.args.publisher.now in
    let next : Side = side_of g.G.Fragmenter.cuts_of c.answer_all.new.publisher in
    let piece : List ℕ = c.args.piece.now in
    let all : c.as_slice.result.now ≡ c.args.input.now.items ++ piece =
    all_of c.as_slice.result.now c.extend_from_slice.new.self.items (c.args.input.now.items ++ piece) c.as_slice.ensures.value c.in_ok-extend_from_slice.ensures.items in
    let left : drop c.in-Some.used c.as_slice.result.now ≡ c.drop_front.new.bytes.items =
    ap (λ (x : List ℕ). drop c.in-Some.used x) c.as_slice.ensures.value ∙ sym c.drop_front.ensures in
    λ start fed sent was.
    subst (λ (x : List ℕ). IsWaiting start (fed ++ piece) (sent ++ after.output) after.count next x c.answer_all.new.room.waits_for) left
    (rw c.in-Some.is at
    (c.in_ok-used.ensures.left start (fed ++ piece) sent
    (answered_with start fed (sent ++ replies.output) replies.count side c.args.input.now.items c.args.room.now.waits_for piece c.as_slice.result.now all was)))

pub returns-in-None-clause-stands : goal.returns-in-None-clause-stands
returns-in-None-clause-stands g c =
    let replies = c.args.replies.now in
    let side : Side = side_of g.G.Fragmenter.cuts_of c.args.publisher.now in
    let piece : List ℕ = c.args.piece.now in
    let all : c.as_slice.result.now ≡ c.args.input.now.items ++ piece =
    all_of c.as_slice.result.now c.extend_from_slice.new.self.items (c.args.input.now.items ++ piece) c.as_slice.ensures.value c.in_ok-extend_from_slice.ensures.items in
    λ start fed sent was.
    rw c.in-None.is at
    (c.in_ok-used.ensures.left start (fed ++ piece) sent
    (answered_with start fed (sent ++ replies.output) replies.count side c.args.input.now.items c.args.room.now.waits_for piece c.as_slice.result.now all was))
