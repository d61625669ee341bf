use Rattle.std.proofs.Common.{◌++◌, ℕ, List, sym, subst}
use Rattle.std.proofs.lemmas.List.{take_rest}
use Rattle.publisher.specs.Held.{side_of}
use Rattle.lc_world.specs.Sides.Side.{Side}
use Rattle.wire_session.specs.Stands.{HasAnswered, IsWaiting}
use Rattle.wire_session.proofs.hearing.answer_all.Goals as goal

pub returns-in-Waits-clause-left : goal.returns-in-Waits-clause-left
returns-in-Waits-clause-left g c =
    let before = c.requests.replies in
    let after = c.answer_next.new.replies in
    let side : Side = side_of g.G.Fragmenter.cuts_of c.requests.publisher in
    let next : Side = side_of g.G.Fragmenter.cuts_of c.answer_next.new.publisher in
    let rest = take_rest c.args.bytes.now c.requests.at in
    λ start fed sent was.
    subst (λ (x : List ℕ). IsWaiting start fed (sent ++ after.output) after.count next x c.answer_next.new.room.waits_for) rest
    (rw c.in-Waits.is at
    (c.in_ok-length.ensures.left start fed sent
    (subst (λ (x : List ℕ). HasAnswered start fed (sent ++ before.output) before.count side x) (sym rest) (c.requests.invariant.left start fed sent was))))

pub returns-in-Ends-clause-left : goal.returns-in-Ends-clause-left
returns-in-Ends-clause-left g c =
    let before = c.requests.replies in
    let side : Side = side_of g.G.Fragmenter.cuts_of c.requests.publisher in
    let rest = take_rest c.args.bytes.now c.requests.at in
    λ start fed sent was.
    rw c.in-Ends.is at
    (c.in_ok-length.ensures.left start fed sent
    (subst (λ (x : List ℕ). HasAnswered start fed (sent ++ before.output) before.count side x) (sym rest) (c.requests.invariant.left start fed sent was)))
