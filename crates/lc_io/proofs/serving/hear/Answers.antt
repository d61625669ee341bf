-- What was read is fed.
use Rattle.std.proofs.Common.{◌≡◌, ℕ, [], false, take, Ok, refl, sym, ap}
use Rattle.std.proofs.lemmas.Result.{err_from_is_err_and}
use Rattle.lc_io.specs.Door.{Reads}
use Rattle.lc_io.proofs.ServeLemmas.{agrees_still, fed_halts, feeds, read_fails, taken, recorded_as}
use Rattle.lc_io.proofs.serving.hear.Goals as goal

pub returns-clause-talks : goal.returns-clause-talks
returns-clause-talks g c =
    feeds g.T.Talk.stands c.args.talk.now c.feed_piece.new.self c.read.new.piece c.in_ok-count.count (g.D.Door.seen c.args.door.now).recorded (g.D.Door.seen c.read.new.self).recorded
    c.in_ok-feed_piece.ensures.fed c.in_ok-count.ensures.recorded

pub returns-in_err-feed_piece-clause-talks : goal.returns-in_err-feed_piece-clause-talks
returns-in_err-feed_piece-clause-talks g c =
    let p = err_from_is_err_and c.from_residual-in_err-feed_piece.result c.from_residual-in_err-feed_piece.ensures.1 in
    let piece = c.read.new.piece in
    let count = c.in_ok-count.count in
    let before = (g.D.Door.seen c.args.door.now).recorded in
    let after = (g.D.Door.seen c.read.new.self).recorded in
    rw (p.1, p.2) (fed_halts g.T.Talk.seen g.T.Talk.stands g.T.Talk.says g.met.T.Talk.said c.args.talk.now (take count piece) before after
    (recorded_as (Reads piece (Ok count)) (take count piece) [] false false (taken piece count (take count piece) refl) before after c.in_ok-count.ensures.recorded))

pub returns-in_err-count-clause-talks : goal.returns-in_err-count-clause-talks
returns-in_err-count-clause-talks g c =
    let p = err_from_is_err_and c.from_residual.result c.from_residual.ensures.1 in
    rw (p.1, p.2) (read_fails g.T.Talk.seen g.T.Talk.stands g.T.Talk.says g.met.T.Talk.said c.in_err-count.field-0.0 c.args.talk.now c.read.new.piece
    (g.D.Door.seen c.args.door.now).recorded (g.D.Door.seen c.read.new.self).recorded c.requires.none_pending c.in_err-count.ensures.recorded)

pub returns-then-count-eq0-clause-talks : goal.returns-then-count-eq0-clause-talks
returns-then-count-eq0-clause-talks g c =
    let piece = c.read.new.piece in
    let count = c.in_ok-count.count in
    let before = (g.D.Door.seen c.args.door.now).recorded in
    let after = (g.D.Door.seen c.read.new.self).recorded in
    let none : [] ≡ take count piece = sym (ap (λ (n : ℕ). take n piece) c.if-count-eq0.true) in
    agrees_still g.T.Talk.stands false false c.args.talk.now before after
    (recorded_as (Reads piece (Ok count)) [] [] false false (taken piece count [] none) before after c.in_ok-count.ensures.recorded)
