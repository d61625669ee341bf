-- One turn more sends, reads and feeds more.
use Rattle.std.proofs.Common.{false, refl, arith}
use Rattle.std.proofs.lemmas.Result.{err_from_is_err_and}
use Rattle.lc_io.proofs.ServeLemmas.{agrees_none, agrees_then, fails_then, others_then}
use Rattle.lc_io.proofs.serving.converse.Goals as goal

pub turns-init : goal.turns-init
turns-init g c = record {
  agrees = agrees_none g.T.Talk.stands c.args.talk.now (g.D.Door.seen c.args.door.now).recorded;
  broken = omega arith;
  others = refl;
}

pub returns-in_err-send_all-clause-talks : goal.returns-in_err-send_all-clause-talks
returns-in_err-send_all-clause-talks g c =
    let p = err_from_is_err_and c.from_residual.result c.from_residual.ensures.1 in
    rw (p.1, p.2) (fails_then g.T.Talk.stands g.T.Talk.says c.in_err-send_all.field-0.0 c.args.talk.now c.turns.talk c.send_all.new.talk (g.T.Talk.seen c.send_all.new.talk)
    (g.D.Door.seen c.args.door.now).recorded (g.D.Door.seen c.turns.door).recorded (g.D.Door.seen c.send_all.new.door).recorded c.turns.invariant.agrees c.in_err-send_all.ensures.talks)

pub returns-then-ended-clause-talks : goal.returns-then-ended-clause-talks
returns-then-ended-clause-talks g c =
    agrees_then g.T.Talk.stands false false c.args.talk.now c.turns.talk c.send_all.new.talk
    (g.D.Door.seen c.args.door.now).recorded (g.D.Door.seen c.turns.door).recorded (g.D.Door.seen c.send_all.new.door).recorded c.turns.invariant.agrees c.in_ok-send_all.ensures.talks

pub returns-in_err-hear-clause-talks : goal.returns-in_err-hear-clause-talks
returns-in_err-hear-clause-talks g c =
    let p = err_from_is_err_and c.from_residual-in_err-hear.result c.from_residual-in_err-hear.ensures.1 in
    rw (p.1, p.2) (fails_then g.T.Talk.stands g.T.Talk.says c.in_err-hear.field-0.0 c.args.talk.now c.send_all.new.talk c.hear.new.talk (g.T.Talk.seen c.hear.new.talk)
    (g.D.Door.seen c.args.door.now).recorded (g.D.Door.seen c.send_all.new.door).recorded (g.D.Door.seen c.hear.new.door).recorded
    (agrees_then g.T.Talk.stands false false c.args.talk.now c.turns.talk c.send_all.new.talk
    (g.D.Door.seen c.args.door.now).recorded (g.D.Door.seen c.turns.door).recorded (g.D.Door.seen c.send_all.new.door).recorded c.turns.invariant.agrees c.in_ok-send_all.ensures.talks)
    c.in_err-hear.ensures.talks)

pub returns-then-not-branch-clause-talks : goal.returns-then-not-branch-clause-talks
returns-then-not-branch-clause-talks g c =
    agrees_then g.T.Talk.stands false false c.args.talk.now c.send_all.new.talk c.hear.new.talk
    (g.D.Door.seen c.args.door.now).recorded (g.D.Door.seen c.send_all.new.door).recorded (g.D.Door.seen c.hear.new.door).recorded
    (agrees_then g.T.Talk.stands false false c.args.talk.now c.turns.talk c.send_all.new.talk
    (g.D.Door.seen c.args.door.now).recorded (g.D.Door.seen c.turns.door).recorded (g.D.Door.seen c.send_all.new.door).recorded c.turns.invariant.agrees c.in_ok-send_all.ensures.talks)
    c.in_ok-hear.ensures.talks

pub turns-preserved : goal.turns-preserved
turns-preserved g c =
    record {
      agrees = agrees_then g.T.Talk.stands false false c.args.talk.now c.send_all.new.talk c.hear.new.talk
          (g.D.Door.seen c.args.door.now).recorded (g.D.Door.seen c.send_all.new.door).recorded (g.D.Door.seen c.hear.new.door).recorded
          (agrees_then g.T.Talk.stands false false c.args.talk.now c.turns.talk c.send_all.new.talk
          (g.D.Door.seen c.args.door.now).recorded (g.D.Door.seen c.turns.door).recorded (g.D.Door.seen c.send_all.new.door).recorded c.turns.invariant.agrees c.in_ok-send_all.ensures.talks)
          c.in_ok-hear.ensures.talks;
      broken = omega (arith, c.turns.invariant.broken, c.in_ok-send_all.ensures.broken.not_fallen, c.in_ok-hear.ensures.broken.not_fallen);
      others = others_then (g.D.Door.seen c.args.door.now) (g.D.Door.seen c.send_all.new.door) (g.D.Door.seen c.hear.new.door)
          (others_then (g.D.Door.seen c.args.door.now) (g.D.Door.seen c.turns.door) (g.D.Door.seen c.send_all.new.door) c.turns.invariant.others c.in_ok-send_all.ensures.others)
          c.in_ok-hear.ensures.others;
    }
