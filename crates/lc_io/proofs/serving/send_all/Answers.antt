-- One write more sends more of what is pending.
use Rattle.std.proofs.Common.{false, refl, arith}
use Rattle.std.proofs.lemmas.Result.{err_from_is_err_and}
use Rattle.lc_io.proofs.ServeLemmas.{agrees_none, agrees_then, fails_then, others_then, pending_then, sends, write_fails}
use Rattle.lc_io.proofs.serving.send_all.Goals as goal

pub sending-init : goal.sending-init
sending-init g c = record {
  agrees = agrees_none g.T.Talk.stands c.args.talk.now (g.D.Door.seen c.args.door.now).recorded;
  same = refl;
  broken = omega arith;
  others = refl;
}

pub sending-preserved : goal.sending-preserved
sending-preserved g c =
    let recorded = (g.D.Door.seen c.sending.door).recorded in
    record {
      agrees = agrees_then g.T.Talk.stands false false c.args.talk.now c.sending.talk c.sent.new.self (g.D.Door.seen c.args.door.now).recorded recorded (g.D.Door.seen c.write.new.self).recorded
          c.sending.invariant.agrees
          (sends g.T.Talk.stands c.sending.talk c.sent.new.self c.pending-in-sending.result.now (g.T.Talk.seen c.sending.talk).pending c.in_ok-count.count recorded (g.D.Door.seen c.write.new.self).recorded
          c.pending-in-sending.ensures c.sent.ensures.sent c.in_ok-count.ensures.recorded);
      same = pending_then (g.T.Talk.seen c.args.talk.now) (g.T.Talk.seen c.sending.talk) (g.T.Talk.seen c.sent.new.self) _ c.sending.invariant.same c.sent.ensures.others;
      broken = omega (arith, c.sending.invariant.broken, c.in_ok-count.ensures.broken.not_fallen);
      others = others_then (g.D.Door.seen c.args.door.now) (g.D.Door.seen c.sending.door) (g.D.Door.seen c.write.new.self) c.sending.invariant.others c.in_ok-count.ensures.others;
    }

pub returns-in_err-count-clause-talks : goal.returns-in_err-count-clause-talks
returns-in_err-count-clause-talks g c =
    let p = err_from_is_err_and c.from_residual.result c.from_residual.ensures.1 in
    let recorded = (g.D.Door.seen c.sending.door).recorded in
    let after = (g.D.Door.seen c.write.new.self).recorded in
    rw (p.1, p.2) (fails_then g.T.Talk.stands g.T.Talk.says c.in_err-count.field-0.0 c.args.talk.now c.sending.talk c.sending.talk (g.T.Talk.seen c.sending.talk) (g.D.Door.seen c.args.door.now).recorded recorded after
    c.sending.invariant.agrees
    (write_fails g.T.Talk.seen g.T.Talk.stands g.T.Talk.says g.met.T.Talk.said c.in_err-count.field-0.0 c.sending.talk c.pending-in-sending.result.now recorded after c.in_err-count.ensures.recorded))
