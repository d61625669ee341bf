-- What was read so far is fed, and what was sent is noted. Each turn feeds a byte at least, until the talk has ended.
use Rattle.std.proofs.Common.{◌≡◌, ◌≤◌, ◌-◌, false, cond}
use Rattle.lc_io.specs.Serving.{Agrees}
use Rattle.lc_io.proofs.serving.converse.Given as goal

abbrev pub invariant-turns : goal.invariant-turns
invariant-turns g l = record {
  agrees : Agrees g.T.Talk.stands false false l.initial.talk l.talk (g.D.Door.seen l.initial.door).recorded (g.D.Door.seen l.door).recorded;
  broken : (g.D.Door.seen l.initial.door).broken ≤ (g.D.Door.seen l.door).broken;
  others : g.D.Door.seen l.door ≡ record (g.D.Door.seen l.initial.door) { recorded = (g.D.Door.seen l.door).recorded; broken = (g.D.Door.seen l.door).broken };
}

abbrev pub decreases-turns : goal.decreases-turns
decreases-turns g l = cond (g.T.Talk.seen l.talk).ended 0 (1679360001 - (g.T.Talk.seen l.talk).count)
