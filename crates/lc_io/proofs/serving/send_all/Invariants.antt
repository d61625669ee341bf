-- What was sent so far is noted, and nothing else has changed.
use Rattle.std.proofs.Common.{◌≡◌, ◌≤◌, false, length}
use Rattle.lc_io.specs.Serving.{Agrees}
use Rattle.lc_io.proofs.serving.send_all.Given as goal

abbrev pub invariant-sending : goal.invariant-sending
invariant-sending g l = record {
  agrees : Agrees g.T.Talk.stands false false l.initial.talk l.talk (g.D.Door.seen l.initial.door).recorded (g.D.Door.seen l.door).recorded;
  same : g.T.Talk.seen l.talk ≡ record (g.T.Talk.seen l.initial.talk) { pending = (g.T.Talk.seen l.talk).pending };
  broken : (g.D.Door.seen l.initial.door).broken ≤ (g.D.Door.seen l.door).broken;
  others : g.D.Door.seen l.door ≡ record (g.D.Door.seen l.initial.door) { recorded = (g.D.Door.seen l.door).recorded; broken = (g.D.Door.seen l.door).broken };
}

abbrev pub decreases-sending : goal.decreases-sending
decreases-sending g l = length (g.T.Talk.seen l.talk).pending
