use Rattle.std.proofs.Common.{◌≡◌, ℕ, ◌-◌, ◌<◌, ◌≤◌, List, ◌++◌, drop, length}
use Rattle.publisher.specs.Held.{side_of}
use Rattle.lc_world.specs.Sides.Side.{Side}
use Rattle.wire_session.specs.Stands.{HasAnswered}
use Rattle.wire_session.specs.Steps.{KeepsFront}
use Rattle.wire_session.proofs.hearing.answer_all.Given as goal

-- what was answered so far, and the rest
abbrev pub invariant-requests : goal.invariant-requests
invariant-requests g l =
    let cuts_of = g.G.Fragmenter.cuts_of in
    record {
      within : l.at ≤ length l.bytes;
      fewer : l.replies.count < 100;
      left : (start : Side) (fed sent : List ℕ) → HasAnswered start fed (sent ++ l.fn.replies.output) l.fn.replies.count (side_of cuts_of l.fn.publisher) l.bytes
          → HasAnswered start fed (sent ++ l.replies.output) l.replies.count (side_of cuts_of l.publisher) (drop l.at l.bytes);
      keeps : KeepsFront l.fn.replies.output l.replies.output;
      cutting : l.publisher.cutting ≡ l.fn.publisher.cutting;
    }

-- fewer replies are left with each
abbrev pub decreases-requests : goal.decreases-requests
decreases-requests g l = 100 - l.replies.count
