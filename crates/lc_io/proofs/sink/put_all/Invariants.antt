-- What is done so far is written, and the counts have not fallen.
use Rattle.std.proofs.Common.{◌≡◌, ◌-◌, ◌≤◌, length}
use Rattle.lc_io.specs.Sink.{written_after}
use Rattle.lc_io.proofs.sink.put_all.Given as goal

abbrev pub invariant-loop-done : goal.invariant-loop-done
invariant-loop-done g l =
    record {
      within : l.done ≤ length l.bytes;
      written : (g.S.Sink.seen l.sink).written ≡ written_after (g.S.Sink.seen l.initial.sink).written l.bytes l.done;
      not_fallen : (g.S.Sink.seen l.initial.sink).faults ≤ (g.S.Sink.seen l.sink).faults;
      wants : (g.S.Sink.seen l.initial.sink).wants ≤ (g.S.Sink.seen l.sink).wants;
    }

abbrev pub decreases-loop-done : goal.decreases-loop-done
decreases-loop-done g l = length l.bytes - l.done
