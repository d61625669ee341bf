-- The stops so far are written, and are sound.
use Rattle.std.proofs.Common.{All, take}
use Rattle.page_json.specs.Sound.{IsSoundStop}
use Rattle.page_json.specs.Tree.{stop_tree}
use Rattle.page_json.proofs.ObjectMembersLemmas.TokensLemmas.{AreWrittenTo}
use Rattle.page_json.proofs.stops_writing.write_stops.Given as goal

abbrev pub invariant-loop-stop : goal.invariant-loop-stop
invariant-loop-stop l = record {
  written : AreWrittenTo stop_tree l.initial.out l.out l.stops l.stop-index;
  sound : All IsSoundStop (take l.stop-index l.stops);
}
