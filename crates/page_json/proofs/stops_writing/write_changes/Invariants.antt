-- The changes so far are written, and are sound.
use Rattle.std.proofs.Common.{All, take}
use Rattle.page_json.specs.Sound.{IsSoundChange}
use Rattle.page_json.specs.Tree.{change_tree}
use Rattle.page_json.proofs.ObjectMembersLemmas.TokensLemmas.{AreWrittenTo}
use Rattle.page_json.proofs.stops_writing.write_changes.Given as goal

abbrev pub invariant-loop-change : goal.invariant-loop-change
invariant-loop-change l = record {
  written : AreWrittenTo change_tree l.initial.out l.out l.changes l.change-index;
  sound : All IsSoundChange (take l.change-index l.changes);
}
