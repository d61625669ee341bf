-- One more of the changes is written, and is sound.
use Rattle.std.proofs.Common.{All, arith, subst}
use Rattle.std.proofs.lemmas.List.{take_all}
use Rattle.std.proofs.lemmas.List.Elements.{All-more}
use Rattle.page_json.specs.Sound.{IsSoundChange}
use Rattle.page_json.specs.Tree.{change_tree}
use Rattle.page_json.proofs.ObjectMembersLemmas.TokensLemmas.{all_written, one, one_more_written, ◌>>◌}
use Rattle.page_json.proofs.stops_writing.write_changes.Goals as goal

pub loop-change-preserved : goal.loop-change-preserved
loop-change-preserved c =
    let item = c.change-item in
    let so = c.loop-change.invariant in
    let place = c.loop-change.change-index in
    let changes = c.args.changes.now in
    record {
      written = one_more_written change_tree _ _ _ changes place item.result (omega arith) item.is so.written c.in_ok-write_change.ensures.tokens;
      sound = All-more IsSoundChange changes place item.result (omega arith) so.sound (subst IsSoundChange item.is c.in_ok-write_change.ensures.sound);
    }

pub returns-clause-tokens : goal.returns-clause-tokens
returns-clause-tokens c =
    one c.in_ok-begin_array.ensures
    >> all_written change_tree _ _ _ c.args.changes.now c.loop-change.change-index (omega arith) c.loop-change.invariant.written (one c.in_ok-end_array.ensures)

pub returns-clause-sound : goal.returns-clause-sound
returns-clause-sound c = subst (All IsSoundChange) (take_all _ c.args.changes.now (omega arith)) c.loop-change.invariant.sound
