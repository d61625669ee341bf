-- One more of the stops is written, and is sound.
use Rattle.std.proofs.Common.{All, arith, subst}
use Rattle.std.proofs.lemmas.List.{take_all}
use Rattle.std.proofs.lemmas.List.Elements.{All-more}
use Rattle.page_json.specs.Sound.{IsSoundStop}
use Rattle.page_json.specs.Tree.{stop_tree}
use Rattle.page_json.proofs.ObjectMembersLemmas.TokensLemmas.{all_written, one, one_more_written, ◌>>◌}
use Rattle.page_json.proofs.stops_writing.write_stops.Goals as goal

pub loop-stop-preserved : goal.loop-stop-preserved
loop-stop-preserved c =
    let item = c.stop-item in
    let so = c.loop-stop.invariant in
    let place = c.loop-stop.stop-index in
    let stops = c.args.stops.now in
    record {
      written = one_more_written stop_tree _ _ _ stops place item.result (omega arith) item.is so.written c.in_ok-write_stop.ensures.tokens;
      sound = All-more IsSoundStop stops place item.result (omega arith) so.sound (subst IsSoundStop item.is c.in_ok-write_stop.ensures.sound);
    }

pub returns-clause-tokens : goal.returns-clause-tokens
returns-clause-tokens c =
    one c.in_ok-begin_array.ensures
    >> all_written stop_tree _ _ _ c.args.stops.now c.loop-stop.stop-index (omega arith) c.loop-stop.invariant.written (one c.in_ok-end_array.ensures)

pub returns-clause-sound : goal.returns-clause-sound
returns-clause-sound c = subst (All IsSoundStop) (take_all _ c.args.stops.now (omega arith)) c.loop-stop.invariant.sound
