-- One more of the connections is written, and is sound.
use Rattle.std.proofs.Common.{All, arith, subst}
use Rattle.std.proofs.lemmas.List.{take_all}
use Rattle.std.proofs.lemmas.List.Elements.{All-more}
use Rattle.page_json.specs.Sound.{IsSoundConnection}
use Rattle.page_json.proofs.WritingLemmas.{all_there, one_more}
use Rattle.page_json.proofs.connection_writing.append_rest.Goals as goal

pub loop-connection-preserved : goal.loop-connection-preserved
loop-connection-preserved c =
    let item = c.connection-item in
    let so = c.loop-connection.invariant in
    let place = c.loop-connection.connection-index in
    let connections = c.args.connections.now in
    record {
      written = one_more c.args.fronts.now _ _ _ connections place item.result (omega arith) item.is so.written c.in_ok-append_next.ensures.text;
      sound = All-more IsSoundConnection connections place item.result (omega arith) so.sound (subst IsSoundConnection item.is c.in_ok-append_next.ensures.sound);
    }

pub returns-clause-text : goal.returns-clause-text
returns-clause-text c =
    all_there c.args.fronts.now _ _ _ c.args.connections.now c.loop-connection.connection-index (omega arith) c.loop-connection.invariant.written c.in_ok-push_str.ensures.bytes

pub returns-clause-sound : goal.returns-clause-sound
returns-clause-sound c = subst (All IsSoundConnection) (take_all _ c.args.connections.now (omega arith)) c.loop-connection.invariant.sound
