use Rattle.version_store.proofs.IndexLemmas.UpdateLemmas.{put_alike, put_stays}
use Rattle.version_store.proofs.index.turn.put_number.Goals as goal

pub returns-clause-alike : goal.returns-clause-alike
returns-clause-alike c =
    let e = c.insert.ensures in
    put_alike c.insert.result c.args.key c.args.number c.args.running.now c.insert.new.self e.updates e.absent e.err

pub returns-clause-stays : goal.returns-clause-stays
returns-clause-stays c =
    let e = c.insert.ensures in
    put_stays c.insert.result c.args.key c.args.number c.args.running.now c.insert.new.self e.updates e.err
