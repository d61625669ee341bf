use Rattle.version_store.proofs.TripsLemmas.{text_put}
use Rattle.version_store.proofs.taken.put_id.Goals as goal

pub returns : goal.returns
returns c = text_put c.id.result c.args.entity.now.id c.args.ids.now c.insert.new.self c.id.ensures (λ other. c.in_ok-insert.ensures.updates.0 other)
