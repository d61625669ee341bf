use Rattle.version_store.proofs.IndexLemmas.PrepareLemmas.{only_new}
use Rattle.version_store.proofs.index.prepare.places_of_one.Goals as goal

pub returns : goal.returns
returns c = only_new c.args.of c.args.state.now c.new-places.result.items c.push_places.new.places.items c.new-places.ensures.items c.in_ok-push_places.ensures.has
