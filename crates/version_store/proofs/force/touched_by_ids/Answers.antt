use Rattle.version_store.proofs.ForceLemmas.{takes_with}
use Rattle.version_store.proofs.force.touched_by_ids.Goals as goal

pub returns : goal.returns
returns c = λ out entities are has.
    takes_with out entities c.in_ok-touched.touched.items c.args.own.now c.push_marks.new.touched.items c.in_ok-push_marks.ensures (c.in_ok-touched.ensures out entities are has)
