use Rattle.std.proofs.Common.{true}
use Rattle.version_store.proofs.ForceLemmas.{takes_with}
use Rattle.version_store.proofs.force.touched_by_all.Goals as goal

pub returns : goal.returns
returns c = λ by entities has.
    takes_with (λ id. true) entities c.in_ok-touched.touched.items c.args.own.now c.push_marks.new.touched.items c.in_ok-push_marks.ensures (λ e there is. c.in_ok-touched.ensures by entities has e there)
