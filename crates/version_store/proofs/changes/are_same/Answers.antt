use Rattle.std.proofs.Common.{◌∙◌, sym}
use Rattle.version_store.proofs.SameCallsLemmas.{same_calls}
use Rattle.version_store.proofs.changes.are_same.Goals as goal

pub returns : goal.returns
returns c = λ same. same_calls c.args.a.now c.args.b.now (sym c.eq.ensures ∙ same)
