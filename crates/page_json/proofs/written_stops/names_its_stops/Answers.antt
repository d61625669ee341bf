-- Both lists are looked through.
use Rattle.std.proofs.Common.{All, subst}
use Rattle.lc_model.specs.Stop.{HasStop}
use Rattle.lc_model.specs.declared.change.Change.{Change}
use Rattle.page_json.proofs.written_stops.names_its_stops.Goals as goal

pub returns-then-has_parents-clause-from : goal.returns-then-has_parents-clause-from
returns-then-has_parents-clause-from c = λ yes. subst (All (λ (x : Change). HasStop c.args.stops.now x.from)) c.as_slice-then-has_parents.ensures.value (c.has_ends.ensures.from yes)

pub returns-then-has_parents-clause-to : goal.returns-then-has_parents-clause-to
returns-then-has_parents-clause-to c = λ yes. subst (All (λ (x : Change). HasStop c.args.stops.now x.to)) c.as_slice-then-has_parents.ensures.value (c.has_ends.ensures.to yes)
