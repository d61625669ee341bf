use Rattle.service_days.proofs.RuleLemmas.{good_file}
use Rattle.service_days.proofs.zone_word.read_table.Goals as goal

pub returns-in-Ok-clause-only : goal.returns-in-Ok-clause-only
returns-in-Ok-clause-only c = λ bad. absurd (good_file c.in-Ok.table _ c.in-Ok.ensures.value c.in-Ok.ensures.agrees bad)
