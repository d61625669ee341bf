use Rattle.std.specs.Prelude.{◌↔◌}
use Rattle.std.specs.List.{Contains}
use Rattle.lc_model.specs.declared.date.ServiceDate.{ServiceDate}
use Rattle.service_days.specs.Days.{IsInWindow}
use Rattle.service_days.proofs.window.window_dates.Given as goal

abbrev pub invariant-loop-k : goal.invariant-loop-k
invariant-loop-k l = (date : ServiceDate) → Contains l.list.items date ↔ IsInWindow l.fn.first l.k date
