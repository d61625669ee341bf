use Rattle.std.proofs.Common.{ap, ◌∙◌}
use Rattle.jiff_core.specs.declared.civil.datetime.DateTime.{DateTime}
use Rattle.jiff_core.specs.declared.civil.date.Date.{Date}
use Rattle.jiff_core.specs.declared.civil.time.Time.{Time}
use Rattle.lc_time.specs.Zone.{noon}
use Rattle.lc_time.proofs.AnchorLemmas.{is_noon}
use Rattle.lc_time.proofs.zone_clock.noon_of.Goals as goal

abbrev at : Date → Time → DateTime
at date time = record { date = date; time = time }

pub returns : goal.returns
returns c = ap (at c.library_date.result) (is_noon _ _ _ _) ∙ ap (λ d. at d noon) c.library_date.ensures
