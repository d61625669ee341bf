use Rattle.std.proofs.Common.{ap, Some}
use Rattle.lc_time.proofs.DateLemmas.{same_date}
use Rattle.lc_time.proofs.date.civil_date.Goals as goal

pub returns : goal.returns
returns c = λ date y m d. ap Some (same_date _ date y m d)
