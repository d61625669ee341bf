use Rattle.lc_time.proofs.DateLemmas.{fits}
use Rattle.lc_time.proofs.date.written_date.Goals as goal

pub returns : goal.returns
returns c = λ date text.
    let known = c.date_numbers-year.ensures in
    c.civil_date.ensures date
    (known.year date.year date.month date.day (fits date) text)
    (known.month date.year date.month date.day (fits date) text)
    (known.day date.year date.month date.day (fits date) text)
