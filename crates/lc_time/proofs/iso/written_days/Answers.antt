use Rattle.std.proofs.Common.{◌≡◌, ℕ, List, [], ◌∷◌, get_or, ap}
use Rattle.lc_time.specs.Calendar.{day_at}
use Rattle.lc_time.specs.Date.{date_text_of}
use Rattle.lc_time.proofs.DateLemmas.{day_fits}
use Rattle.lc_time.proofs.iso.written_days.Goals as goal

-- the digits of the text, without its marks
abbrev digits : List ℕ → List ℕ
digits t =
    get_or t 0 0 ∷ get_or t 1 0 ∷ get_or t 2 0 ∷ get_or t 3 0 ∷ get_or t 5 0 ∷ get_or t 6 0 ∷ get_or t 8 0 ∷ get_or t 9 0 ∷ []

pub returns-in-len10 : goal.returns-in-len10
returns-in-len10 c = λ days bound text.
    let at = day_at days in
    let same : digits c.args.text.now ≡ date_text_of at.year at.month at.day = ap digits text in
    let room = day_fits days bound in
    c.days_of.ensures days bound
    (c.date_numbers.ensures.year at.year at.month at.day room same)
    (c.date_numbers.ensures.month at.year at.month at.day room same)
    (c.date_numbers.ensures.day at.year at.month at.day room same)
