use Rattle.std.proofs.Common.{ℕ, List, [], ◌∷◌, get_or, IsAscii, sym}
use mathlib.Core.Path.{subst₃}
use Rattle.lc_time.proofs.AsciiLemmas.{date_ascii}
use Rattle.lc_time.proofs.DateLemmas.{fits}
use Rattle.lc_time.proofs.date.date_text.Goals as goal

pub returns-clause-ascii : goal.returns-clause-ascii
returns-clause-ascii c =
    let date = c.args.date in
    subst₃ (λ (y m d : List ℕ). IsAscii (get_or y 0 0 ∷ get_or y 1 0 ∷ get_or y 2 0 ∷ get_or y 3 0 ∷ get_or m 0 0 ∷ get_or m 1 0 ∷ get_or d 0 0 ∷ get_or d 1 0 ∷ []))
    (sym c.four_digits.ensures) (sym c.two_digits.ensures) (sym c.two_digits-2.ensures) (date_ascii date.year date.month date.day (fits date))
