use Rattle.std.proofs.Common.{ℕ, List, [], ◌∷◌, get_or, IsAscii, subst, sym}
use Rattle.lc_time.proofs.AsciiLemmas.{start_ascii}
use Rattle.lc_time.proofs.clock.start_text.Goals as goal

pub returns-clause-ascii : goal.returns-clause-ascii
returns-clause-ascii c =
    subst (λ (t : List ℕ). IsAscii (get_or t 0 0 ∷ get_or t 1 0 ∷ get_or t 3 0 ∷ get_or t 4 0 ∷ get_or t 6 0 ∷ get_or t 7 0 ∷ []))
    (sym c.clock_text.ensures) (start_ascii c.args.start c.requires)
