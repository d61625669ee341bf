-- The digits are the number.
use Rattle.std.proofs.Common.{ℕ, List, ◌∷◌, IsAscii, ap, arith, subst, sym}
use Rattle.page_json.proofs.IdLemmas.{numbered, one_digit_is}
use Rattle.page_json.proofs.id_writing.one_digit.Goals as goal

pub returns-clause-text : goal.returns-clause-text
returns-clause-text c = ap (λ (s : List ℕ). 47 ∷ s) (one_digit_is c.args.n c.requires)

pub returns-clause-ascii : goal.returns-clause-ascii
returns-clause-ascii c = subst IsAscii (sym (returns-clause-text c)) (numbered c.args.n (omega arith))
