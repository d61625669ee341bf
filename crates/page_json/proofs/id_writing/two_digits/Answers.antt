-- The digits are the number.
use Rattle.std.proofs.Common.{ℕ, List, ◌∷◌, IsAscii, ap, arith, subst, sym}
use Rattle.page_json.proofs.IdLemmas.{numbered, two_digits_are}
use Rattle.page_json.proofs.id_writing.two_digits.Goals as goal

pub returns-clause-text : goal.returns-clause-text
returns-clause-text c = ap (λ (s : List ℕ). 47 ∷ s) (two_digits_are c.args.n c.requires.two c.requires.no_more)

pub returns-clause-ascii : goal.returns-clause-ascii
returns-clause-ascii c = subst IsAscii (sym (returns-clause-text c)) (numbered c.args.n (omega arith))
