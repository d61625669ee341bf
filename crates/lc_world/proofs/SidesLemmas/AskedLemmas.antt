-- Paths under a base.
use Rattle.std.proofs.Common.{◌≡◌, ℕ, List, [], ◌∷◌, ◌++◌, Bool, refl, ap, ◌∙◌}
use Rattle.std.specs.Prelude.{nat_eq, ◌&&◌}
use Rattle.std.proofs.lemmas.Bool.{eq-eqb}
use lib.Pointwise.{pointwise}

-- after an equal front texts are the same exactly where their ends are
pub same_behind : (front xs ys : List ℕ) → pointwise nat_eq (front ++ xs) (front ++ ys) ≡ pointwise nat_eq xs ys
same_behind [] xs ys = refl
same_behind (x ∷ front) xs ys = ap (λ (b : Bool). b && pointwise nat_eq (front ++ xs) (front ++ ys)) (eq-eqb x x refl) ∙ same_behind front xs ys
