-- Values with facts within.
use Rattle.std.proofs.Common.{◌≡◌, ap, subst}

-- what is made of a value and of facts that it has is one
pub same_made : {A C : Type 0} (B : A → Type 0) (prop : (a : A) → IsProp (B a)) (f : (a : A) → B a → C) (a a' : A) (p : B a) (q : B a') → a ≡ a' → f a p ≡ f a' q
same_made B prop f a a' p q e = subst (λ v. (q : B v) → f a p ≡ f v q) e (λ q. ap (f a) (prop a p q)) q
