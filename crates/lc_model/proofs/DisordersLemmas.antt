-- A list has no disorder exactly where it is in strict order.
use Rattle.std.proofs.Common.{◌≡◌, ℕ, suc, List, [], ◌∷◌, Option, Some, None, true, ◌∙◌, refl, sym, ap, arith}
use Rattle.std.proofs.lemmas.List.Elements.{All-cons, All-nil, All-weaker}
use Rattle.std.proofs.lemmas.List.Kept.{AllPairs-cons}
use Rattle.std.specs.Prelude.{if◌then◌else◌}
use Rattle.std.specs.Cmp.{IsTotalOrder}
use Rattle.std.specs.List.{All, AllPairs}
use Rattle.std.specs.Ordering.{is_lt}
use Rattle.std.specs.declared.cmp.Ordering.{Ordering}
use Rattle.std.specs.declared.cmp.Ordering.TheVariants.{Less, Equal, Greater}
use Rattle.lc_model.specs.Disorder.{disorder_after, first_disorder}
use Rattle.lc_model.specs.Order.{IsStrict}
use Rattle.lc_model.proofs.OrdersLemmas.{strict_behind}

AllPairs-nil : {X : Type 0} (R : X → X → Type 0) → AllPairs R []
AllPairs-nil R i j d lt inside = absurd (omega arith)

record StandsBehind {X : Type 0} (cmp : X → X → Ordering) (first : X) (rest : List X) : Type 0 where
  pub later : All (λ (y : X). cmp first y ≡ Less) rest
  pub strict : IsStrict cmp rest

next_is_less : (o : Ordering) (place : ℕ) (r : Option ℕ) → (if is_lt o then r else Some place) ≡ None → (o ≡ Less) × (r ≡ None)
next_is_less Less place r e = (refl, e)
next_is_less Equal place r e = absurd (cc)
next_is_less Greater place r e = absurd (cc)

behind : {X : Type 0} (cmp : X → X → Ordering) → IsTotalOrder cmp → (first : X) (place : ℕ) (rest : List X) → disorder_after cmp first place rest ≡ None → StandsBehind cmp first rest
behind {X} cmp total first place [] e = record { later = All-nil (λ (y : X). cmp first y ≡ Less); strict = AllPairs-nil (λ x y. cmp x y ≡ Less) }
behind {X} cmp total first place (x ∷ rest) e =
    let step = next_is_less (cmp first x) place (disorder_after cmp x (suc place) rest) e in
    let more = behind cmp total x (suc place) rest step.1 in
    record {
      later = All-cons (λ (y : X). cmp first y ≡ Less) x rest step.0 (All-weaker (λ (y : X). cmp x y ≡ Less) (λ (y : X). cmp first y ≡ Less) (λ y less. total.trans first x y step.0 less) rest more.later);
      strict = AllPairs-cons (λ x y. cmp x y ≡ Less) x rest more.later more.strict;
    }

pub strict_without_disorder : {X : Type 0} (cmp : X → X → Ordering) → IsTotalOrder cmp → (list : List X) → first_disorder cmp list ≡ None → IsStrict cmp list
strict_without_disorder cmp total [] e = AllPairs-nil (λ x y. cmp x y ≡ Less)
strict_without_disorder cmp total (first ∷ rest) e =
    let are = behind cmp total first 1 rest e in
    AllPairs-cons (λ x y. cmp x y ≡ Less) first rest are.later are.strict

is_less : (o : Ordering) → o ≡ Less → is_lt o ≡ true
is_less o e = ap is_lt e

none_after : {X : Type 0} (cmp : X → X → Ordering) → IsTotalOrder cmp → (first : X) (place : ℕ) (rest : List X) → IsStrict cmp (first ∷ rest) → disorder_after cmp first place rest ≡ None
none_after cmp total first place [] h = refl
none_after cmp total first place (x ∷ rest) h =
    rw (is_less (cmp first x) (h 0 1 first (omega arith) (omega arith))) (none_after cmp total x (suc place) rest (strict_behind cmp total first (x ∷ rest) h))

-- a list in strict order has no disorder
pub no_disorder : {X : Type 0} (cmp : X → X → Ordering) → IsTotalOrder cmp → (list : List X) → IsStrict cmp list → first_disorder cmp list ≡ None
no_disorder cmp total [] h = refl
no_disorder cmp total (first ∷ rest) h = none_after cmp total first 1 rest h

-- what a search for a disorder answers, says whether the list is in strict order
pub disorder_tells : {X : Type 0} (cmp : X → X → Ordering) → IsTotalOrder cmp → (list : List X) (place : Option ℕ) → place ≡ first_disorder cmp list → (place ≡ None → IsStrict cmp list) × (IsStrict cmp list → place ≡ None)
disorder_tells cmp total list place is = (
  (λ none. strict_without_disorder cmp total list (sym is ∙ none)),
  (λ strict. is ∙ no_disorder cmp total list strict),
)
