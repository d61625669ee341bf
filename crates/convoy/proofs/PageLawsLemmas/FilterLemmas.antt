-- What a filter keeps of a list, and facts on each item or each pair of a list with one more item before it.
use Rattle.std.proofs.Common.{◌≡◌, zero, suc, List, [], ◌∷◌, Bool, true, false, cond, refl, ap, ◌∙◌, arith, filter}
use Rattle.std.specs.List.{All, AllPairs}
use Rattle.std.proofs.lemmas.List.Elements.{All-head, All-tail}

-- what holds of all pairs holds of the first item and each later one
pub pairs_head : {X : Type 0} (R : X → X → Type 0) (x : X) (list : List X) → AllPairs R (x ∷ list) → All (R x) list
pairs_head R x list pairs k d within = pairs zero (suc k) d (omega arith) (omega arith)

pub pairs_tail : {X : Type 0} (R : X → X → Type 0) (x : X) (list : List X) → AllPairs R (x ∷ list) → AllPairs R list
pairs_tail R x list pairs i j d before within = pairs (suc i) (suc j) d (omega arith) (omega arith)

pub filter_takes : {X : Type 0} (p : X → Bool) (x : X) (list : List X) → p x ≡ true → filter p (x ∷ list) ≡ x ∷ filter p list
filter_takes p x list passes = ap (λ b. cond b (x ∷ filter p list) (filter p list)) passes

pub filter_drops : {X : Type 0} (p : X → Bool) (x : X) (list : List X) → p x ≡ false → filter p (x ∷ list) ≡ filter p list
filter_drops p x list fails = ap (λ b. cond b (x ∷ filter p list) (filter p list)) fails

-- a filter that all items pass keeps the list
pub filter_all : {X : Type 0} (p : X → Bool) (list : List X) → All (λ x. p x ≡ true) list → filter p list ≡ list
filter_all p [] all = refl
filter_all p (x ∷ list) all =
    filter_takes p x list (All-head (λ y. p y ≡ true) x list all)
    ∙ ap (λ rest. x ∷ rest) (filter_all p list (All-tail (λ y. p y ≡ true) x list all))

-- one that none passes keeps nothing
pub filter_none : {X : Type 0} (p : X → Bool) (list : List X) → All (λ x. p x ≡ false) list → filter p list ≡ []
filter_none p [] all = refl
filter_none p (x ∷ list) all =
    filter_drops p x list (All-head (λ y. p y ≡ false) x list all)
    ∙ filter_none p list (All-tail (λ y. p y ≡ false) x list all)
