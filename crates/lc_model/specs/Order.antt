-- Strict order of a list.
use Rattle.std.specs.Prelude.{◌≡◌, ◌≢◌, List}
use Rattle.std.specs.List.{AllPairs}
use Rattle.std.specs.declared.cmp.Ordering.{Ordering}
use Rattle.std.specs.declared.cmp.Ordering.TheVariants.{Less, Equal}

-- every earlier item of the list is less than every later one
abbrev pub IsStrict : {X : Type 0} → (X → X → Ordering) → List X → Type 0
IsStrict cmp list = AllPairs (λ x y. cmp x y ≡ Less) list

-- no two items of the list tie
abbrev pub AreApart : {X : Type 0} → (X → X → Ordering) → List X → Type 0
AreApart cmp list = AllPairs (λ x y. cmp x y ≢ Equal) list
