-- The first place at which a list is not in strict order.
use Rattle.std.specs.Prelude.{ℕ, suc, List, [], ◌∷◌, Option, Some, None, if◌then◌else◌}
use Rattle.std.specs.Ordering.{is_lt}
use Rattle.std.specs.declared.cmp.Ordering.{Ordering}

-- the first place from `place` on whose item does not come after the one before it; `before` comes before them all
abbrev pub disorder_after : {X : Type 0} → (X → X → Ordering) → X → ℕ → List X → Option ℕ
disorder_after cmp before place [] = None
disorder_after cmp before place (x ∷ rest) =
    if is_lt (cmp before x) then disorder_after cmp x (suc place) rest else Some place

-- places count from 0, so the first possible one is 1
abbrev pub first_disorder : {X : Type 0} → (X → X → Ordering) → List X → Option ℕ
first_disorder cmp [] = None
first_disorder cmp (first ∷ rest) = disorder_after cmp first 1 rest
