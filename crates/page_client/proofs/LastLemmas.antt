-- The last departure of a list is that of its last item.
use Rattle.std.proofs.Common.{◌≡◌, ℕ, suc, ◌-◌, List, [], ◌∷◌, Some, length, ap, subst, arith}
use Rattle.std.specs.List.{slice_get}
use Rattle.lc_model.specs.declared.connection.Connection.{Connection}
use Rattle.lc_model.specs.Connection.{last_departure}

pub last_is : (list : List Connection) (c : Connection) → slice_get list (length list - 1) ≡ Some c → last_departure list ≡ Some c.dep
last_is [] c is = absurd (cc)
last_is (x ∷ []) c is = let same : x ≡ c = cc in ap (λ (d : Connection). Some d.dep) same
last_is (x ∷ y ∷ rest) c is =
    let P : ℕ → Type 0 = λ n. slice_get (x ∷ y ∷ rest) n ≡ Some c in
    let at : length (x ∷ y ∷ rest) - 1 ≡ suc (length (y ∷ rest) - 1) = omega arith in
    last_is (y ∷ rest) c (subst P at is)
