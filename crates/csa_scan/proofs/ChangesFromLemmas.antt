-- The changes from a stop, by their places in the list.
use Rattle.std.proofs.Common.{◌≡◌, ℕ, suc, zero, List, [], ◌∷◌, Bool, true, false, cond, Some, refl, subst, sym}
use Rattle.std.specs.List.{filter, slice_get}
use Rattle.std.proofs.lemmas.Slice.Eq.{bytes_eq-Decides}
use Rattle.lc_model.specs.Change.{changes_from, is_same_id}
use Rattle.lc_model.specs.declared.change.Change.{Change}

-- the list has exactly the changes from this stop
pub record AreChangesFrom (changes : List Change) (from : List ℕ) (list : List Change) : Type 0 where
  pub sound : (k : ℕ) (c : Change) → slice_get list k ≡ Some c → ((place : ℕ) × (slice_get changes place ≡ Some c)) × (c.from ≡ from)
  pub complete : (place : ℕ) (c : Change) → slice_get changes place ≡ Some c → c.from ≡ from → (k : ℕ) × (slice_get list k ≡ Some c)

module _ {X : Type 0} (p : X → Bool) where
  abbrev Stands : List X → X → Type 0
  Stands xs x = (place : ℕ) × (slice_get xs place ≡ Some x)

  kept_stands : (xs : List X) (x : X) → Stands (filter p xs) x → Stands xs x × (p x ≡ true)
  kept_stands [] x (k, e) = absurd (cc)
  kept_stands (y ∷ ys) x h = go (p y) refl (kept_stands ys x) h where
    go : (b : Bool) → p y ≡ b → (Stands (filter p ys) x → Stands ys x × (p x ≡ true)) → Stands (cond b (y ∷ filter p ys) (filter p ys)) x → Stands (y ∷ ys) x × (p x ≡ true)
    go true is rest (zero, e) = let here : Some y ≡ Some x = e in let same : y ≡ x = cc in ((0, e), subst (λ z. p z ≡ true) same is)
    go true is rest (suc k, e) = let r = rest (k, e) in ((suc r.0.0, r.0.1), r.1)
    go false is rest h = let r = rest h in ((suc r.0.0, r.0.1), r.1)

  stands_kept : (xs : List X) (x : X) → Stands xs x → p x ≡ true → Stands (filter p xs) x
  stands_kept [] x (k, e) is = absurd (cc)
  stands_kept (y ∷ ys) x (zero, e) is = let here : Some y ≡ Some x = e in let same : y ≡ x = cc in let passes : p y ≡ true = subst (λ z. p z ≡ true) (sym same) is in rw passes (0, e)
  stands_kept (y ∷ ys) x (suc k, e) is = go (p y) (stands_kept ys x (k, e) is) where
    go : (b : Bool) → Stands (filter p ys) x → Stands (cond b (y ∷ filter p ys) (filter p ys)) x
    go true (k, e) = (suc k, e)
    go false h = h

pub are_changes_from : (changes : List Change) (from : List ℕ) → AreChangesFrom changes from (changes_from changes from)
are_changes_from changes from =
    let is_from : Change → Bool = λ c. is_same_id c.from from in
    record {
      sound = λ k c e. let r = kept_stands is_from changes c (k, e) in (r.0, (bytes_eq-Decides c.from from).0 r.1);
      complete = λ place c e same. stands_kept is_from changes c (place, e) ((bytes_eq-Decides c.from from).1 same);
    }
