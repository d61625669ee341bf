-- Lists that gain items, one after the other.
use Rattle.std.proofs.Common.{◌≡◌, ℕ, ◌+◌, ◌<◌, ◌≤◌, ◌⊎◌, inl, inr, List, [], ◌∷◌, ◌++◌, length, get_or, take, sym, ap, ◌∙◌, subst, arith}
use Rattle.std.specs.Prelude.{◌↔◌}
use Rattle.std.specs.List.{Any, Contains}
use Rattle.std.proofs.lemmas.List.{take_all, take_more}
use Rattle.std.proofs.lemmas.List.Elements.{Contains-append_left, Contains-push, Contains-push_cases}
use Rattle.service_days.specs.Listing.{Gains}

nothing_in : {X : Type 0} (x : X) → Contains [] x → ⊥
nothing_in x (k, inside, at) = omega arith

pub nothing_so : {X : Type 0} (P : X → Type 0) → Any P [] → ⊥
nothing_so P (k, x, inside, at, so) = omega arith

module _ {X : Type 0} (IsSo : X → Type 0) where
  pub Gains-push : (xs : List X) (y : X) → ((x : X) → IsSo x ↔ (y ≡ x)) → Gains IsSo xs (xs ++ y ∷ [])
  Gains-push xs y only = record {
    all = λ x. (
      λ h. elim (Contains-push_cases xs y x h) [ inl k ↦ inl k | inr e ↦ inr ((only x).1 e) ],
      λ h. elim h [ inl k ↦ Contains-append_left xs (y ∷ []) x k | inr so ↦ subst (Contains (xs ++ y ∷ [])) ((only x).0 so) (Contains-push xs y) ],
    );
  }

  pub Gains-nothing : (xs : List X) → ((x : X) → IsSo x → ⊥) → Gains IsSo xs xs
  Gains-nothing xs none = record { all = λ x. (λ h. inl h, λ h. elim h [ inl k ↦ k | inr so ↦ absurd (none x so) ]) }

  pub Gains-same : (IsAlso : X → Type 0) (old new : List X) → ((x : X) → IsSo x ↔ IsAlso x) → Gains IsSo old new → Gains IsAlso old new
  Gains-same IsAlso old new same gains = record {
    all = λ x. (
      λ h. elim ((gains.all x).0 h) [ inl k ↦ inl k | inr so ↦ inr ((same x).0 so) ],
      λ h. elim h [ inl k ↦ (gains.all x).1 (inl k) | inr so ↦ (gains.all x).1 (inr ((same x).1 so)) ],
    );
  }

  pub Gains-from_empty : (new : List X) → Gains IsSo [] new → (x : X) → Contains new x ↔ IsSo x
  Gains-from_empty new gains x = (
    λ h. elim ((gains.all x).0 h) [ inl k ↦ absurd (nothing_in x k) | inr so ↦ so ],
    λ so. (gains.all x).1 (inr so),
  )

-- what is so of a list with one more item
module _ {Y : Type 0} (P : Y → Type 0) where
  any_left : (ys zs : List Y) → Any P ys → Any P (ys ++ zs)
  any_left ys zs (k, y, inside, at, so) = let h = Contains-append_left ys zs y (k, inside, at) in (h.0, y, h.1, h.2, so)

  any_last : (ys : List Y) (y : Y) → P y → Any P (ys ++ y ∷ [])
  any_last ys y so = let h = Contains-push ys y in (h.0, y, h.1, h.2, so)

  any_cases : (ys : List Y) (y : Y) → Any P (ys ++ y ∷ []) → Any P ys ⊎ P y
  any_cases ys y (k, z, inside, at, so) = elim (Contains-push_cases ys y z (k, inside, at)) [
    | inl h ↦ inl (h.0, z, h.1, h.2, so)
    | inr e ↦ inr (subst P (sym e) so)
  ]

module _ {X Y : Type 0} (IsSo : Y → X → Type 0) (ys : List Y) where
  pub Gains-none : (xs : List X) → Gains (λ x. Any (λ y. IsSo y x) []) xs xs
  Gains-none xs = Gains-nothing (λ x. Any (λ y. IsSo y x) []) xs (λ x so. nothing_so (λ y. IsSo y x) so)

  pub Gains-more : (i : ℕ) (y : Y) (old mid new : List X) → i < length ys → y ≡ get_or ys i y → Gains (λ x. Any (λ y. IsSo y x) (take i ys)) old mid → Gains (IsSo y) mid new → Gains (λ x. Any (λ y. IsSo y x) (take (i + 1) ys)) old new
  Gains-more i y old mid new inside is before then =
      let longer : take i ys ++ y ∷ [] ≡ take (i + 1) ys = ap (λ (v : Y). take i ys ++ v ∷ []) is ∙ sym (take_more ys i y inside) in
      subst (λ (v : List Y). Gains (λ x. Any (λ y. IsSo y x) v) old new) longer (record {
        all = λ x. (
          λ h. elim ((then.all x).0 h) [
            | inl k ↦ elim ((before.all x).0 k) [ inl o ↦ inl o | inr so ↦ inr (any_left (λ y. IsSo y x) (take i ys) (y ∷ []) so) ]
            | inr so ↦ inr (any_last (λ y. IsSo y x) (take i ys) y so)
          ],
          λ h. elim h [
            | inl o ↦ (then.all x).1 (inl ((before.all x).1 (inl o)))
            | inr any ↦ elim (any_cases (λ y. IsSo y x) (take i ys) y any) [
              | inl so ↦ (then.all x).1 (inl ((before.all x).1 (inr so)))
              | inr so ↦ (then.all x).1 (inr so)
            ]
          ],
        );
      })

  pub Gains-all : (i : ℕ) (old new : List X) → length ys ≤ i → Gains (λ x. Any (λ y. IsSo y x) (take i ys)) old new → Gains (λ x. Any (λ y. IsSo y x) ys) old new
  Gains-all i old new end gains = subst (λ (v : List Y). Gains (λ x. Any (λ y. IsSo y x) v) old new) (take_all i ys end) gains
