-- The version that a known moment means is one of the side.
use Rattle.std.proofs.Common.{◌≡◌, ℕ, List, [], ◌∷◌, Bool, true, false, Option, refl, ap, sym, subst, filter, arith}
use Rattle.std.specs.Prelude.{◌||◌, ◌==◌}
use Rattle.std.specs.List.{list_any}
use Rattle.std.proofs.lemmas.Bool.Decides.{nat_tests}
use Rattle.lc_model.specs.Versions.History.{moments_of}
use Rattle.lc_model.specs.Versions.Named.{is_by, last_of}
use Rattle.convoy.proofs.PageLawsLemmas.FilterLemmas.{filter_drops, filter_takes}
use Rattle.convoy.specs.ClientLaws.Stated.{version_at}
use Rattle.lc_world.specs.Sides.Side.{Side, has_version}

or_more : (here there : Bool) → there ≡ true → (here || there) ≡ true
or_more true there is = refl
or_more false there is = is

or_between : (here more there : Bool) → (here || there) ≡ true → (here || (more || there)) ≡ true
or_between true more there is = refl
or_between false more there is = or_more more there is

is_itself : (v : ℕ) → (v == v) ≡ true
is_itself v = grind (arith, nat_tests)

first_is : (v : ℕ) → ((v == v) || false) ≡ true
first_is v = ap (λ (b : Bool). b || false) (is_itself v)

last_is_one : (p : ℕ → Bool) (base : ℕ) (later : List ℕ) → list_any (λ (v : ℕ). v == last_of base (filter p later)) (base ∷ later) ≡ true
last_is_one p base [] = first_is base
last_is_one p base (x ∷ later) = by_test (p x) refl (last_is_one p x later) (last_is_one p base later) where
  by_test : (b : Bool) → p x ≡ b → list_any (λ (v : ℕ). v == last_of x (filter p later)) (x ∷ later) ≡ true → list_any (λ (v : ℕ). v == last_of base (filter p later)) (base ∷ later) ≡ true →
      list_any (λ (v : ℕ). v == last_of base (filter p (x ∷ later))) (base ∷ x ∷ later) ≡ true
  by_test true e here there =
      let kept : filter p (x ∷ later) ≡ x ∷ filter p later = filter_takes p x later e in
      let P : List ℕ → Type 0 = λ l. list_any (λ (v : ℕ). v == last_of base l) (base ∷ x ∷ later) ≡ true in
      subst P (sym kept) (or_more (base == last_of x (filter p later)) (list_any (λ (v : ℕ). v == last_of x (filter p later)) (x ∷ later)) here)
  by_test false e here there =
      let dropped : filter p (x ∷ later) ≡ filter p later = filter_drops p x later e in
      let last = last_of base (filter p later) in
      let P : List ℕ → Type 0 = λ l. list_any (λ (v : ℕ). v == last_of base l) (base ∷ x ∷ later) ≡ true in
      subst P (sym dropped) (or_between (base == last) (x == last) (list_any (λ (v : ℕ). v == last) later) there)

pub has_meant : (side : Side) (known : Option ℕ) → has_version side (version_at side known) ≡ true
has_meant side known = last_is_one (is_by known) side.base_moment (moments_of side.history)
