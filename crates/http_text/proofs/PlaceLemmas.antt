-- What the search for the first place of a byte says.
use Rattle.std.proofs.Common.{◌≡◌, ℕ, ◌+◌, ◌-◌, ◌<◌, ◌≤◌, inl, inr, eqb, List, [], length, take, drop, Option, Some, None, refl, ◌∙◌, arith, length-drop}
use Rattle.std.specs.List.{position_or_len, position, before_first, after_first}
use Rattle.std.specs.Option.{MatchOption}
use Rattle.std.proofs.lemmas.Bool.{cases_lt, lt-ltb, le-ltb, cond-true, cond-false}
use Rattle.std.proofs.lemmas.List.{take_all, drop_all}

-- where the first separator is
abbrev at : ℕ → List ℕ → ℕ
at s bs = position_or_len (λ b. eqb b s) bs

pub found : (s : ℕ) (bs : List ℕ) (r : Option ℕ) → r ≡ position (λ b. eqb b s) bs → MatchOption r (length bs ≤ at s bs) (λ n. (n ≡ at s bs) × (n < length bs))
found s bs r e =
    elim (cases_lt (at s bs) (length bs)) [
      | inl lt ↦ let here : r ≡ Some (at s bs) = e ∙ cond-true _ _ _ (lt-ltb _ _ lt) in rw here (refl, lt)
      | inr ge ↦ let here : r ≡ None = e ∙ cond-false _ _ _ (le-ltb _ _ ge) in rw here ge
    ]

-- the rest of the bytes, as a slice up to their end
pub to_end : (n : ℕ) (bs : List ℕ) → take (length bs - (n + 1)) (drop (n + 1) bs) ≡ drop (n + 1) bs
to_end n bs = take_all (length bs - (n + 1)) (drop (n + 1) bs) (omega (arith, length-drop {A = ℕ}))

pub all_before : (s : ℕ) (bs : List ℕ) → length bs ≤ at s bs → before_first (λ b. eqb b s) bs ≡ bs
all_before s bs past = take_all (at s bs) bs past

pub none_after : (s : ℕ) (bs : List ℕ) → length bs ≤ at s bs → after_first (λ b. eqb b s) bs ≡ []
none_after s bs past = drop_all (at s bs + 1) bs (omega arith)
