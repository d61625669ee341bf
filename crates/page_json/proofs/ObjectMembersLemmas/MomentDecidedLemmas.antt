-- Of each text it can be found out which moment it says, or that it says none.
use Rattle.std.proofs.Common.{◌≡◌, ◌∙◌, ℕ, ◌+◌, ◌-◌, ◌<◌, ◌⊎◌, inl, inr, ⊎_elim, List, [], ◌∷◌, codes, ap, refl, sym, subst, arith}
use Rattle.std.specs.Char.{IsAsciiDigit}
use Rattle.lc_time.specs.Iso.{IsFraction, SaysMoment, second_text_of}
use Rattle.page_json.proofs.ObjectMembersLemmas.DecisionsLemmas.{Readable, behind, joined, numbers, same_text, turn}

-- a text says something, or it is known that it says nothing
abbrev pub SaysOrNot : {X : Type 0} → (List ℕ → X → Type 0) → Type 0
SaysOrNot {X} Says = (text : List ℕ) → Dec ((x : X) × Says text x)

abbrev pub Below : ℕ → Type 0
Below bound = (k : ℕ) × (k < bound)

exact : (front : List ℕ) → Readable (λ (u : Unit {0}). front)
exact front text = turn (λ e. (tt, e)) (λ h. h.1) (same_text text front)

abbrev Digit : Type 0
Digit = (byte : ℕ) × IsAsciiDigit byte

digits : Readable (λ (d : Digit). d.0 ∷ [])
digits text =
    turn (λ h. let small = h.0.1 in ((48 + h.0.0, (omega arith, omega arith)), h.1))
    (λ h.
    let low = h.0.1.0 in
    let high = h.0.1.1 in
    let same : h.0.0 ≡ 48 + (h.0.0 - 48) = omega arith in
    ((h.0.0 - 48, omega arith), h.1 ∙ ap (λ (b : ℕ). b ∷ []) same))
    (numbers (λ k. (48 + k) ∷ []) 10 text)

fraction : (rest : List ℕ) → Dec (IsFraction rest)
fraction rest =
    turn
    (λ h. record {
      tenths = h.0.0.0;
      hundredths = h.0.1.0.0;
      thousandths = h.0.1.1.0.0;
      tenths_digit = h.0.0.1;
      hundredths_digit = h.0.1.0.1;
      thousandths_digit = h.0.1.1.0.1;
      written = h.1;
    })
    (λ (f : IsFraction rest). (((f.tenths, f.tenths_digit), ((f.hundredths, f.hundredths_digit), ((f.thousandths, f.thousandths_digit), tt))), f.written))
    (behind (codes ".") _ (joined _ _ digits (joined _ _ digits (joined _ _ digits (exact (codes "Z"))))) rest)

abbrev IsEnd : List ℕ → Type 0
IsEnd rest = (rest ≡ codes "Z") ⊎ IsFraction rest

end : (rest : List ℕ) → Dec (IsEnd rest)
end rest = elim (same_text rest (codes "Z")) [
  | yes e ↦ yes (inl e)
  | no not ↦ elim (fraction rest) [ yes f ↦ yes (inr f) | no none ↦ no (λ is. ⊎_elim not none is) ]
]

ends : Readable (λ (r : (rest : List ℕ) × IsEnd rest). r.0)
ends text = turn (λ is. ((text, is), refl)) (λ h. subst IsEnd (sym h.1) h.0.1) (end text)

pub moments : SaysOrNot SaysMoment
moments text =
    turn (λ h. (h.0.0.0, record { rest = h.0.1.0; in_range = h.0.0.1; written = h.1; ended = h.0.1.1 }))
    (λ h. (((h.0, h.1.in_range), (h.1.rest, h.1.ended)), h.1.written))
    (joined (λ (m : Below 253_402_128_000). second_text_of m.0) _ (numbers second_text_of 253_402_128_000) ends text)
