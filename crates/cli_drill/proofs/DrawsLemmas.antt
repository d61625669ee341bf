-- What is drawn is below its bound, and all draws are drawn one after the other.
use Rattle.std.proofs.Common.{◌≡◌, ◌∙◌, ℕ, suc, ◌/◌, ◌^◌, ◌<◌, ◌≤◌, List, [], ◌∷◌, ◌++◌, ap, arith, inl, inr, length, refl, subst, sym}
use Rattle.std.proofs.Math.ListN.{get_or-append}
use Rattle.std.proofs.Math.Nat.{mod-lt}
use Rattle.std.proofs.lemmas.Bool.{cases_lt}
use Rattle.std.proofs.lemmas.List.{get_or_push, length-append}
use Rattle.cli_drill.specs.Draws.{AreBits, bits_drawn, drawn, next_state, state_after}
use Rattle.cli_drill.specs.Network.{side_of, trip_count}

pub drawn_below : (seed place among : ℕ) → 0 < among → drawn seed place among < among
drawn_below seed place among some = mod-lt (bits_drawn seed place) some

pub some_trips : (seed : ℕ) → 0 < trip_count (side_of seed)
some_trips seed = omega arith

pub few_trips : (seed : ℕ) → trip_count (side_of seed) ≤ 12_960
few_trips seed = omega arith

-- ---- all draws

-- so many numbers are drawn, which are the bits of their states, and this is the last state
pub record HaveDrawn (seed state : ℕ) (bits : List ℕ) : Type 0 where
  pub few : length bits ≤ 440
  pub state_is : state ≡ state_after seed (length bits)
  pub are_bits : AreBits seed (length bits) bits

pub none_drawn : (seed state : ℕ) (bits : List ℕ) → state ≡ seed → bits ≡ [] → HaveDrawn seed state bits
unfolding state_after
none_drawn seed state bits same none =
    subst (HaveDrawn seed state) (sym none) (record { few = omega arith; state_is = same; are_bits = record { counted = refl; each = λ place low. absurd (omega (arith, low)) } })

pub one_drawn : (seed state next bit : ℕ) (old new : List ℕ) → HaveDrawn seed state old → length old < 440 → next ≡ next_state state → bit ≡ next / 2 ^ 33 → new ≡ old ++ bit ∷ []
    → HaveDrawn seed next new
unfolding state_after
one_drawn seed state next bit old new have room next_is bit_is e =
    let more : length (old ++ bit ∷ []) ≡ suc (length old) = length-append old (bit ∷ []) ∙ omega arith in
    let after : next ≡ state_after seed (suc (length old)) = next_is ∙ ap next_state have.state_is in
    subst (HaveDrawn seed next) (sym e) (record {
      few = omega (arith, more, room);
      state_is = after ∙ ap (state_after seed) (sym more);
      are_bits = record {
        counted = refl;
        each = λ place low. elim (cases_lt place (length old)) [
          | inl before ↦ get_or-append old (bit ∷ []) 0 place before ∙ have.are_bits.each place before
          | inr not_before ↦
              let last : length old ≡ place = omega (arith, more, low, not_before) in
              get_or_push old bit 0 place last ∙ bit_is ∙ ap (λ (s : ℕ). s / 2 ^ 33) after ∙ ap (λ (n : ℕ). state_after seed (suc n) / 2 ^ 33) last
        ];
      };
    })

pub all_bits : (seed state : ℕ) (bits : List ℕ) → HaveDrawn seed state bits → 440 ≤ length bits → AreBits seed 440 bits
all_bits seed state bits have full =
    let counted : length bits ≡ 440 = omega (arith, have.few, full) in
    record { counted = counted; each = λ place low. have.are_bits.each place (omega (arith, counted, low)) }
