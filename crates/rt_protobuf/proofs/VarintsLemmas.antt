-- Reading a varint gives what the grammar says, and nothing else.
use Rattle.std.proofs.Common.{◌≡◌, ℕ, zero, suc, ◌+◌, ◌-◌, ◌*◌, ◌/◌, ◌%◌, ◌^◌, ◌<◌, ◌≤◌, false, eqb, ltb, List, [], ◌∷◌, ◌++◌, length, take, Ok, Err, refl, sym, ap, ◌∙◌, arith, inl, inr}
use Rattle.std.proofs.Math.Nat.{mul-add-mod_self_right, mod-eq_of_lt}
use Rattle.std.proofs.lemmas.Nat.{div-add-mod'}
use Rattle.std.proofs.lemmas.Bool.{eq-eqb, ne_eqb, eqb-true, eqb-false, ltb-true, ltb-false, lt-ltb, le-ltb}
use Rattle.std.specs.List.{AllByRecursion}
use Rattle.rt_protobuf.specs.declared.fault.WireFault.{WireFault}
use Rattle.rt_protobuf.specs.declared.fault.WireFault.TheVariants.{Cut, LongVarint}
use Rattle.rt_protobuf.specs.Varint.{Spells}
use Rattle.rt_protobuf.specs.Reading.{varint_at}
use Rattle.rt_protobuf.proofs.StepsLemmas.{bind_ok, bind_err, chosen, guard_ok, ok_is, err_is}

-- no byte more may be read
pub spent : (place left : ℕ) (bytes : List ℕ) → left ≡ 0 → varint_at place left bytes ≡ Err (LongVarint place)
unfolding varint_at
spent place left [] e = rw (eq-eqb left 0 e) refl
spent place left (b ∷ bytes) e = rw (eq-eqb left 0 e) refl

-- bits above the modulus change nothing
mod_high : (c w m : ℕ) → (c + 128 * (w % m)) % m ≡ (c + 128 * w) % m
mod_high c w m =
    let e : 128 * (w / m) * m + (c + 128 * (w % m)) ≡ c + 128 * w = omega (arith, div-add-mod' w m) in
    sym (mul-add-mod_self_right (128 * (w / m)) m (c + 128 * (w % m))) ∙ ap (λ (x : ℕ). x % m) e

-- what a varint took from the front
pub record TakesVarint (left : ℕ) (bytes : List ℕ) (n : ℕ) (rest : List ℕ) : Type 0 where
  pub front : List ℕ
  pub parts : bytes ≡ front ++ rest
  pub short : length front ≤ left
  pub some : 0 < length front
  pub number : ℕ
  pub spelled : Spells front number
  pub dropped : n ≡ number % 2 ^ 64

pub varint_takes : (place left : ℕ) (bytes : List ℕ) (n : ℕ) (rest : List ℕ) → varint_at place left bytes ≡ Ok (n, rest) → TakesVarint left bytes n rest
unfolding varint_at
varint_takes place left [] n rest e = elim (chosen (eqb left 0) _ _ _ e) [ inl p ↦ absurd cc | inr p ↦ absurd cc ]
varint_takes place left (b ∷ bytes) n rest e =
    let g = guard_ok (eqb left 0) (LongVarint place) _ (n, rest) e in
    let more : 0 < left = (let ne : left ≡ 0 → ⊥ = eqb-false left 0 g.0 in omega arith) in
    elim (chosen (ltb b 128) _ _ _ g.1) [
      | inl last ↦
          let lt = ltb-true b 128 last.0 in
          let is = ok_is (b, bytes) (n, rest) last.1 in
          record {
            front = b ∷ [];
            parts = ap (λ (x : ℕ × List ℕ). b ∷ x.1) is;
            short = omega arith;
            some = omega arith;
            number = b;
            spelled = inl (lt, refl, refl);
            dropped = sym (ap (λ (x : ℕ × List ℕ). x.0) is) ∙ sym (mod-eq_of_lt (omega (arith, lt)));
          }
      | inr more_bytes ↦
          let le = ltb-false b 128 more_bytes.0 in
          let step = bind_ok (varint_at place (left - 1) bytes) (λ high. Ok ((b - 128 + 128 * high.0) % 2 ^ 64, high.1)) (n, rest) more_bytes.1 in
          let t = varint_takes place (left - 1) bytes step.0.0 step.0.1 step.1 in
          let is = ok_is ((b - 128 + 128 * step.0.0) % 2 ^ 64, step.0.1) (n, rest) step.2 in
          record {
            front = b ∷ t.front;
            parts = ap (λ (x : List ℕ). b ∷ x) t.parts ∙ ap (λ (x : ℕ × List ℕ). b ∷ (t.front ++ x.1)) is;
            short = omega (arith, t.short);
            some = omega arith;
            number = b - 128 + 128 * t.number;
            spelled = inr (le, (t.number, omega (arith, le), t.spelled));
            dropped = sym (ap (λ (x : ℕ × List ℕ). x.0) is) ∙ ap (λ (x : ℕ). (b - 128 + 128 * x) % 2 ^ 64) t.dropped ∙ mod_high (b - 128) t.number (2 ^ 64);
          }
    ]

pub varint_again : (place left : ℕ) (front rest : List ℕ) (number : ℕ) → Spells front number → length front ≤ left → varint_at place left (front ++ rest) ≡ Ok (number % 2 ^ 64, rest)
unfolding varint_at
varint_again place left [] rest number s short = absurd s
varint_again place left (b ∷ front) rest number s short =
    let more : eqb left 0 ≡ false = ne_eqb left 0 (λ z. omega (arith, z, short)) in
    elim s [
      | inl last ↦ rw (more, lt-ltb b 128 last.0, last.1) (ap (λ (x : ℕ). Ok (x, rest)) (sym (mod-eq_of_lt (omega (arith, last.0, last.2))) ∙ ap (λ (x : ℕ). x % 2 ^ 64) (sym last.2)))
      | inr on ↦
          let high = on.1.0 in
          let ih = varint_again place (left - 1) front rest high on.1.2 (omega (arith, short)) in
          let e : b - 128 + 128 * high ≡ number = omega (arith, on.0, on.1.1) in
          rw (more, le-ltb b 128 on.0, ih) (ap (λ (x : ℕ). Ok (x, rest)) (mod_high (b - 128) high (2 ^ 64) ∙ ap (λ (x : ℕ). x % 2 ^ 64) e))
    ]

-- which fault a varint has: its bytes end, or they go on
pub data VarintFails (place left : ℕ) (bytes : List ℕ) (fault : WireFault) : Type 0 where
  cut : (is : fault ≡ Cut place) (ends : length bytes < left) (on : AllByRecursion (λ b. 128 ≤ b) bytes) → VarintFails place left bytes fault
  long : (is : fault ≡ LongVarint place) (more : left ≤ length bytes) (on : AllByRecursion (λ b. 128 ≤ b) (take left bytes)) → VarintFails place left bytes fault

pub varint_fails : (place left : ℕ) (bytes : List ℕ) (fault : WireFault) → varint_at place left bytes ≡ Err fault → VarintFails place left bytes fault
unfolding varint_at
varint_fails place zero bytes fault e = long (err_is (ℕ × List ℕ) fault (LongVarint place) (sym e ∙ spent place 0 bytes refl)) (omega arith) tt
varint_fails place (suc left) [] fault e = elim (chosen (eqb (suc left) 0) _ _ _ e) [
  | inl p ↦ absurd (let z : suc left ≡ 0 = eqb-true (suc left) 0 p.0 in omega arith)
  | inr p ↦ cut (err_is (ℕ × List ℕ) fault (Cut place) (sym p.1)) (omega arith) tt
]
varint_fails place (suc left) (b ∷ bytes) fault e = elim (chosen (eqb (suc left) 0) _ _ _ e) [
  | inl p ↦ absurd (let z : suc left ≡ 0 = eqb-true (suc left) 0 p.0 in omega arith)
  | inr p ↦ elim (chosen (ltb b 128) _ _ _ p.1) [
    | inl q ↦ absurd cc
    | inr q ↦
        let le = ltb-false b 128 q.0 in
        let less : suc left - 1 ≡ left = omega arith in
        elim (bind_err (varint_at place (suc left - 1) bytes) (λ (high : ℕ × List ℕ). Ok ((b - 128 + 128 * high.0) % 2 ^ 64, high.1)) fault q.1) [
          | inl f ↦ elim (varint_fails place left bytes fault (ap (λ (k : ℕ). varint_at place k bytes) (sym less) ∙ f)) [
            | cut is ends on ↦ cut is (omega (arith, ends)) (le, on)
            | long is more on ↦ long is (omega (arith, more)) (le, on)
          ]
          | inr f ↦ absurd cc
        ]
  ]
]

pub cut_again : (place left : ℕ) (bytes : List ℕ) → length bytes < left → AllByRecursion (λ b. 128 ≤ b) bytes → varint_at place left bytes ≡ Err (Cut place)
unfolding varint_at
cut_again place left [] ends on = rw (ne_eqb left 0 (λ z. omega (arith, z, ends))) refl
cut_again place left (b ∷ bytes) ends on =
    rw (ne_eqb left 0 (λ z. omega (arith, z, ends)), le-ltb b 128 on.0, cut_again place (left - 1) bytes (omega (arith, ends)) on.1) refl

pub long_again : (place left : ℕ) (bytes : List ℕ) → left ≤ length bytes → AllByRecursion (λ b. 128 ≤ b) (take left bytes) → varint_at place left bytes ≡ Err (LongVarint place)
unfolding varint_at
long_again place zero bytes more on = spent place 0 bytes refl
long_again place (suc left) [] more on = absurd (omega (arith, more))
long_again place (suc left) (b ∷ bytes) more on =
    let less : suc left - 1 ≡ left = omega arith in
    rw (ne_eqb (suc left) 0 (λ z. omega (arith, z)), le-ltb b 128 on.0, less, long_again place left bytes (omega (arith, more)) on.1) refl
