-- Which fault a content has, and that it is found.
use Rattle.std.proofs.Common.{◌≡◌, ℕ, ◌<◌, ◌≤◌, cond, eqb, ltb, List, length, take, drop, Result, Ok, Err, refl, sym, ap, arith, inl, inr, ◌⊎◌}
use Rattle.std.specs.Int.{w32, w64, from_le_bytes}
use Rattle.std.proofs.lemmas.Bool.{cases_eq, eqb-true, eqb-false, ne_eqb, ltb-true, ltb-false, lt-ltb}
use Rattle.rt_protobuf.specs.declared.fault.WireFault.{WireFault}
use Rattle.rt_protobuf.specs.declared.fault.WireFault.TheVariants.{Cut, LongVarint, Group, BadField}
use Rattle.rt_protobuf.specs.Varint.{IsLongVarint}
use Rattle.rt_protobuf.specs.Grammar.{Content, varint, eight, text, four, IsCutText, IsCutContent}
use Rattle.rt_protobuf.specs.Reading.{◌>>=◌, varint_at, text_at, eight_at, four_at, content_at}
use Rattle.rt_protobuf.proofs.StepsLemmas.{bind_err, chosen, err_is}
use Rattle.rt_protobuf.proofs.VarintsLemmas.{varint_takes, VarintFails, cut, long, varint_fails, cut_again, long_again}
use Rattle.rt_protobuf.proofs.ContentsLemmas.{is_varint, is_varint_again}

pub data ContentFails (place wire : ℕ) (bytes : List ℕ) (fault : WireFault) : Type 0 where
  is_cut : (is : fault ≡ Cut place) (why : IsCutContent wire bytes) → ContentFails place wire bytes fault
  is_long : (is : fault ≡ LongVarint place) (kind : (wire ≡ 0) ⊎ (wire ≡ 2)) (why : IsLongVarint bytes) → ContentFails place wire bytes fault
  is_bad : (is : fault ≡ BadField place) (why : 5 < wire) → ContentFails place wire bytes fault
  is_group : (is : fault ≡ Group place) (why : (wire ≡ 3) ⊎ (wire ≡ 4)) → ContentFails place wire bytes fault

text_fails : (place : ℕ) (bytes : List ℕ) (fault : WireFault) → text_at place bytes ≡ Err fault → VarintFails place 10 bytes fault ⊎ ((fault ≡ Cut place) × IsCutText bytes)
unfolding text_at
text_fails place bytes fault e = elim (bind_err (varint_at place 10 bytes) (λ (n : ℕ × List ℕ). cond (ltb (length n.1) n.0) (Err (Cut place)) (Ok (take n.0 n.1, drop n.0 n.1))) fault e) [
  | inl f ↦ inl (varint_fails place 10 bytes fault f)
  | inr step ↦
      let n = step.0.0 in
      let behind = step.0.1 in
      let t = varint_takes place 10 bytes n behind step.1 in
      elim (chosen (ltb (length behind) n) _ _ _ step.2) [
        | inl p ↦ inr (err_is (List ℕ × List ℕ) fault (Cut place) (sym p.1), (t.front, behind, n, t.parts, is_varint bytes n behind t, ltb-true (length behind) n p.0))
        | inr p ↦ absurd cc
      ]
]

three_or_four : (wire : ℕ) → (wire ≡ 0 → ⊥) → (wire ≡ 1 → ⊥) → (wire ≡ 2 → ⊥) → (wire ≡ 5 → ⊥) → wire ≤ 5 → (wire ≡ 3) ⊎ (wire ≡ 4)
three_or_four wire a b c d le = elim (cases_eq wire 3) [ inl e ↦ inl e | inr other ↦ inr (omega arith) ]

pub content_fails : (place wire : ℕ) (bytes : List ℕ) (fault : WireFault) → content_at place wire bytes ≡ Err fault → ContentFails place wire bytes fault
unfolding content_at eight_at four_at
content_fails place wire bytes fault e = elim (chosen (eqb wire 0) _ _ _ e) [
  | inl p ↦ elim (bind_err (varint_at place 10 bytes) (λ (n : ℕ × List ℕ). Ok (varint n.0, n.1)) fault p.1) [
    | inl f ↦ elim (varint_fails place 10 bytes fault f) [
      | cut is ends on ↦ is_cut is (inl (eqb-true wire 0 p.0, (ends, on)))
      | long is more on ↦ is_long is (inl (eqb-true wire 0 p.0)) (more, on)
    ]
    | inr step ↦ absurd cc
  ]
  | inr p0 ↦ elim (chosen (eqb wire 1) _ _ _ p0.1) [
    | inl p ↦ elim (chosen (ltb (length bytes) 8) _ _ _ (elim (bind_err (cond (ltb (length bytes) 8) (Err (Cut place)) (Ok (from_le_bytes w64 (take 8 bytes), drop 8 bytes))) (λ (n : ℕ × List ℕ). Ok (eight n.0, n.1)) fault p.1) [ inl f ↦ f | inr step ↦ absurd cc ])) [
      | inl q ↦ is_cut (err_is (ℕ × List ℕ) fault (Cut place) (sym q.1)) (inr (inl (eqb-true wire 1 p.0, ltb-true (length bytes) 8 q.0)))
      | inr q ↦ absurd cc
    ]
    | inr p1 ↦ elim (chosen (eqb wire 2) _ _ _ p1.1) [
      | inl p ↦ elim (bind_err (text_at place bytes) (λ (t : List ℕ × List ℕ). Ok (text t.0, t.1)) fault p.1) [
        | inl f ↦ elim (text_fails place bytes fault f) [
          | inl v ↦ elim v [
            | cut is ends on ↦ is_cut is (inr (inr (inl (eqb-true wire 2 p.0, inl (ends, on)))))
            | long is more on ↦ is_long is (inr (eqb-true wire 2 p.0)) (more, on)
          ]
          | inr t ↦ is_cut t.0 (inr (inr (inl (eqb-true wire 2 p.0, inr t.1))))
        ]
        | inr step ↦ absurd cc
      ]
      | inr p2 ↦ elim (chosen (eqb wire 5) _ _ _ p2.1) [
        | inl p ↦ elim (chosen (ltb (length bytes) 4) _ _ _ (elim (bind_err (cond (ltb (length bytes) 4) (Err (Cut place)) (Ok (from_le_bytes w32 (take 4 bytes), drop 4 bytes))) (λ (n : ℕ × List ℕ). Ok (four n.0, n.1)) fault p.1) [ inl f ↦ f | inr step ↦ absurd cc ])) [
          | inl q ↦ is_cut (err_is (ℕ × List ℕ) fault (Cut place) (sym q.1)) (inr (inr (inr (eqb-true wire 5 p.0, ltb-true (length bytes) 4 q.0))))
          | inr q ↦ absurd cc
        ]
        | inr p3 ↦ elim (chosen (ltb 5 wire) _ _ _ p3.1) [
          | inl p ↦ is_bad (err_is (Content × List ℕ) fault (BadField place) (sym p.1)) (ltb-true 5 wire p.0)
          | inr p ↦ is_group (err_is (Content × List ℕ) fault (Group place) (sym p.1)) (three_or_four wire (eqb-false wire 0 p0.0) (eqb-false wire 1 p1.0) (eqb-false wire 2 p2.0) (eqb-false wire 5 p3.0) (ltb-false 5 wire p.0))
        ]
      ]
    ]
  ]
]

-- ---- and they are found

text_cut_again : (place : ℕ) (bytes : List ℕ) → IsCutText bytes → text_at place bytes ≡ Err (Cut place)
unfolding text_at
text_cut_again place bytes t =
    rw (t.3, is_varint_again place t.0 t.1 t.2 t.4, lt-ltb (length t.1) t.2 t.5) refl

pub content_cut_again : (place wire : ℕ) (bytes : List ℕ) → IsCutContent wire bytes → content_at place wire bytes ≡ Err (Cut place)
unfolding content_at eight_at four_at text_at
content_cut_again place wire bytes why = elim why [
  | inl v ↦ rw (v.0, cut_again place 10 bytes v.1.0 v.1.1) refl
  | inr w ↦ elim w [
    | inl v ↦ rw (v.0, lt-ltb (length bytes) 8 v.1) refl
    | inr x ↦ elim x [
      | inl v ↦ elim v.1 [
        | inl n ↦ rw (v.0, cut_again place 10 bytes n.0 n.1) refl
        | inr t ↦ rw (v.0) (ap (λ (r : Result (List ℕ × List ℕ) WireFault). r >>= λ (t : List ℕ × List ℕ). Ok (text t.0, t.1)) (text_cut_again place bytes t))
      ]
      | inr v ↦ rw (v.0, lt-ltb (length bytes) 4 v.1) refl
    ]
  ]
]

pub content_long_again : (place wire : ℕ) (bytes : List ℕ) → (wire ≡ 0) ⊎ (wire ≡ 2) → IsLongVarint bytes → content_at place wire bytes ≡ Err (LongVarint place)
unfolding content_at text_at
content_long_again place wire bytes kind why = elim kind [
  | inl w ↦ rw (w, long_again place 10 bytes why.0 why.1) refl
  | inr w ↦ rw (w, long_again place 10 bytes why.0 why.1) refl
]

pub content_bad_again : (place wire : ℕ) (bytes : List ℕ) → 5 < wire → content_at place wire bytes ≡ Err (BadField place)
unfolding content_at
content_bad_again place wire bytes lt =
    rw (ne_eqb wire 0 (λ z. omega (arith, z, lt)), ne_eqb wire 1 (λ z. omega (arith, z, lt)), ne_eqb wire 2 (λ z. omega (arith, z, lt)), ne_eqb wire 5 (λ z. omega (arith, z, lt)), lt-ltb 5 wire lt) refl

pub content_group_again : (place wire : ℕ) (bytes : List ℕ) → (wire ≡ 3) ⊎ (wire ≡ 4) → content_at place wire bytes ≡ Err (Group place)
unfolding content_at
content_group_again place wire bytes kind = elim kind [ inl w ↦ rw w refl | inr w ↦ rw w refl ]
