-- Reading what a field holds gives what the grammar says, and nothing else.
use Rattle.std.proofs.Common.{◌≡◌, ℕ, ◌≤◌, false, cond, eqb, ltb, List, ◌++◌, length, take, drop, Ok, Err, refl, sym, ap, subst, ◌∙◌, append_assoc, arith, inl, inr}
use Rattle.std.specs.Int.{w32, w64, from_le_bytes}
use Rattle.std.proofs.lemmas.Bool.{eqb-true, ltb-false, le-ltb}
use Rattle.std.proofs.lemmas.List.{take-append-drop, length-take, length-append, take_at, drop_at}
use Rattle.rt_protobuf.specs.declared.fault.WireFault.TheVariants.{Cut}
use Rattle.rt_protobuf.specs.Varint.{IsVarint}
use Rattle.rt_protobuf.specs.Grammar.{Content, varint, eight, text, four, wire_type, IsContent}
use Rattle.rt_protobuf.specs.Reading.{varint_at, text_at, eight_at, four_at, content_at}
use Rattle.rt_protobuf.proofs.StepsLemmas.{bind_ok, chosen, guard_ok, ok_is}
use Rattle.rt_protobuf.proofs.VarintsLemmas.{TakesVarint, varint_takes, varint_again}

pub is_varint : (bytes : List ℕ) (n : ℕ) (rest : List ℕ) (t : TakesVarint 10 bytes n rest) → IsVarint t.front n
is_varint bytes n rest t = (t.short, (t.number, t.spelled, t.dropped))

pub is_varint_again : (place : ℕ) (front rest : List ℕ) (n : ℕ) → IsVarint front n → varint_at place 10 (front ++ rest) ≡ Ok (n, rest)
is_varint_again place front rest n v =
    varint_again place 10 front rest v.1.0 v.1.1 v.0 ∙ ap (λ (x : ℕ). Ok (x, rest)) (sym v.1.2)

-- ---- texts

pub record TakesText (bytes inner rest : List ℕ) : Type 0 where
  pub front : List ℕ
  pub parts : bytes ≡ front ++ (inner ++ rest)
  pub counted : IsVarint front (length inner)

pub text_takes : (place : ℕ) (bytes inner rest : List ℕ) → text_at place bytes ≡ Ok (inner, rest) → TakesText bytes inner rest
unfolding text_at
text_takes place bytes inner rest e =
    let step = bind_ok (varint_at place 10 bytes) (λ n. cond (ltb (length n.1) n.0) (Err (Cut place)) (Ok (take n.0 n.1, drop n.0 n.1))) (inner, rest) e in
    let n = step.0.0 in
    let behind = step.0.1 in
    let t = varint_takes place 10 bytes n behind step.1 in
    let g = guard_ok (ltb (length behind) n) (Cut place) (Ok (take n behind, drop n behind)) (inner, rest) step.2 in
    let enough : n ≤ length behind = ltb-false (length behind) n g.0 in
    let is = ok_is (take n behind, drop n behind) (inner, rest) g.1 in
    let count : length (take n behind) ≡ n = omega (arith, length-take n behind, enough) in
    let made : TakesText bytes (take n behind) (drop n behind) = record {
      front = t.front;
      parts = t.parts ∙ ap (λ (x : List ℕ). t.front ++ x) (sym (take-append-drop n behind));
      counted = subst (λ (k : ℕ). IsVarint t.front k) (sym count) (is_varint bytes n behind t);
    } in
    subst (λ (x : List ℕ × List ℕ). TakesText bytes x.0 x.1) is made

pub text_again : (place : ℕ) (front inner rest : List ℕ) → IsVarint front (length inner) → text_at place (front ++ (inner ++ rest)) ≡ Ok (inner, rest)
unfolding text_at
text_again place front inner rest v =
    let enough : ltb (length (inner ++ rest)) (length inner) ≡ false = le-ltb (length (inner ++ rest)) (length inner) (omega (arith, length-append inner rest)) in
    rw (is_varint_again place front (inner ++ rest) (length inner) v, enough, take_at inner rest (length inner) refl, drop_at inner rest (length inner) refl) refl

-- ---- contents

pub record TakesContent (wire : ℕ) (bytes : List ℕ) (c : Content) (rest : List ℕ) : Type 0 where
  pub front : List ℕ
  pub parts : bytes ≡ front ++ rest
  pub wire_is : wire ≡ wire_type c
  pub spelled : IsContent front c

takes_fixed : (wire count : ℕ) (bytes : List ℕ) (c : Content) → count ≤ length bytes → wire ≡ wire_type c → (length (take count bytes) ≡ count → IsContent (take count bytes) c) → TakesContent wire bytes c (drop count bytes)
takes_fixed wire count bytes c enough is spelled = record {
  front = take count bytes;
  parts = sym (take-append-drop count bytes);
  wire_is = is;
  spelled = spelled (omega (arith, length-take count bytes, enough));
}

pub content_takes : (place wire : ℕ) (bytes : List ℕ) (c : Content) (rest : List ℕ) → content_at place wire bytes ≡ Ok (c, rest) → TakesContent wire bytes c rest
unfolding content_at eight_at four_at
content_takes place wire bytes c rest e = elim (chosen (eqb wire 0) _ _ _ e) [
  | inl p ↦
      let step = bind_ok (varint_at place 10 bytes) (λ n. Ok (varint n.0, n.1)) (c, rest) p.1 in
      let t = varint_takes place 10 bytes step.0.0 step.0.1 step.1 in
      let made : TakesContent wire bytes (varint step.0.0) step.0.1 = record { front = t.front; parts = t.parts; wire_is = eqb-true wire 0 p.0; spelled = is_varint bytes step.0.0 step.0.1 t } in
      subst (λ (x : Content × List ℕ). TakesContent wire bytes x.0 x.1) (ok_is (varint step.0.0, step.0.1) (c, rest) step.2) made
  | inr p0 ↦ elim (chosen (eqb wire 1) _ _ _ p0.1) [
    | inl p ↦
        let step = bind_ok (cond (ltb (length bytes) 8) (Err (Cut place)) (Ok (from_le_bytes w64 (take 8 bytes), drop 8 bytes))) (λ n. Ok (eight n.0, n.1)) (c, rest) p.1 in
        let g = guard_ok (ltb (length bytes) 8) (Cut place) (Ok (from_le_bytes w64 (take 8 bytes), drop 8 bytes)) step.0 step.1 in
        let is = ok_is (from_le_bytes w64 (take 8 bytes), drop 8 bytes) step.0 g.1 in
        let made : TakesContent wire bytes (eight (from_le_bytes w64 (take 8 bytes))) (drop 8 bytes) = takes_fixed wire 8 bytes (eight (from_le_bytes w64 (take 8 bytes))) (ltb-false (length bytes) 8 g.0) (eqb-true wire 1 p.0) (λ l. (l, refl)) in
        subst (λ (x : Content × List ℕ). TakesContent wire bytes x.0 x.1) (ap (λ (x : ℕ × List ℕ). (eight x.0, x.1)) is ∙ ok_is (eight step.0.0, step.0.1) (c, rest) step.2) made
    | inr p1 ↦ elim (chosen (eqb wire 2) _ _ _ p1.1) [
      | inl p ↦
          let step = bind_ok (text_at place bytes) (λ t. Ok (text t.0, t.1)) (c, rest) p.1 in
          let t = text_takes place bytes step.0.0 step.0.1 step.1 in
          let made : TakesContent wire bytes (text step.0.0) step.0.1 = record {
            front = t.front ++ step.0.0;
            parts = t.parts ∙ sym (append_assoc t.front step.0.0 step.0.1);
            wire_is = eqb-true wire 2 p.0;
            spelled = (t.front, refl, t.counted);
          } in
          subst (λ (x : Content × List ℕ). TakesContent wire bytes x.0 x.1) (ok_is (text step.0.0, step.0.1) (c, rest) step.2) made
      | inr p2 ↦ elim (chosen (eqb wire 5) _ _ _ p2.1) [
        | inl p ↦
            let step = bind_ok (cond (ltb (length bytes) 4) (Err (Cut place)) (Ok (from_le_bytes w32 (take 4 bytes), drop 4 bytes))) (λ n. Ok (four n.0, n.1)) (c, rest) p.1 in
            let g = guard_ok (ltb (length bytes) 4) (Cut place) (Ok (from_le_bytes w32 (take 4 bytes), drop 4 bytes)) step.0 step.1 in
            let is = ok_is (from_le_bytes w32 (take 4 bytes), drop 4 bytes) step.0 g.1 in
            let made : TakesContent wire bytes (four (from_le_bytes w32 (take 4 bytes))) (drop 4 bytes) = takes_fixed wire 4 bytes (four (from_le_bytes w32 (take 4 bytes))) (ltb-false (length bytes) 4 g.0) (eqb-true wire 5 p.0) (λ l. (l, refl)) in
            subst (λ (x : Content × List ℕ). TakesContent wire bytes x.0 x.1) (ap (λ (x : ℕ × List ℕ). (four x.0, x.1)) is ∙ ok_is (four step.0.0, step.0.1) (c, rest) step.2) made
        | inr p3 ↦ elim (chosen (ltb 5 wire) _ _ _ p3.1) [ inl p ↦ absurd cc | inr p ↦ absurd cc ]
      ]
    ]
  ]
]

pub content_again : (place : ℕ) (front rest : List ℕ) (c : Content) → IsContent front c → content_at place (wire_type c) (front ++ rest) ≡ Ok (c, rest)
unfolding content_at eight_at four_at
content_again place front rest (varint n) v = rw (is_varint_again place front rest n v) refl
content_again place front rest (eight n) v =
    let enough : ltb (length (front ++ rest)) 8 ≡ false = le-ltb (length (front ++ rest)) 8 (omega (arith, length-append front rest, v.0)) in
    rw (enough, take_at front rest 8 v.0, drop_at front rest 8 v.0) (ap (λ (x : ℕ). Ok (eight x, rest)) (sym v.1))
content_again place front rest (text inner) v =
    let regrouped : front ++ rest ≡ v.0 ++ (inner ++ rest) = ap (λ (x : List ℕ). x ++ rest) v.1 ∙ append_assoc v.0 inner rest in
    rw (regrouped, text_again place v.0 inner rest v.2) refl
content_again place front rest (four n) v =
    let enough : ltb (length (front ++ rest)) 4 ≡ false = le-ltb (length (front ++ rest)) 4 (omega (arith, length-append front rest, v.0)) in
    rw (enough, take_at front rest 4 v.0, drop_at front rest 4 v.0) (ap (λ (x : ℕ). Ok (four x, rest)) (sym v.1))
