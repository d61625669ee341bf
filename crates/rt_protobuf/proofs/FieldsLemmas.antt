-- Reading a field gives what the grammar says, and nothing else.
use Rattle.std.proofs.Common.{◌≡◌, ℕ, ◌+◌, ◌*◌, ◌/◌, ◌%◌, ◌<◌, Bool, true, false, cond, eqb, ltb, ◌||◌, List, ◌++◌, length, Result, Ok, Err, refl, sym, ap, subst, ◌∙◌, append_assoc, arith, inl, inr, ◌⊎◌}
use Rattle.std.proofs.lemmas.Bool.{eqb-true, eqb-false, eq-eqb, ne_eqb, ltb-true, ltb-false, lt-ltb, le-ltb, or_cases, or_parts, or_left, or_right}
use Rattle.std.proofs.lemmas.List.{length-append}
use Rattle.std.proofs.lemmas.Nat.{div-add-mod'}
use Rattle.rt_protobuf.specs.declared.fault.WireFault.{WireFault}
use Rattle.rt_protobuf.specs.declared.fault.WireFault.TheVariants.{Cut, LongVarint, Group, BadField}
use Rattle.rt_protobuf.specs.Varint.{IsVarint, IsCutVarint, IsLongVarint}
use Rattle.rt_protobuf.specs.Grammar.{Content, wire_type, WireField, IsNumber, IsTag, IsField, IsBroken}
use Rattle.rt_protobuf.specs.Reading.{◌>>=◌, varint_at, content_at, field_at}
use Rattle.rt_protobuf.proofs.StepsLemmas.{bind_ok, bind_err, chosen, guard_ok, ok_is, err_is}
use Rattle.rt_protobuf.proofs.VarintsLemmas.{TakesVarint, varint_takes, cut, long, varint_fails, cut_again, long_again}
use Rattle.rt_protobuf.proofs.ContentsLemmas.{is_varint, is_varint_again, content_takes, content_again}
use Rattle.rt_protobuf.proofs.FaultsLemmas.{is_cut, is_long, is_bad, is_group, content_fails, content_cut_again, content_long_again, content_bad_again, content_group_again}

-- the test that a number is none
abbrev out_of_range : ℕ → Bool
out_of_range number = eqb number 0 || ltb 536_870_911 number

-- what is read after a tag
abbrev behind_tag : ℕ → ℕ → ℕ → List ℕ → Result (WireField × List ℕ) WireFault
behind_tag place number wire behind =
    cond (out_of_range number) (Err (BadField place)) (content_at place wire behind >>= λ c. Ok (record { number = number; content = c.0 }, c.1))

in_range : (number : ℕ) → IsNumber number → out_of_range number ≡ false
in_range number n = rw (ne_eqb number 0 (λ z. omega (arith, z, n.0)), le-ltb 536_870_911 number n.1) refl

is_in_range : (number : ℕ) → out_of_range number ≡ false → IsNumber number
is_in_range number e =
    let p = or_parts (eqb number 0) (ltb 536_870_911 number) e in
    (let ne : number ≡ 0 → ⊥ = eqb-false number 0 p.0 in omega arith, ltb-false 536_870_911 number p.1)

-- a tag read whole
is_tag : (bytes : List ℕ) (t : ℕ) (rest : List ℕ) (v : TakesVarint 10 bytes t rest) → IsTag v.front (t / 8) (t % 8)
is_tag bytes t rest v =
    (omega arith, subst (λ (n : ℕ). IsVarint v.front n) (sym (div-add-mod' t 8)) (is_varint bytes t rest v))

at_tag : (place number wire : ℕ) (tag behind : List ℕ) → IsTag tag number wire → field_at place (tag ++ behind) ≡ behind_tag place number wire behind
unfolding field_at
at_tag place number wire tag behind t =
    let number_is : (number * 8 + wire) / 8 ≡ number = omega (arith, t.0) in
    let wire_is : (number * 8 + wire) % 8 ≡ wire = omega (arith, t.0) in
    rw (is_varint_again place tag behind (number * 8 + wire) t.1, number_is, wire_is) refl

pub record TakesField (bytes : List ℕ) (f : WireField) (rest : List ℕ) : Type 0 where
  pub front : List ℕ
  pub parts : bytes ≡ front ++ rest
  pub some : 0 < length front
  pub spelled : IsField front f

pub field_takes : (place : ℕ) (bytes : List ℕ) (f : WireField) (rest : List ℕ) → field_at place bytes ≡ Ok (f, rest) → TakesField bytes f rest
unfolding field_at
field_takes place bytes f rest e =
    let step = bind_ok (varint_at place 10 bytes) (λ (t : ℕ × List ℕ). behind_tag place (t.0 / 8) (t.0 % 8) t.1) (f, rest) e in
    let t = step.0.0 in
    let behind = step.0.1 in
    let v = varint_takes place 10 bytes t behind step.1 in
    let g = guard_ok (out_of_range (t / 8)) (BadField place) (content_at place (t % 8) behind >>= λ c. Ok (record { number = t / 8; content = c.0 }, c.1)) (f, rest) step.2 in
    let held = bind_ok (content_at place (t % 8) behind) (λ (c : Content × List ℕ). Ok (record { number = t / 8; content = c.0 }, c.1)) (f, rest) g.1 in
    let c = content_takes place (t % 8) behind held.0.0 held.0.1 held.1 in
    let field : WireField = record { number = t / 8; content = held.0.0 } in
    let tag : IsTag v.front (t / 8) (wire_type held.0.0) = subst (λ (w : ℕ). IsTag v.front (t / 8) w) c.wire_is (is_tag bytes t behind v) in
    let made : TakesField bytes field held.0.1 = record {
      front = v.front ++ c.front;
      parts = v.parts ∙ ap (λ (x : List ℕ). v.front ++ x) c.parts ∙ sym (append_assoc v.front c.front held.0.1);
      some = omega (arith, length-append v.front c.front, v.some);
      spelled = (v.front, c.front, refl, tag, is_in_range (t / 8) g.0, c.spelled);
    } in
    subst (λ (x : WireField × List ℕ). TakesField bytes x.0 x.1) (ok_is (field, held.0.1) (f, rest) held.2) made

pub field_again : (place : ℕ) (front rest : List ℕ) (f : WireField) → IsField front f → field_at place (front ++ rest) ≡ Ok (f, rest)
field_again place front rest f s =
    let regrouped : front ++ rest ≡ s.0 ++ (s.1 ++ rest) = ap (λ (x : List ℕ). x ++ rest) s.2 ∙ append_assoc s.0 s.1 rest in
    ap (field_at place) regrouped ∙ at_tag place f.number (wire_type f.content) s.0 (s.1 ++ rest) s.3 ∙ rw (in_range f.number s.4, content_again place s.1 rest f.content s.5) refl

pub field_fails : (place : ℕ) (bytes : List ℕ) (fault : WireFault) → field_at place bytes ≡ Err fault → IsBroken place bytes fault
unfolding field_at
field_fails place bytes fault e = elim (bind_err (varint_at place 10 bytes) (λ (t : ℕ × List ℕ). behind_tag place (t.0 / 8) (t.0 % 8) t.1) fault e) [
  | inl f ↦ elim (varint_fails place 10 bytes fault f) [
    | cut is ends on ↦ subst (λ (x : WireFault). IsBroken place bytes x) (sym is) (refl, inl (ends, on))
    | long is more on ↦ subst (λ (x : WireFault). IsBroken place bytes x) (sym is) (refl, inl (more, on))
  ]
  | inr step ↦
      let t = step.0.0 in
      let behind = step.0.1 in
      let v = varint_takes place 10 bytes t behind step.1 in
      let tag = is_tag bytes t behind v in
      elim (chosen (out_of_range (t / 8)) (Err (BadField place)) (content_at place (t % 8) behind >>= λ c. Ok (record { number = t / 8; content = c.0 }, c.1)) (Err fault) step.2) [
        | inl p ↦
            let why : (t / 8 ≡ 0) ⊎ ((536_870_911 < t / 8) ⊎ (5 < t % 8)) = elim (or_cases (eqb (t / 8) 0) (ltb 536_870_911 (t / 8)) p.0) [ inl z ↦ inl (eqb-true (t / 8) 0 z) | inr z ↦ inr (inl (ltb-true 536_870_911 (t / 8) z)) ] in
            subst (λ (x : WireFault). IsBroken place bytes x) (err_is (WireField × List ℕ) (BadField place) fault p.1) (refl, (t / 8, t % 8, v.front, behind, v.parts, tag, why))
        | inr p ↦
            let number = is_in_range (t / 8) p.0 in
            elim (bind_err (content_at place (t % 8) behind) (λ (c : Content × List ℕ). Ok (record { number = t / 8; content = c.0 }, c.1)) fault p.1) [
              | inl f ↦ elim (content_fails place (t % 8) behind fault f) [
                | is_cut is why ↦ subst (λ (x : WireFault). IsBroken place bytes x) (sym is) (refl, inr (t / 8, t % 8, v.front, behind, v.parts, tag, (number, why)))
                | is_long is kind why ↦ subst (λ (x : WireFault). IsBroken place bytes x) (sym is) (refl, inr (t / 8, t % 8, v.front, behind, v.parts, tag, (number, kind, why)))
                | is_bad is why ↦ subst (λ (x : WireFault). IsBroken place bytes x) (sym is) (refl, (t / 8, t % 8, v.front, behind, v.parts, tag, inr (inr why)))
                | is_group is why ↦ subst (λ (x : WireFault). IsBroken place bytes x) (sym is) (refl, (t / 8, t % 8, v.front, behind, v.parts, tag, (number, why)))
              ]
              | inr held ↦ absurd cc
            ]
      ]
]

-- what comes after a good tag fails with this fault
fails_behind : (place number wire : ℕ) (tag behind bytes : List ℕ) (fault : WireFault) → bytes ≡ tag ++ behind → IsTag tag number wire → IsNumber number → content_at place wire behind ≡ Err fault → field_at place bytes ≡ Err fault
fails_behind place number wire tag behind bytes fault parts t n f =
    ap (field_at place) parts ∙ at_tag place number wire tag behind t ∙ rw (in_range number n, f) refl

broken_cut : (place : ℕ) (bytes : List ℕ) → IsCutVarint bytes → field_at place bytes ≡ Err (Cut place)
unfolding field_at
broken_cut place bytes v = rw (cut_again place 10 bytes v.0 v.1) refl

broken_long : (place : ℕ) (bytes : List ℕ) → IsLongVarint bytes → field_at place bytes ≡ Err (LongVarint place)
unfolding field_at
broken_long place bytes v = rw (long_again place 10 bytes v.0 v.1) refl

either_way : {X : Type 0} (b : Bool) (x : X) → cond b x x ≡ x
either_way true x = refl
either_way false x = refl

broken_bad : (place number wire : ℕ) (behind : List ℕ) → ((number ≡ 0) ⊎ ((536_870_911 < number) ⊎ (5 < wire))) → behind_tag place number wire behind ≡ Err (BadField place)
broken_bad place number wire behind why = elim why [
  | inl z ↦ rw (or_left (eqb number 0) (ltb 536_870_911 number) (eq-eqb number 0 z)) refl
  | inr w ↦ elim w [
    | inl lt ↦ rw (or_right (eqb number 0) (ltb 536_870_911 number) (lt-ltb 536_870_911 number lt)) refl
    | inr lt ↦ rw (content_bad_again place wire behind lt) (either_way (out_of_range number) (Err (BadField place)))
  ]
]

pub broken_again : (place : ℕ) (bytes : List ℕ) (fault : WireFault) → IsBroken place bytes fault → field_at place bytes ≡ Err fault
broken_again place bytes (Cut at) b = ap_at (λ x. Cut x) b.0 (elim b.1 [
  | inl v ↦ broken_cut place bytes v
  | inr t ↦ fails_behind place t.0 t.1 t.2 t.3 bytes (Cut place) t.4 t.5 t.6.0 (content_cut_again place t.1 t.3 t.6.1)
])
  where
    ap_at : (F : ℕ → WireFault) → at ≡ place → field_at place bytes ≡ Err (F place) → field_at place bytes ≡ Err (F at)
    ap_at F e r = r ∙ ap (λ (x : ℕ). Err (F x)) (sym e)
broken_again place bytes (LongVarint at) b = ap_at (λ x. LongVarint x) b.0 (elim b.1 [
  | inl v ↦ broken_long place bytes v
  | inr t ↦ fails_behind place t.0 t.1 t.2 t.3 bytes (LongVarint place) t.4 t.5 t.6.0 (content_long_again place t.1 t.3 t.6.1 t.6.2)
])
  where
    ap_at : (F : ℕ → WireFault) → at ≡ place → field_at place bytes ≡ Err (F place) → field_at place bytes ≡ Err (F at)
    ap_at F e r = r ∙ ap (λ (x : ℕ). Err (F x)) (sym e)
broken_again place bytes (Group at) b =
    fails_behind place b.1.0 b.1.1 b.1.2 b.1.3 bytes (Group place) b.1.4 b.1.5 b.1.6.0 (content_group_again place b.1.1 b.1.3 b.1.6.1) ∙ ap (λ (x : ℕ). Err (Group x)) (sym b.0)
broken_again place bytes (BadField at) b =
    ap (field_at place) b.1.4 ∙ at_tag place b.1.0 b.1.1 b.1.2 b.1.3 b.1.5 ∙ broken_bad place b.1.0 b.1.1 b.1.3 b.1.6 ∙ ap (λ (x : ℕ). Err (BadField x)) (sym b.0)
