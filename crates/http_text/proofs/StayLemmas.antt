-- What is taken stays under more bytes.
use Rattle.std.proofs.Common.{◌≡◌, ◌≢◌, ℕ, ◌+◌, ◌-◌, ◌≤◌, inl, inr, Bool, true, false, cond, leb, List, [], ◌++◌, length, take, Option, Some, None, refl, sym, ap, subst, ◌∙◌, arith, append_assoc, append-nil, length-append}
use Rattle.std.proofs.lemmas.Bool.{cases_lt, leb-true, le-leb, lt-ltb, le-ltb}
use Rattle.std.proofs.lemmas.List.{take_all, take-append-le}
use Rattle.std.proofs.Math.Seq.{take-append-add}
use Rattle.httparse.specs.Grammar.{RequestHead, ReadsRequest, HasNoRequest, MayBecomeRequest, NeverHasRequest, EndsInTarget}
use Rattle.httparse.proofs.GrammarLemmas.{ReadsRequest-append}
use Rattle.http_text.specs.declared.taken.Taken.{Taken}
use Rattle.http_text.specs.declared.taken.Taken.TheVariants.{Whole, NotYet, Refused}
use Rattle.http_text.specs.Request.{refusal_of_head, front_of}
use Rattle.http_text.specs.Taken.{Takes, HasHead, IsHopeless, taken_of, needed, open_taken}
use Rattle.http_text.proofs.OpenLemmas.{ended_before}
use Rattle.http_text.proofs.TakenLemmas.{whole_is}

-- ---- the first bytes

record Longer (bytes more : List ℕ) : Type 0 where
  rest : List ℕ
  front_is : front_of (bytes ++ more) ≡ front_of bytes ++ rest

full : (bytes more : List ℕ) → 16_384 ≤ length bytes → front_of (bytes ++ more) ≡ front_of bytes
unfolding front_of
full bytes more le = take-append-le 16_384 bytes more le

longer : (bytes more : List ℕ) → Longer bytes more
unfolding front_of
longer bytes more =
    elim (cases_lt (length bytes) 16_384) [
      | inl lt ↦ let k : 16_384 ≡ length bytes + (16_384 - length bytes) = omega (arith, lt) in record {
        rest = take (16_384 - length bytes) more;
        front_is =
            ap (λ (n : ℕ). take n (bytes ++ more)) k ∙ take-append-add bytes more (16_384 - length bytes)
            ∙ ap (λ (x : List ℕ). x ++ take (16_384 - length bytes) more) (sym (take_all 16_384 bytes (omega (arith, lt))));
      }
      | inr ge ↦ record { rest = []; front_is = take-append-le 16_384 bytes more ge ∙ sym (append-nil (take 16_384 bytes)) }
    ]

pub head_stays : (bytes more : List ℕ) (h : RequestHead) → HasHead bytes h → HasHead (bytes ++ more) h
head_stays bytes more h (rest, reads) =
    let l = longer bytes more in
    (rest ++ l.rest, subst (λ (x : List ℕ). ReadsRequest x h (rest ++ l.rest)) (sym l.front_is) (ReadsRequest-append (front_of bytes) h rest l.rest reads))

never_stays : (front rest : List ℕ) → NeverHasRequest front → NeverHasRequest (front ++ rest)
never_stays front rest never more h after reads = never (rest ++ more) h after (subst (λ (x : List ℕ). ReadsRequest x h after) (append_assoc front rest more) reads)

hopeless_stays : (bytes more : List ℕ) → IsHopeless bytes → IsHopeless (bytes ++ more)
hopeless_stays bytes more (never, ended) =
    let l = longer bytes more in (
      subst NeverHasRequest (sym l.front_is) (never_stays (front_of bytes) l.rest never),
      λ ends. ended (ended_before (front_of bytes) l.rest never (subst EndsInTarget l.front_is ends)),
    )

-- ---- the answers

of_head : (refusal : Option ℕ) (most got more : ℕ) (taken : Taken) → taken ≡ taken_of refusal most got → taken ≢ NotYet → taken ≡ taken_of refusal most (got + more)
of_head (Some status) most got more taken is other = is
of_head None most got more taken is other = at (leb most got) refl is
  where
    at : (t : Bool) → leb most got ≡ t → taken ≡ cond t (Whole most) NotYet → taken ≡ taken_of None most (got + more)
    at true e is = let le = leb-true most got e in is ∙ sym (ap (λ (t : Bool). cond t (Whole most) NotYet) (le-leb most (got + more) (omega (arith, le))))
    at false e is = absurd (other is)

of_open : (got more : ℕ) (taken : Taken) → taken ≡ open_taken got → taken ≢ NotYet → (16_384 ≤ got) × (taken ≡ open_taken (got + more))
of_open got more taken is other =
    elim (cases_lt got 16_384) [
      | inl lt ↦ absurd (other (is ∙ ap (λ (t : Bool). cond t NotYet (Refused 431)) (lt-ltb got 16_384 lt)))
      | inr ge ↦ (
        ge,
        is ∙ ap (λ (t : Bool). cond t NotYet (Refused 431)) (le-ltb got 16_384 ge ∙ sym (le-ltb (got + more) 16_384 (omega (arith, ge)))),
      )
    ]

pub stays : (bytes more : List ℕ) (taken : Taken) → Takes bytes taken → taken ≢ NotYet → Takes (bytes ++ more) taken
stays bytes more taken (inl (h, has, is)) other =
    inl (h, head_stays bytes more h has, of_head (refusal_of_head h) (needed h) (length bytes) (length more) taken is other ∙ ap (taken_of (refusal_of_head h) (needed h)) (sym (length-append bytes more)))
stays bytes more taken (inr (inl (none, is))) other =
    let whole = of_open (length bytes) (length more) taken is other in
    let same = full bytes more whole.0 in
    inr (inl (subst (λ (x : List ℕ). HasNoRequest x × MayBecomeRequest x) (sym same) none, whole.1 ∙ ap open_taken (sym (length-append bytes more))))
stays bytes more taken (inr (inr (never, is))) other = inr (inr (hopeless_stays bytes more never, is))

pub same_bytes : (bytes more : List ℕ) (n : ℕ) → Takes bytes (Whole n) → take n (bytes ++ more) ≡ take n bytes
same_bytes bytes more n is = take-append-le n bytes more (whole_is bytes n is).0
