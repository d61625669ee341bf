-- What is taken of what is at the front of the bytes, and how many bytes another answer needs.
use Rattle.std.proofs.Common.{◌≡◌, ◌≢◌, ℕ, suc, ◌+◌, ◌<◌, ◌⊎◌, inl, inr, Bool, cond, List, [], ◌∷◌, ◌++◌, length, Option, Some, None, refl, sym, ap, subst, ◌∙◌, arith, add-one, append-nil, length-append}
use Rattle.std.proofs.lemmas.Bool.{cases_lt, lt-ltb, le-ltb, le-leb, lt-leb}
use Rattle.httparse.specs.Grammar.{RequestHead, NeverHasRequest, EndsInTarget}
use Rattle.http_text.specs.declared.start.Start.{Start}
use Rattle.http_text.specs.declared.start.Start.TheVariants as starts
use Rattle.http_text.specs.declared.taken.Taken.TheVariants.{Whole, NotYet, Refused}
use Rattle.http_text.specs.Request.{refusal_of_head, front_of}
use Rattle.http_text.specs.Start.{IsStart, judged, start_taken, start_waits}
use Rattle.http_text.specs.Taken.{Takes, HasHead, IsOpen, WaitsFor, taken_of, needed, with_body, open_taken}
use Rattle.http_text.proofs.HeadLemmas.{one_head, hope}
use Rattle.http_text.proofs.StayLemmas.{head_stays}
use Rattle.http_text.proofs.TakenLemmas.{no_head}

-- what is there where no bytes make a head: by whether the target is still being read
pub without_head_is : (bytes front : List ℕ) (start : Start) → front ≡ front_of bytes → NeverHasRequest (front_of bytes)
    → (EndsInTarget front × (start ≡ starts.Open)) ⊎ ((¬ (EndsInTarget front)) × (start ≡ starts.Refused 400)) → IsStart bytes start
without_head_is bytes front start is never (inl (ends, is')) =
    inr (inl ((no_head (front_of bytes) never, inr (subst EndsInTarget is ends)), is'))
without_head_is bytes front start is never (inr (ended, is')) =
    inr (inr ((never, λ ends. ended (subst EndsInTarget (sym is) ends)), is'))

judged_taken : (refusal : Option ℕ) (most got : ℕ) → start_taken (judged refusal most) got ≡ taken_of refusal most got
judged_taken None most got = refl
judged_taken (Some status) most got = refl

pub takes_start : (bytes : List ℕ) (start : Start) → IsStart bytes start → Takes bytes (start_taken start (length bytes))
takes_start bytes start (inl (h, has, is)) =
    inl (h, has, ap (λ (s : Start). start_taken s (length bytes)) is ∙ judged_taken (refusal_of_head h) (needed h) (length bytes))
takes_start bytes start (inr (inl (none, is))) = inr (inl (none, ap (λ (s : Start). start_taken s (length bytes)) is))
takes_start bytes start (inr (inr (never, is))) = inr (inr (never, ap (λ (s : Start). start_taken s (length bytes)) is))

-- ---- "not yet"

-- after it the body is still to come, or the head is
body_waits : (most got : ℕ) → with_body most got ≡ NotYet → (got < most) × (start_waits (starts.Head most) got ≡ most)
body_waits most got e =
    elim (cases_lt got most) [
      | inl lt ↦ (lt, ap (λ (t : Bool). cond t most 0) (lt-ltb got most lt))
      | inr ge ↦ absurd (whole_not (sym (ap (λ (t : Bool). cond t (Whole most) NotYet) (le-leb most got ge)) ∙ e))
    ]
  where
    whole_not : Whole most ≡ NotYet → ⊥
    whole_not e = cc

open_waits : (got : ℕ) → open_taken got ≡ NotYet → start_waits starts.Open got ≡ suc got
open_waits got e =
    elim (cases_lt got 16_384) [
      | inl lt ↦ ap (λ (t : Bool). cond t (suc got) 0) (lt-ltb got 16_384 lt)
      | inr ge ↦ absurd (refused_not (sym (ap (λ (t : Bool). cond t NotYet (Refused 431)) (le-ltb got 16_384 ge)) ∙ e))
    ]
  where
    refused_not : Refused 431 ≡ NotYet → ⊥
    refused_not e = cc

nothing : (xs : List ℕ) → length xs < 1 → xs ≡ []
nothing [] lt = refl
nothing (x ∷ xs) lt = absurd (omega arith)

late : (most got : ℕ) → got < most → with_body most got ≡ NotYet
late most got lt = ap (λ (t : Bool). cond t (Whole most) NotYet) (lt-leb most got lt)

-- a head with its body still to come waits for it
head_waits : (bytes : List ℕ) (h : RequestHead) (refusal : Option ℕ) → HasHead bytes h → refusal ≡ refusal_of_head h → start_taken (judged refusal (needed h)) (length bytes) ≡ NotYet
    → (start_waits (judged refusal (needed h)) (length bytes) ≡ needed h) × WaitsFor bytes (needed h)
head_waits bytes h (Some status) has is e = absurd (cc)
head_waits bytes h None has is e = (
  (body_waits (needed h) (length bytes) e).1,
  λ more lt. inl (h, head_stays bytes more h has, sym (ap (λ (r : Option ℕ). taken_of r (needed h) (length (bytes ++ more))) (sym is) ∙ late (needed h) (length (bytes ++ more)) lt)),
)

pub waits_start : (bytes : List ℕ) (start : Start) → IsStart bytes start → start_taken start (length bytes) ≡ NotYet → WaitsFor bytes (start_waits start (length bytes))
waits_start bytes start (inl (h, has, is)) e =
    let waits = head_waits bytes h (refusal_of_head h) has refl (ap (λ (s : Start). start_taken s (length bytes)) (sym is) ∙ e) in
    subst (WaitsFor bytes) (sym (ap (λ (s : Start). start_waits s (length bytes)) is ∙ waits.0)) waits.1
waits_start bytes start (inr (inl (none, is))) e = λ more lt.
    let later = ap (λ (s : Start). start_taken s (length bytes)) (sym is) ∙ e in
    let waits = ap (λ (s : Start). start_waits s (length bytes)) is ∙ open_waits (length bytes) later in
    let empty = nothing more (omega (arith, lt, waits, length-append bytes more)) in
    subst (λ (x : List ℕ). Takes x NotYet) (sym (append-nil bytes) ∙ ap (λ (x : List ℕ). bytes ++ x) (sym empty)) (inr (inl (none, sym later)))
waits_start bytes start (inr (inr (never, is))) e = absurd (refused_not (ap (λ (s : Start). start_taken s (length bytes)) (sym is) ∙ e))
  where
    refused_not : Refused 400 ≡ NotYet → ⊥
    refused_not e = cc

pub needs_start : (bytes : List ℕ) (start : Start) → IsStart bytes start → start_taken start (length bytes) ≡ NotYet → (h : RequestHead) → HasHead bytes h → start_waits start (length bytes) ≡ needed h
needs_start bytes start (inl (k, has, is)) e h here =
    let waits = head_waits bytes k (refusal_of_head k) has refl (ap (λ (s : Start). start_taken s (length bytes)) (sym is) ∙ e) in
    ap (λ (s : Start). start_waits s (length bytes)) is ∙ waits.0 ∙ ap needed (one_head bytes k h has here)
needs_start bytes start (inr (inl (none, is))) e h here = absurd (none.0 h here.0 here.1)
needs_start bytes start (inr (inr (never, is))) e h here = absurd (hope bytes h here never)

-- an open head waits for one more byte
pub opens_start : (bytes : List ℕ) (start : Start) → IsStart bytes start → start_taken start (length bytes) ≡ NotYet → IsOpen bytes → start_waits start (length bytes) ≡ length bytes + 1
opens_start bytes start (inl (h, has, is)) e none = absurd (none.0 h has.0 has.1)
opens_start bytes start (inr (inl (none, is))) e here =
    ap (λ (s : Start). start_waits s (length bytes)) is
    ∙ open_waits (length bytes) (ap (λ (s : Start). start_taken s (length bytes)) (sym is) ∙ e) ∙ sym (add-one (length bytes))
opens_start bytes start (inr (inr (never, is))) e here = absurd (refused_not (ap (λ (s : Start). start_taken s (length bytes)) (sym is) ∙ e))
  where
    refused_not : Refused 400 ≡ NotYet → ⊥
    refused_not e = cc

-- after any other answer nothing is waited for
pub rests_start : (start : Start) (got : ℕ) → start_taken start got ≢ NotYet → start_waits start got ≡ 0
rests_start (starts.Head most) got other =
    elim (cases_lt got most) [
      | inl lt ↦ absurd (other (late most got lt))
      | inr ge ↦ ap (λ (t : Bool). cond t most 0) (le-ltb got most ge)
    ]
rests_start starts.Open got other =
    elim (cases_lt got 16_384) [
      | inl lt ↦ absurd (other (ap (λ (t : Bool). cond t NotYet (Refused 431)) (lt-ltb got 16_384 lt)))
      | inr ge ↦ ap (λ (t : Bool). cond t (suc got) 0) (le-ltb got 16_384 ge)
    ]
rests_start (starts.Refused status) got other = refl
