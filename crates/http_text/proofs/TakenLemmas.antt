-- Which answers are right for the bytes that have come.
use Rattle.std.proofs.Common.{◌≡◌, ◌≢◌, ℕ, ◌+◌, ◌-◌, ◌≤◌, inl, inr, Bool, true, false, cond, ltb, leb, List, [], ◌++◌, length, take, drop, Option, Some, None, refl, sym, ap, ap₂, subst, ◌∙◌, arith, append_assoc, length-append}
use Rattle.std.proofs.lemmas.Bool.{leb-true, le-leb}
use Rattle.std.proofs.lemmas.List.{take-append-drop, length-take-le}
use Rattle.std.proofs.Math.Seq.{take-append-add}
use Rattle.httparse.specs.declared.Error.{Error}
use Rattle.httparse.specs.declared.Error.TheVariants.{TooManyHeaders}
use Rattle.httparse.specs.Grammar.{RequestHead, print_request, ReadsRequest, HasNoRequest, NeverHasRequest}
use Rattle.httparse.specs.Spans.{RequestExceeds}
use Rattle.httparse.proofs.GrammarLemmas.{ReadsRequest-append}
use Rattle.http_text.specs.declared.taken.Taken.{Taken}
use Rattle.http_text.specs.declared.taken.Taken.TheVariants.{Whole, NotYet, Refused}
use Rattle.http_text.specs.Request.{refusal_of_head, body_len, front_of, IsWhole, IsWholeWith}
use Rattle.http_text.specs.Taken.{Takes, HasHead, IsOpen, IsHopeless, taken_of, needed, open_taken}
use Rattle.http_text.proofs.HeadLemmas.{one_head, hope, front_len, no_request_exceeds}

-- an open head has hope
open_hope : (bytes : List ℕ) → IsOpen bytes → IsHopeless bytes → ⊥
open_hope bytes (none, inl (more, h, reads)) never = never.0 more h [] reads
open_hope bytes (none, inr ends) never = never.1 ends

pub one_answer : (bytes : List ℕ) (a b : Taken) → Takes bytes a → Takes bytes b → a ≡ b
one_answer bytes a b (inl (h, has, is)) (inl (k, has', is')) =
    is ∙ ap (λ (x : RequestHead). taken_of (refusal_of_head x) (needed x) (length bytes)) (one_head bytes h k has has') ∙ sym is'
one_answer bytes a b (inl (h, has, is)) (inr (inl (none, is'))) = absurd (none.0 h has.0 has.1)
one_answer bytes a b (inl (h, has, is)) (inr (inr (never, is'))) = absurd (hope bytes h has never)
one_answer bytes a b (inr (inl (none, is))) (inl (k, has', is')) = absurd (none.0 k has'.0 has'.1)
one_answer bytes a b (inr (inl (none, is))) (inr (inl (none', is'))) = is ∙ sym is'
one_answer bytes a b (inr (inl (none, is))) (inr (inr (never, is'))) = absurd (open_hope bytes none never)
one_answer bytes a b (inr (inr (never, is))) (inl (k, has', is')) = absurd (hope bytes k has' never)
one_answer bytes a b (inr (inr (never, is))) (inr (inl (none', is'))) = absurd (open_hope bytes none' never)
one_answer bytes a b (inr (inr (never, is))) (inr (inr (never', is'))) = is ∙ sym is'

-- ---- whole requests

parts : (bytes : List ℕ) → bytes ≡ front_of bytes ++ drop 16_384 bytes
unfolding front_of
parts bytes = sym (take-append-drop 16_384 bytes)

-- after the head in the first bytes comes the rest of the bytes
behind_head : (bytes : List ℕ) (h : RequestHead) (rest : List ℕ) → ReadsRequest (front_of bytes) h rest → bytes ≡ print_request h ++ (rest ++ drop 16_384 bytes)
behind_head bytes h rest reads =
    parts bytes ∙ ap (λ (x : List ℕ). x ++ drop 16_384 bytes) reads.1 ∙ append_assoc (print_request h) rest (drop 16_384 bytes)

head_fits : (bytes : List ℕ) (h : RequestHead) (rest : List ℕ) → ReadsRequest (front_of bytes) h rest → length (print_request h) ≤ 16_384
head_fits bytes h rest reads =
    let limit = front_len bytes in
    let len : length (front_of bytes) ≡ length (print_request h) + length rest = ap length reads.1 ∙ length-append (print_request h) rest in
    omega arith

-- the head and the body that it says, at the front of the bytes
cut : (bytes : List ℕ) (h : RequestHead) (after : List ℕ) (n : ℕ) → bytes ≡ print_request h ++ after → n ≡ needed h → take n bytes ≡ print_request h ++ take (body_len h) after
cut bytes h after n e is = ap₂ take is e ∙ take-append-add (print_request h) after (body_len h)

long_enough : (bytes : List ℕ) (h : RequestHead) (after : List ℕ) → bytes ≡ print_request h ++ after → needed h ≤ length bytes → body_len h ≤ length after
long_enough bytes h after e le =
    let len : length bytes ≡ length (print_request h) + length after = ap length e ∙ length-append (print_request h) after in
    omega arith

complete : (b : Bool) (most n : ℕ) → Whole n ≡ cond b (Whole most) NotYet → (b ≡ true) × (n ≡ most)
complete true most n e = (refl, cc)
complete false most n e = absurd (cc)

-- where the answer is a whole request, the head is not refused and its body is there
whole_of : (refusal : Option ℕ) (most got n : ℕ) → Whole n ≡ taken_of refusal most got → (refusal ≡ None) × (n ≡ most) × (most ≤ got)
whole_of (Some status) most got n e = absurd (cc)
whole_of None most got n e =
    let is = complete (leb most got) most n e in
    (refl, is.1, leb-true most got is.0)

not_open : (got n : ℕ) → Whole n ≡ open_taken got → ⊥
not_open got n e = decided (ltb got 16_384) e
  where
    decided : (b : Bool) → Whole n ≡ cond b NotYet (Refused 431) → ⊥
    decided true e = cc
    decided false e = cc

pub whole_is : (bytes : List ℕ) (n : ℕ) → Takes bytes (Whole n) → (n ≤ length bytes) × IsWhole (take n bytes)
whole_is bytes n (inl (h, (rest, reads), is)) =
    let whole = whole_of (refusal_of_head h) (needed h) (length bytes) n is in
    let after : List ℕ = rest ++ drop 16_384 bytes in
    let e = behind_head bytes h rest reads in
    let enough = long_enough bytes h after e whole.2 in (
      omega (arith, whole.1, whole.2),
      (
        h,
        take (body_len h) after,
        record {
          reads = (reads.0, cut bytes h after n e whole.1);
          head_fits = head_fits bytes h rest reads;
          accepted = whole.0;
          body_is = length-take-le (body_len h) after enough;
        },
      ),
    )
whole_is bytes n (inr (inl (none, is))) = absurd (not_open (length bytes) n is)
whole_is bytes n (inr (inr (never, is))) = absurd (cc)

-- the head of a whole request is at the front of the bytes
whole_head : (bytes : List ℕ) (n : ℕ) (h : RequestHead) (body : List ℕ) → IsWholeWith (take n bytes) h body → HasHead bytes h
unfolding front_of
whole_head bytes n h body is =
    let rest : List ℕ = body ++ drop n bytes in
    let e : bytes ≡ print_request h ++ rest = sym (take-append-drop n bytes) ∙ ap (λ (x : List ℕ). x ++ drop n bytes) is.reads.1 ∙ append_assoc (print_request h) body (drop n bytes) in
    let fits = is.head_fits in
    let k : 16_384 ≡ length (print_request h) + (16_384 - length (print_request h)) = omega (arith, fits) in
    (take (16_384 - length (print_request h)) rest, (is.reads.0, ap₂ take k e ∙ take-append-add (print_request h) rest (16_384 - length (print_request h))))

accepted : (refusal : Option ℕ) (most got : ℕ) → refusal ≡ None → most ≤ got → taken_of refusal most got ≡ Whole most
accepted (Some status) most got e le = absurd (cc)
accepted None most got e le = ap (λ (b : Bool). cond b (Whole most) NotYet) (le-leb most got le)

pub is_taken : (bytes : List ℕ) (n : ℕ) → n ≤ length bytes → IsWhole (take n bytes) → Takes bytes (Whole n)
is_taken bytes n le (h, body, is) =
    let len : n ≡ needed h = sym (length-take-le n bytes le) ∙ ap length is.reads.1 ∙ length-append (print_request h) body ∙ ap (λ (m : ℕ). length (print_request h) + m) is.body_is in
    let enough : needed h ≤ length bytes = omega (arith, len, le) in
    inl (h, whole_head bytes n h body is, ap Whole len ∙ sym (accepted (refusal_of_head h) (needed h) (length bytes) is.accepted enough))

pub every_whole : (bytes : List ℕ) (taken : Taken) (n : ℕ) → Takes bytes taken → n ≤ length bytes → IsWhole (take n bytes) → taken ≡ Whole n
every_whole bytes taken n is le whole = one_answer bytes taken (Whole n) is (is_taken bytes n le whole)

-- ---- what the parser refuses

pub refused_is : (bytes front : List ℕ) (e : Error) → front ≡ front_of bytes → (e ≢ TooManyHeaders → NeverHasRequest front) → (e ≡ TooManyHeaders → RequestExceeds 5_500 front) → NeverHasRequest (front_of bytes)
refused_is bytes front e is invalid many =
    subst NeverHasRequest is (invalid (λ same. no_request_exceeds bytes (subst (RequestExceeds 5_500) is (many same))))

-- no bytes make a head of it
pub no_head : (front : List ℕ) → NeverHasRequest front → HasNoRequest front
no_head front never h rest reads = never [] h (rest ++ []) (ReadsRequest-append front h rest [] reads)
