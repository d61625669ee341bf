-- Bytes say one request, and one reply or one first fault; and no bytes say none of these two.
use Rattle.std.proofs.Common.{◌≡◌, ℕ, ◌+◌, ◌≤◌, inl, inr, List, ◌++◌, length, take, drop, codes, Option, Some, None, Result, Ok, Err, refl, sym, ap, subst, ◌∙◌, arith, append-nil}
use Rattle.std.proofs.lemmas.Bool.{cases_lt}
use Rattle.std.proofs.lemmas.List.{take-append-drop, take-append-le, take_at}
use Rattle.httparse.specs.Grammar.{ResponseHead, print_response, status_code, HasNoResponse, NeverHasResponse, MayBecomeResponse}
use Rattle.httparse.proofs.GrammarLemmas.{request_unique}
use Rattle.lc_time.proofs.OneTextLemmas.{one_http_moment}
use Rattle.http_text.specs.declared.reply.Reply.{Reply}
use Rattle.http_text.specs.declared.reply_fault.ReplyFault.{ReplyFault}
use Rattle.http_text.specs.declared.reply_fault.ReplyFault.TheVariants as faults
use Rattle.http_text.specs.declared.request.Request.{Request}
use Rattle.http_text.specs.Fields.{FieldText, texts_of, values_of}
use Rattle.http_text.specs.Length.{length_of, said_or}
use Rattle.http_text.specs.Reply.{first_of, IsTextOf, IsMomentOf, SaysOf, fault_of, behind, open_fault, HasReplyHead, IsRead}
use Rattle.http_text.specs.Request.{front_of, request_of, IsWholeRequest}
use Rattle.http_text.proofs.HeadLemmas.{one_reply_head}
use Rattle.http_text.proofs.ReplyLemmas.{faultless, one_fault}

-- ---- at most one

pub one_request : (bytes : List ℕ) (a b : Request) → IsWholeRequest bytes a → IsWholeRequest bytes b → a ≡ b
one_request bytes a b (h, body, whole, is) (k, body', whole', is') =
    is ∙ ap request_of (request_unique bytes h k body body' whole.reads whole'.reads).0 ∙ sym is'

one_text : (value a b : Option (List ℕ)) → IsTextOf value a → IsTextOf value b → a ≡ b
one_text None a b is is' = is ∙ sym is'
one_text (Some value) None None is is' = refl
one_text (Some value) None (Some t) is is' = absurd (is is'.0)
one_text (Some value) (Some t) None is is' = absurd (is' is.0)
one_text (Some value) (Some t) (Some t') is is' = ap Some (is.1 ∙ sym is'.1)

one_moment : (value : Option (List ℕ)) (a b : Option ℕ) → IsMomentOf value a → IsMomentOf value b → a ≡ b
one_moment None a b is is' = is ∙ sym is'
one_moment (Some value) None None is is' = refl
one_moment (Some value) None (Some m) is is' = absurd (is m is')
one_moment (Some value) (Some m) None is is' = absurd (is' m is)
one_moment (Some value) (Some m) (Some m') is is' = ap Some (one_http_moment value m m' is is')

one_said : (status len got : ℕ) (fields : List FieldText) (a b : Reply) → SaysOf status len got fields a → SaysOf status len got fields b → a ≡ b
one_said status len got fields a b is is' =
    let location = one_text (first_of (values_of (codes "location") fields)) a.location b.location is.location_is is'.location_is in
    let memento = one_moment (first_of (values_of (codes "memento-datetime") fields)) a.memento b.memento is.memento_is is'.memento_is in
    let status_same = is.status_is ∙ sym is'.status_is in
    let from_same = is.body_from_is ∙ sym is'.body_from_is in
    let to_same = is.body_to_is ∙ sym is'.body_to_is in
    λ i. record { status = status_same i; location = location i; memento = memento i; body_from = from_same i; body_to = to_same i }

pub one_read : (bytes : List ℕ) (a b : Result Reply ReplyFault) → IsRead bytes a → IsRead bytes b → a ≡ b
one_read bytes (Ok a) (Ok b) (h, has, none, is) (k, has', none', is') =
    let same = one_reply_head bytes h k has has' in
    let there = subst (λ (x : ResponseHead). SaysOf (status_code x) (length (print_response x)) (behind bytes x) (texts_of x.fields) b) (sym same) is' in
    ap Ok (one_said (status_code h) (length (print_response h)) (behind bytes h) (texts_of h.fields) a b is there)
one_read bytes (Ok a) (Err g) is is' = absurd (faultless bytes a g is is')
one_read bytes (Err f) (Ok b) is is' = absurd (faultless bytes b f is' is)
one_read bytes (Err f) (Err g) is is' = ap Err (one_fault bytes f g is is')

-- ---- not none

some_text : (value : Option (List ℕ)) → ((text : Option (List ℕ)) → IsTextOf value text → ⊥) → ⊥
some_text None ruled = ruled None refl
some_text (Some value) ruled = ruled None (λ utf8. ruled (Some value) (utf8, refl))

some_moment : (value : Option (List ℕ)) → ((moment : Option ℕ) → IsMomentOf value moment → ⊥) → ⊥
some_moment None ruled = ruled None refl
some_moment (Some value) ruled = ruled None (λ m says. ruled (Some m) says)

some_said : (status len got : ℕ) (fields : List FieldText) → ((reply : Reply) → SaysOf status len got fields reply → ⊥) → ⊥
some_said status len got fields ruled =
    some_text (first_of (values_of (codes "location") fields)) (λ location is. some_moment (first_of (values_of (codes "memento-datetime") fields)) (λ memento is'.
    ruled (record { status = status; location = location; memento = memento; body_from = len; body_to = len + said_or (length_of fields) got })
    (record { status_is = refl; location_is = is; memento_is = is'; body_from_is = refl; body_to_is = refl })))

-- a head has a fault, or says something
of_head : (bytes : List ℕ) (h : ResponseHead) → HasReplyHead bytes h → ((read : Result Reply ReplyFault) → IsRead bytes read → ⊥) → ⊥
of_head bytes h has ruled = by (fault_of (texts_of h.fields) (behind bytes h)) refl
  where
    by : (o : Option ReplyFault) → fault_of (texts_of h.fields) (behind bytes h) ≡ o → ⊥
    by (Some fault) e = ruled (Err fault) (inr (h, has, e))
    by None e = some_said (status_code h) (length (print_response h)) (behind bytes h) (texts_of h.fields) (λ reply is. ruled (Ok reply) (h, has, e, is))

-- of two ways to part bytes, the longer front has the shorter at its front
longer : (a b c d : List ℕ) → a ++ b ≡ c ++ d → length c ≤ length a → a ≡ c ++ drop (length c) a
longer a b c d e le =
    let front : take (length c) a ≡ c = sym (take-append-le (length c) a b le) ∙ ap (take (length c)) e ∙ take_at c d (length c) refl in
    sym (take-append-drop (length c) a) ∙ ap (λ (x : List ℕ). x ++ drop (length c) a) front

-- where no head is there and none may follow, none will
never : (front : List ℕ) → HasNoResponse front → (MayBecomeResponse front → ⊥) → NeverHasResponse front
never front none ruled more h rest (is, e) =
    elim (cases_lt (length front) (length (print_response h))) [
      | inl lt ↦ ruled (
        drop (length front) (print_response h),
        h,
        (is, sym (longer (print_response h) rest front more (sym e) (omega arith)) ∙ sym (append-nil (print_response h))),
      )
      | inr ge ↦ none h (drop (length (print_response h)) front) (is, longer front more (print_response h) rest e ge)
    ]

pub some_read : (bytes : List ℕ) → ((read : Result Reply ReplyFault) → IsRead bytes read → ⊥) → ⊥
some_read bytes ruled =
    let none : HasNoResponse (front_of bytes) = λ h rest reads. of_head bytes h (rest, reads) ruled in
    let nothing : NeverHasResponse (front_of bytes) = never (front_of bytes) none (λ may. ruled (Err (open_fault (length bytes))) (inl (inr (none, may, refl)))) in
    ruled (Err faults.Head) (inl (inl (nothing, refl)))
