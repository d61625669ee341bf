-- What is taken of bytes. No bytes are less than a request, a refusal has a reason, and a request is not longer than its limits.
use Rattle.std.proofs.Common.{◌≡◌, ℕ, ◌+◌, ◌<◌, ◌≤◌, inl, inr, Bool, true, false, ◌||◌, cond, ltb, leb, List, [], length, take, codes, Option, Some, None, refl, sym, ap, subst, ◌∙◌, arith, append-nil, length-append}
use Rattle.std.proofs.lemmas.Bool.{leb-false, ltb-false, ltb-true}
use Rattle.std.proofs.lemmas.List.{length-take-le}
use Rattle.std.proofs.lemmas.List.Elements.{All-nil}
use Rattle.std.proofs.lemmas.List.Sums.{AllPass-from_list_all}
use Rattle.std.proofs.lemmas.Str.{IsUtf8-from_ascii}
use Rattle.std.proofs.lemmas.Str.Ascii.{IsAscii-cons, IsAscii-nil}
use Rattle.httparse.specs.Grammar.{HasNoRequest, IsRequestHead, MayBecomeRequest, RequestHead, crlf, is_token_byte, is_uri_byte, print_request}
use Rattle.http_text.specs.declared.taken.Taken.TheVariants.{Whole, NotYet, Refused}
use Rattle.http_text.specs.Fields.{FieldText, texts_of}
use Rattle.http_text.specs.Length.{is_wrong, length_of, said_or}
use Rattle.http_text.specs.ReplyText.{HasReason}
use Rattle.http_text.specs.Request.{front_of, has_field, is_hostless, refusal_of, refusal_of_head}
use Rattle.http_text.specs.Target.{is_absolute_form, is_origin_form}
use Rattle.http_text.specs.Taken.{Takes, needed, open_taken, taken_of}
use Rattle.http_text.proofs.AskLemmas.{token}
use Rattle.http_text.proofs.HeadLemmas.{front_len}
use Rattle.http_text.proofs.TakenLemmas.{whole_is}

-- ---- no bytes are "not yet"

abbrev least_head : RequestHead
least_head = record {
  blank = [];
  method = codes "GET";
  target = codes "/";
  minor = 1;
  line_end = crlf;
  fields = [];
  last = crlf;
}

least_is_head : IsRequestHead least_head
unfolding is_token_byte
least_is_head = record {
  method = token (codes "GET") (omega arith) refl;
  target = (omega arith, AllPass-from_list_all is_uri_byte (codes "/") refl);
  target_text = IsUtf8-from_ascii _ (IsAscii-cons 47 [] (omega arith) IsAscii-nil);
  minor = omega arith;
  fields = All-nil _;
}

head_has_a_byte : (h : RequestHead) → 1 ≤ length (print_request h)
unfolding print_request
head_has_a_byte h = simp length-append (omega arith)

none_reads : HasNoRequest []
none_reads h rest (is, reads) =
    let some = head_has_a_byte h in
    let all : 0 ≡ length (print_request h) + length rest = ap length reads ∙ length-append (print_request h) rest in
    absurd (omega (arith, some, all))

may_become : MayBecomeRequest []
may_become = inl (print_request least_head, least_head, (least_is_head, sym (append-nil (print_request least_head))))

pub nothing_waits : Takes [] NotYet
unfolding front_of
nothing_waits = inr (inl ((none_reads, may_become), refl))

-- ---- a refusal has a reason

abbrev Reasoned : Option ℕ → Type 0
Reasoned None = Unit {0}
Reasoned (Some status) = HasReason status

reason_400 : HasReason 400
reason_400 e = cc

reason_411 : HasReason 411
reason_411 e = cc

reason_413 : HasReason 413
reason_413 e = cc

reason_431 : HasReason 431
reason_431 e = cc

-- whatever the six tests of a head say
tested : (fields coded wrong long hostless taken : Bool)
    → Reasoned (cond fields (Some 431) (cond coded (Some 411) (cond wrong (Some 400) (cond long (Some 413) (cond hostless (Some 400) (cond taken None (Some 400)))))))
tested true coded wrong long hostless taken = reason_431
tested false true wrong long hostless taken = reason_411
tested false false true long hostless taken = reason_400
tested false false false true hostless taken = reason_413
tested false false false false true taken = reason_400
tested false false false false false true = tt
tested false false false false false false = reason_400

refusal_is_reasoned : (minor : ℕ) (target : List ℕ) (fields : List FieldText) → Reasoned (refusal_of minor target fields)
refusal_is_reasoned minor target fields =
    tested (ltb 100 (length fields)) (has_field (codes "transfer-encoding") fields) (is_wrong (length_of fields)) (ltb 16_777_216 (said_or (length_of fields) 0))
    (is_hostless minor fields) (is_origin_form target || is_absolute_form target)

of_head : (refusal : Option ℕ) (needed got status : ℕ) → Reasoned refusal → Refused status ≡ taken_of refusal needed got → HasReason status
of_head None needed got status reason e = by (leb needed got) e
  where
    by : (b : Bool) → Refused status ≡ cond b (Whole needed) NotYet → HasReason status
    by true e = absurd (cc)
    by false e = absurd (cc)
of_head (Some other) needed got status reason e = let same : other ≡ status = cc in subst HasReason same reason

of_open : (got status : ℕ) → Refused status ≡ open_taken got → HasReason status
of_open got status e = by (ltb got 16_384) e
  where
    by : (b : Bool) → Refused status ≡ cond b NotYet (Refused 431) → HasReason status
    by true e = absurd (cc)
    by false e = let same : 431 ≡ status = cc in subst HasReason same reason_431

pub refused_has_reason : (bytes : List ℕ) (status : ℕ) → Takes bytes (Refused status) → HasReason status
refused_has_reason bytes status (inl (h, has, is)) =
    of_head (refusal_of_head h) (needed h) (length bytes) status (refusal_is_reasoned h.minor h.target (texts_of h.fields)) is
refused_has_reason bytes status (inr (inl (none, is))) = of_open (length bytes) status is
refused_has_reason bytes status (inr (inr (never, is))) = let same : 400 ≡ status = cc in subst HasReason same reason_400

-- ---- lengths

passed : (test : Bool) (status : ℕ) (rest : Option ℕ) → cond test (Some status) rest ≡ None → (test ≡ false) × (rest ≡ None)
passed true status rest e = absurd (cc)
passed false status rest e = (refl, e)

pub body_fits : (minor : ℕ) (target : List ℕ) (fields : List FieldText) → refusal_of minor target fields ≡ None → said_or (length_of fields) 0 ≤ 16_777_216
body_fits minor target fields e =
    let fields_fit = passed _ 431 _ e in
    let whole = passed _ 411 _ fields_fit.1 in
    let right = passed _ 400 _ whole.1 in
    let short = passed _ 413 _ right.1 in
    ltb-false 16_777_216 (said_or (length_of fields) 0) short.0

-- a whole request is not longer than a head and a body at their limits
pub whole_fits : (bytes : List ℕ) (count : ℕ) → Takes bytes (Whole count) → count ≤ 16_793_600
whole_fits bytes count takes =
    let (here, (h, body, is)) = whole_is bytes count takes in
    let all : length (take count bytes) ≡ length (print_request h) + length body = ap length is.reads.1 ∙ length-append (print_request h) body in
    let long : length (take count bytes) ≡ count = length-take-le count bytes here in
    let head = is.head_fits in
    let body_is = is.body_is in
    let fits = body_fits h.minor h.target (texts_of h.fields) is.accepted in
    omega (arith, all, long, head, body_is, fits)

open_head : (refusal : Option ℕ) (needed got : ℕ) → NotYet ≡ taken_of refusal needed got → (refusal ≡ None) × (got < needed)
open_head None needed got e = (refl, leb-false needed got (by (leb needed got) refl e))
  where
    by : (b : Bool) → leb needed got ≡ b → NotYet ≡ cond b (Whole needed) NotYet → leb needed got ≡ false
    by true is e = absurd (cc)
    by false is e = is
open_head (Some status) needed got e = absurd (cc)

open_fits : (got : ℕ) → NotYet ≡ open_taken got → got < 16_384
open_fits got e = ltb-true got 16_384 (by (ltb got 16_384) refl e)
  where
    by : (b : Bool) → ltb got 16_384 ≡ b → NotYet ≡ cond b NotYet (Refused 431) → ltb got 16_384 ≡ true
    by true is e = is
    by false is e = absurd (cc)

-- and less than one is shorter
pub open_is_short : (bytes : List ℕ) → Takes bytes NotYet → length bytes < 16_793_600
open_is_short bytes (inl (h, (rest, reads), is)) =
    let both = open_head (refusal_of_head h) (needed h) (length bytes) is in
    let limit = front_len bytes in
    let front : length (front_of bytes) ≡ length (print_request h) + length rest = ap length reads.1 ∙ length-append (print_request h) rest in
    let fits = body_fits h.minor h.target (texts_of h.fields) both.0 in
    let less = both.1 in
    omega (arith, limit, front, fits, less)
open_is_short bytes (inr (inl (none, is))) = let less = open_fits (length bytes) is in omega (arith, less)
open_is_short bytes (inr (inr (never, is))) = absurd (cc)
