-- Heads in the first 16,384 bytes: how many fields they have at most, and that there is one at most.
use Rattle.std.proofs.Common.{◌≡◌, ℕ, ◌+◌, ◌*◌, ◌≤◌, List, [], ◌∷◌, ◌++◌, length, All, sym, ap, ◌∙◌, arith, length-append}
use Rattle.std.specs.List.{flat_map}
use Rattle.std.proofs.lemmas.List.{length-take}
use Rattle.std.proofs.lemmas.List.Elements.{All-head, All-tail}
use Rattle.std.proofs.lemmas.List.Concat.{flat_map-cons}
use Rattle.httparse.specs.Grammar.{LineEnd, crlf, lf, Field, print_field, IsField, print_section, print_end, RequestHead, print_request, ResponseHead, print_response, NeverHasResponse}
use Rattle.httparse.specs.Spans.{RequestExceeds, ResponseExceeds}
use Rattle.httparse.proofs.GrammarLemmas.{request_unique, ReadsRequest-append, response_unique, ReadsResponse-append}
use Rattle.http_text.specs.Request.{front_of}
use Rattle.http_text.specs.Reply.{HasReplyHead}
use Rattle.http_text.specs.Taken.{HasHead, IsHopeless}

-- a line end has a byte
end_len : (e : LineEnd) → 1 ≤ length (print_end e)
end_len crlf = omega arith
end_len lf = omega arith

field_len : (f : Field) → IsField f → 3 ≤ length (print_field f)
field_len f is =
    let name = is.name.0 in
    let last = end_len f.end in
    simp length-append (omega (arith, name, last))

fields_len : (fs : List Field) → All IsField fs → 3 * length fs ≤ length (flat_map print_field fs)
fields_len [] is = omega arith
fields_len (f ∷ fs) is =
    let one = field_len f (All-head IsField f fs is) in
    let rest = fields_len fs (All-tail IsField f fs is) in
    rw (flat_map-cons, length-append) (omega (arith, one, rest))

section_len : (fs : List Field) (last : LineEnd) → All IsField fs → 3 * length fs ≤ length (print_section fs last)
section_len fs last is = let some = fields_len fs is in simp length-append (omega (arith, some))

pub request_len : (h : RequestHead) → All IsField h.fields → 3 * length h.fields ≤ length (print_request h)
unfolding print_request
request_len h is =
    let section = section_len h.fields h.last is in
    rw length-append (omega (arith, section))

pub response_len : (h : ResponseHead) → All IsField h.fields → 3 * length h.fields ≤ length (print_response h)
unfolding print_response
response_len h is =
    let section = section_len h.fields h.last is in
    rw length-append (omega (arith, section))

pub front_len : (bytes : List ℕ) → length (front_of bytes) ≤ 16_384
unfolding front_of
front_len bytes = omega (arith, length-take 16_384 bytes)

pub front_inside : (bytes : List ℕ) → length (front_of bytes) ≤ length bytes
unfolding front_of
front_inside bytes = omega (arith, length-take 16_384 bytes)

-- the first bytes have no room for so many fields
pub no_request_exceeds : (bytes : List ℕ) → RequestExceeds 5_500 (front_of bytes) → ⊥
no_request_exceeds bytes (front, rest, parts, h, reads, many) =
    let limit = front_len bytes in
    let most = request_len h reads.0.fields in
    let whole : length (front_of bytes) ≡ length front + length rest = ap length parts ∙ length-append front rest in
    let head : length front + 1 ≡ length (print_request h) + 0 = sym (length-append front (10 ∷ [])) ∙ ap length reads.1 ∙ length-append (print_request h) [] in
    omega (arith, limit, most, whole, head, many)

pub no_response_exceeds : (bytes : List ℕ) → ResponseExceeds 5_500 (front_of bytes) → ⊥
no_response_exceeds bytes (front, rest, parts, h, reads, many) =
    let limit = front_len bytes in
    let most = response_len h reads.0.fields in
    let whole : length (front_of bytes) ≡ length front + length rest = ap length parts ∙ length-append front rest in
    let head : length front + 1 ≡ length (print_response h) + 0 = sym (length-append front (10 ∷ [])) ∙ ap length reads.1 ∙ length-append (print_response h) [] in
    omega (arith, limit, most, whole, head, many)

pub one_head : (bytes : List ℕ) (h k : RequestHead) → HasHead bytes h → HasHead bytes k → h ≡ k
one_head bytes h k a b = (request_unique (front_of bytes) h k a.0 b.0 a.1 b.1).0

pub one_reply_head : (bytes : List ℕ) (h k : ResponseHead) → HasReplyHead bytes h → HasReplyHead bytes k → h ≡ k
one_reply_head bytes h k a b = (response_unique (front_of bytes) h k a.0 b.0 a.1 b.1).0

-- where a head is there, there is hope
pub hope : (bytes : List ℕ) (h : RequestHead) → HasHead bytes h → IsHopeless bytes → ⊥
hope bytes h a never = never.0 [] h (a.0 ++ []) (ReadsRequest-append (front_of bytes) h a.0 [] a.1)

pub reply_hope : (bytes : List ℕ) (h : ResponseHead) → HasReplyHead bytes h → NeverHasResponse (front_of bytes) → ⊥
reply_hope bytes h a never = never [] h (a.0 ++ []) (ReadsResponse-append (front_of bytes) h a.0 [] a.1)
