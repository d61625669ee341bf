-- Replies as a client reads them (RFC 9112, sections 4 and 6; RFC 7089, section 2.1).
use Rattle.std.specs.Prelude.{◌≡◌, ℕ, ◌+◌, ◌-◌, ◌⊎◌, nat_lt, List, [], ◌∷◌, length, codes, Option, Some, None, MatchOption, Result, Ok, Err, IsUtf8, if◌then◌else◌}
use Rattle.httparse.specs.Grammar.{ResponseHead, print_response, ReadsResponse, status_code, HasNoResponse, MayBecomeResponse, NeverHasResponse}
use Rattle.lc_time.specs.Http.{SaysHttpDate}
use Rattle.http_text.specs.declared.reply.Reply.{Reply}
use Rattle.http_text.specs.declared.reply_fault.ReplyFault.{ReplyFault}
use Rattle.http_text.specs.declared.reply_fault.ReplyFault.TheVariants as faults
use Rattle.http_text.specs.Fields.{FieldText, texts_of, values_of}
use Rattle.http_text.specs.Length.{length_of, is_wrong, said_or}
use Rattle.http_text.specs.Request.{front_of, has_field}

-- the first of two fields counts
abbrev pub first_of : List (List ℕ) → Option (List ℕ)
first_of [] = None
first_of (value ∷ values) = Some value

-- the value as a text, or none where it is missing or no UTF-8
abbrev pub IsTextOf : Option (List ℕ) → Option (List ℕ) → Type 0
IsTextOf None text = text ≡ None
IsTextOf (Some value) text = MatchOption text (¬ (IsUtf8 value)) (λ t. IsUtf8 value × (t ≡ value))

-- the moment of the value's date, or none where it is missing or no date
abbrev pub IsMomentOf : Option (List ℕ) → Option ℕ → Type 0
IsMomentOf None moment = moment ≡ None
IsMomentOf (Some value) moment = MatchOption moment ((m : ℕ) → ¬ (SaysHttpDate value m)) (SaysHttpDate value)

-- The fault of a head after which so many bytes follow, by the first test that it fails. The tests: too many fields, a body in
-- chunks, a wrong length, a body cut short.
abbrev pub fault_of : List FieldText → ℕ → Option ReplyFault
fault_of fields got =
    if nat_lt 100 (length fields) then Some faults.LongHead
    else (if has_field (codes "transfer-encoding") fields then Some faults.Chunked
    else (if is_wrong (length_of fields) then Some faults.BadLength
    else (if nat_lt got (said_or (length_of fields) got) then Some (faults.Cut (said_or (length_of fields) got) got)
    else None)))

-- what a head of so many bytes says, after which so many follow: without a length the body is all of them
pub record SaysOf (status len got : ℕ) (fields : List FieldText) (reply : Reply) : Type 0 where
  pub status_is : reply.status ≡ status
  pub location_is : IsTextOf (first_of (values_of (codes "location") fields)) reply.location
  pub memento_is : IsMomentOf (first_of (values_of (codes "memento-datetime") fields)) reply.memento
  pub body_from_is : reply.body_from ≡ len
  pub body_to_is : reply.body_to ≡ len + said_or (length_of fields) got

-- the head is at the front of the bytes, within the first 16,384
abbrev pub HasReplyHead : List ℕ → ResponseHead → Type 0
HasReplyHead bytes h = (rest : List ℕ) × ReadsResponse (front_of bytes) h rest

-- how many bytes come after the head
abbrev pub behind : List ℕ → ResponseHead → ℕ
behind bytes h = length bytes - length (print_response h)

-- what a reply of the bytes says
abbrev pub IsReply : List ℕ → Reply → Type 0
IsReply bytes reply =
    (h : ResponseHead) × HasReplyHead bytes h × (fault_of (texts_of h.fields) (behind bytes h) ≡ None)
    × SaysOf (status_code h) (length (print_response h)) (behind bytes h) (texts_of h.fields) reply

-- the fault of bytes that end within their head: the head is cut, or it is longer
abbrev pub open_fault : ℕ → ReplyFault
open_fault got = if nat_lt got 16_384 then faults.Head else faults.LongHead

-- no head is in the first 16,384 bytes: none will be, or the bytes end within it; or it is longer
abbrev pub HasHeadFault : List ℕ → ReplyFault → Type 0
HasHeadFault bytes fault =
    (NeverHasResponse (front_of bytes) × (fault ≡ faults.Head))
    ⊎ (HasNoResponse (front_of bytes) × MayBecomeResponse (front_of bytes) × (fault ≡ open_fault (length bytes)))

-- the first fault of the bytes
abbrev pub HasFault : List ℕ → ReplyFault → Type 0
HasFault bytes fault =
    HasHeadFault bytes fault
    ⊎ ((h : ResponseHead) × HasReplyHead bytes h × (fault_of (texts_of h.fields) (behind bytes h) ≡ Some fault))

-- what the bytes are to a client: a reply, or their first fault
abbrev pub IsRead : List ℕ → Result Reply ReplyFault → Type 0
IsRead bytes (Ok reply) = IsReply bytes reply
IsRead bytes (Err fault) = HasFault bytes fault
