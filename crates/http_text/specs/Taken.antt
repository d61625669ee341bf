-- What is taken of the bytes that have come on a connection.
use Rattle.std.specs.Prelude.{◌≡◌, ℕ, ◌+◌, ◌<◌, ◌⊎◌, nat_lt, nat_le, List, ◌++◌, length, Option, Some, None, if◌then◌else◌}
use Rattle.httparse.specs.Grammar.{RequestHead, print_request, ReadsRequest, HasNoRequest, MayBecomeRequest, NeverHasRequest, EndsInTarget}
use Rattle.http_text.specs.declared.taken.Taken.{Taken}
use Rattle.http_text.specs.declared.taken.Taken.TheVariants.{Whole, NotYet, Refused}
use Rattle.http_text.specs.Request.{refusal_of_head, body_len, front_of}

-- the head is at the front of the bytes, within the limit
abbrev pub HasHead : List ℕ → RequestHead → Type 0
HasHead bytes h = (rest : List ℕ) × ReadsRequest (front_of bytes) h rest

-- no head is there, and one may follow; or the bytes end inside a target, whatever its bytes are
abbrev pub IsOpen : List ℕ → Type 0
IsOpen bytes = HasNoRequest (front_of bytes) × MayBecomeRequest (front_of bytes)

-- no head will be there, whatever follows, and the bytes do not end inside a target
abbrev pub IsHopeless : List ℕ → Type 0
IsHopeless bytes = NeverHasRequest (front_of bytes) × ¬ (EndsInTarget (front_of bytes))

-- of a head that is not refused and so many bytes in all: the request, or its body is still to come
abbrev pub with_body : ℕ → ℕ → Taken
with_body needed got = if nat_le needed got then Whole needed else NotYet

-- of a head and so many bytes in all: its refusal, or the request, or its body is still to come
abbrev pub taken_of : Option ℕ → ℕ → ℕ → Taken
taken_of (Some status) needed got = Refused status
taken_of None needed got = with_body needed got

-- how many bytes the whole request takes
abbrev pub needed : RequestHead → ℕ
needed h = length (print_request h) + body_len h

-- what an open head is after so many bytes
abbrev pub open_taken : ℕ → Taken
open_taken got = if nat_lt got 16_384 then NotYet else Refused 431

-- what is taken of the bytes: by the head that is there, by there being none yet, or by there never being one
abbrev pub Takes : List ℕ → Taken → Type 0
Takes bytes taken =
    ((h : RequestHead) × HasHead bytes h × (taken ≡ taken_of (refusal_of_head h) (needed h) (length bytes)))
    ⊎ (IsOpen bytes × (taken ≡ open_taken (length bytes))) ⊎ (IsHopeless bytes × (taken ≡ Refused 400))

-- before so many bytes in all have come, "not yet" is the answer
abbrev pub WaitsFor : List ℕ → ℕ → Type 0
WaitsFor bytes most = (more : List ℕ) → length (bytes ++ more) < most → Takes (bytes ++ more) NotYet
