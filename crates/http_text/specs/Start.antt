-- What is at the front of the bytes that have come, before they are counted.
use Rattle.std.specs.Prelude.{◌≡◌, ℕ, suc, ◌⊎◌, nat_lt, List, Option, Some, None, if◌then◌else◌}
use Rattle.httparse.specs.Grammar.{RequestHead}
use Rattle.http_text.specs.declared.start.Start.{Start}
use Rattle.http_text.specs.declared.start.Start.TheVariants.{Head, Open, Refused}
use Rattle.http_text.specs.declared.taken.Taken.{Taken}
use Rattle.http_text.specs.declared.taken.Taken.TheVariants as answers
use Rattle.http_text.specs.Request.{refusal_of_head}
use Rattle.http_text.specs.Taken.{HasHead, IsOpen, IsHopeless, needed, with_body, open_taken}

-- a head that needs so many bytes, or its refusal
abbrev pub judged : Option ℕ → ℕ → Start
judged (Some status) needed = Refused status
judged None needed = Head needed

-- what is there: a head, a front of one, or none
abbrev pub IsStart : List ℕ → Start → Type 0
IsStart bytes start =
    ((h : RequestHead) × HasHead bytes h × (start ≡ judged (refusal_of_head h) (needed h)))
    ⊎ (IsOpen bytes × (start ≡ Open)) ⊎ (IsHopeless bytes × (start ≡ Refused 400))

-- what is taken after so many bytes
abbrev pub start_taken : Start → ℕ → Taken
start_taken (Head needed) got = with_body needed got
start_taken Open got = open_taken got
start_taken (Refused status) got = answers.Refused status

-- how many bytes another answer needs, if this is "not yet"
abbrev pub start_waits : Start → ℕ → ℕ
start_waits (Head needed) got = if nat_lt got needed then needed else 0
start_waits Open got = if nat_lt got 16_384 then suc got else 0
start_waits (Refused status) got = 0
