-- The text says one moment at most, and that one is tested.
use Rattle.std.proofs.Common.{◌≡◌, arith, subst, sym}
use Rattle.lc_time.specs.Iso.{SaysMoment}
use Rattle.cli_words.proofs.question.read_within.Goals as goal
use Rattle.cli_words.proofs.question.read_within.Goals.{then-seconds-low-via-else-seconds-low+then-seconds-high, then-seconds-low-via-then-seconds-low}

pub returns-in_default : goal.returns-in_default
returns-in_default c = λ moment says.
    absurd (cc (c.in_default.ensures.exact moment (subst (λ text. SaysMoment text moment) (sym c.as_bytes.ensures.value) says.says)))

pub returns-then-seconds-low : goal.returns-then-seconds-low
returns-then-seconds-low c = λ moment says.
    let low = says.not_before in
    let high = says.not_after in
    let same : c.in-Some.moment ≡ moment = cc (c.in-Some.ensures.exact moment (subst (λ text. SaysMoment text moment) (sym c.as_bytes.ensures.value) says.says)) in
    elim c.then-seconds-low.branch [
      | then-seconds-low-via-then-seconds-low w ↦ absurd (omega arith)
      | then-seconds-low-via-else-seconds-low+then-seconds-high w ↦ absurd (omega arith)
    ]
