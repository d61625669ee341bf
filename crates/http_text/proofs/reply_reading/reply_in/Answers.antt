use Rattle.std.proofs.Common.{ℕ, length, Err, inl, inr, refl, ap, subst, arith}
use Rattle.httparse.specs.Spans.{ResponseExceeds}
use Rattle.http_text.proofs.HeadLemmas.{front_inside}
use Rattle.http_text.proofs.ReplyLemmas.{refused_is}
use Rattle.http_text.proofs.reply_reading.reply_in.Goals as goal

pub reply_of-requires-clause-len : goal.reply_of-requires-clause-len
reply_of-requires-clause-len c =
    let within = rw c.in-Ok-Complete.field-0-is at c.in-Ok-Complete.ensures.within in
    omega (arith, front_inside c.args.bytes.now, ap length c.front_of-front.ensures, within.section.len_fits)

pub returns-in-Err-clause-fault : goal.returns-in-Err-clause-fault
returns-in-Err-clause-fault c =
    inr (inl (inl (
      refused_is c.args.bytes.now c.front_of-front.result.now c.in-Err.field-0 c.front_of-front.ensures c.in-Err.ensures.invalid
          (λ same. subst (λ (n : ℕ). ResponseExceeds n c.front_of-front.result.now) c.requires (c.in-Err.ensures.too_many (ap Err same))),
      refl,
    )))
