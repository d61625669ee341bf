use Rattle.std.proofs.Common.{ℕ, length, Err, ap, subst, arith}
use Rattle.httparse.specs.Spans.{RequestExceeds}
use Rattle.http_text.proofs.HeadLemmas.{front_len}
use Rattle.http_text.proofs.StartLemmas.{without_head_is}
use Rattle.http_text.proofs.TakenLemmas.{refused_is}
use Rattle.http_text.proofs.start.start_in.Goals as goal

pub judge-requires-clause-len : goal.judge-requires-clause-len
judge-requires-clause-len c =
    let within = rw c.in-Ok-Complete.field-0-is at c.in-Ok-Complete.ensures.within in
    omega (arith, front_len c.args.bytes.now, ap length c.front_of-front.ensures, within.section.len_fits)

pub returns-in-Err : goal.returns-in-Err
returns-in-Err c =
    without_head_is c.args.bytes.now c.front_of-front.result.now c.without_head.result c.front_of-front.ensures
    (refused_is c.args.bytes.now c.front_of-front.result.now c.in-Err.field-0 c.front_of-front.ensures c.in-Err.ensures.invalid
    (λ same. subst (λ (n : ℕ). RequestExceeds n c.front_of-front.result.now) c.requires (c.in-Err.ensures.too_many (ap Err same))))
    c.without_head.ensures
