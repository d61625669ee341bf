use Rattle.lc_time.proofs.HttpLemmas.{said_at, exact_at, shows, http_date}
use Rattle.lc_time.proofs.http.read_http_date.Goals as goal

pub returns-in-Ok-clause-said : goal.returns-in-Ok-clause-said
returns-in-Ok-clause-said c =
    said_at c.new.result c.args.text.now c.without_blanks.result.now c.in-Ok.date c.unix_secs.result c.new.ensures c.unix_secs.ensures.value
    c.without_blanks.ensures c.in-Ok.ensures.shown

pub returns-in-Ok-clause-exact : goal.returns-in-Ok-clause-exact
returns-in-Ok-clause-exact c =
    exact_at c.new.result c.args.text.now c.without_blanks.result.now c.in-Ok.date c.unix_secs.result c.new.ensures c.unix_secs.ensures.value
    c.without_blanks.ensures c.in-Ok.ensures.shown

pub returns-in-Err-clause-exact : goal.returns-in-Err-clause-exact
returns-in-Err-clause-exact c = λ moment says.
    absurd (c.in-Err.ensures.shown (http_date moment says.in_range) (shows c.args.text.now c.without_blanks.result.now moment c.without_blanks.ensures says))
