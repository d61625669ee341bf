use Rattle.std.proofs.Common.{◌≡◌, ℕ, ◌<◌, List, ap, subst, sym, ◌∙◌, arith}
use Rattle.httpdate.specs.Date.{unix_secs}
use Rattle.httpdate.specs.Text.{imf_fixdate}
use Rattle.lc_time.specs.Http.{SaysHttpDate}
use Rattle.lc_time.proofs.HttpLemmas.{parts_at, says_date}
use Rattle.lc_time.proofs.http.http_date.Goals as goal

pub returns-clause-text : goal.returns-clause-text
returns-clause-text c =
    let date = c.unwrap.result in
    let secs : unix_secs date ≡ c.args.moment = (rw c.unwrap.ensures at c.from_unix_secs.ensures.value) ∙ c.seconds.ensures.value in
    let bound : c.args.moment < 253_402_128_000 = omega (arith, c.seconds.ensures.in_range) in
    c.to_bytes.ensures ∙ ap imf_fixdate (parts_at c.args.moment date bound secs)

pub returns-clause-says : goal.returns-clause-says
returns-clause-says c =
    let date = c.unwrap.result in
    let secs : unix_secs date ≡ c.args.moment = (rw c.unwrap.ensures at c.from_unix_secs.ensures.value) ∙ c.seconds.ensures.value in
    let bound : c.args.moment < 253_402_128_000 = omega (arith, c.seconds.ensures.in_range) in
    let text = c.to_bytes.ensures ∙ ap imf_fixdate (parts_at c.args.moment date bound secs) in
    subst (λ (t : List ℕ). SaysHttpDate t c.args.moment) (sym text) (says_date c.args.moment bound)
