-- One member after the other.
use Rattle.std.proofs.Common.{Ok, Err, refl, rules}
use Rattle.page_json.specs.ObjectMembers.View.{view}
use Rattle.page_json.specs.PageReading.{end_at}
use Rattle.page_json.proofs.ObjectMembersLemmas.ReadingsLemmas.{meets_err}
use Rattle.page_json.proofs.connection_reading.end_at.Goals as goal

pub returns : goal.returns
unfolding end_at
returns c =
    (Ok c.in_ok-delay.delay, c.in_ok-delay.ensures, (Ok c.in_ok-stop.stop, c.in_ok-stop.ensures, (Ok c.in_ok-moment.moment, c.in_ok-moment.ensures, search rules)))

pub returns-in_err-delay : goal.returns-in_err-delay
unfolding end_at
returns-in_err-delay c =
    let fault = c.in_err-delay.field-0.0 in
    meets_err (end_at c.args.base.now c.args.delay_key.now c.args.stop_key.now c.args.moment_key.now (view c.args.value.now)) c.from_residual.result fault c.from_residual.ensures.1
    (λ other. (Err fault, c.in_err-delay.ensures other, refl))

pub returns-in_err-stop : goal.returns-in_err-stop
unfolding end_at
returns-in_err-stop c =
    let fault = c.in_err-stop.field-0.0 in
    meets_err (end_at c.args.base.now c.args.delay_key.now c.args.stop_key.now c.args.moment_key.now (view c.args.value.now)) c.from_residual-in_err-stop.result fault c.from_residual-in_err-stop.ensures.1
    (λ other. (Ok c.in_ok-delay.delay, c.in_ok-delay.ensures, (Err fault, c.in_err-stop.ensures other, refl)))

pub returns-in_err-moment : goal.returns-in_err-moment
unfolding end_at
returns-in_err-moment c =
    let fault = c.in_err-moment.field-0.0 in
    meets_err (end_at c.args.base.now c.args.delay_key.now c.args.stop_key.now c.args.moment_key.now (view c.args.value.now)) c.from_residual-in_err-moment.result fault c.from_residual-in_err-moment.ensures.1
    (λ other. (Ok c.in_ok-delay.delay, c.in_ok-delay.ensures, (Ok c.in_ok-stop.stop, c.in_ok-stop.ensures, (Err fault, c.in_err-moment.ensures other, refl))))
