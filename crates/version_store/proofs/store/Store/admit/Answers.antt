use Rattle.std.proofs.Common.{Err, ap, inl, inr, ⊎_elim}
use Rattle.std.proofs.lemmas.Result.{err_from_is_err_and}
use Rattle.version_store.proofs.OutcomeLemmas.{only_refused, only_taken, taken_not_refused}
use Rattle.version_store.proofs.store.Store.admit.Goals as goal

pub returns-in_err-update-clause-only_taken : goal.returns-in_err-update-clause-only_taken
returns-in_err-update-clause-only_taken c = λ update taken.
    let p = err_from_is_err_and c.from_residual.result c.from_residual.ensures.1 in
    rw (p.1, p.2) (inr (ap Err (only_taken c.args.self.now c.args.bytes.now c.in_err-update.field-0.0 c.in_err-update.ensures.refused update taken)))

pub returns-in_err-update-clause-only_refused : goal.returns-in_err-update-clause-only_refused
returns-in_err-update-clause-only_refused c = λ fault refused.
    let p = err_from_is_err_and c.from_residual.result c.from_residual.ensures.1 in
    rw (p.1, p.2) (⊎_elim (λ e. inl (ap Err e)) (λ e. inr (ap Err e)) (only_refused c.args.self.now c.args.bytes.now c.in_err-update.field-0.0 c.in_err-update.ensures.refused fault refused))

pub returns-clause-only_refused : goal.returns-clause-only_refused
returns-clause-only_refused c = λ fault refused. absurd (taken_not_refused c.args.self.now c.args.bytes.now c.in_ok-update.update c.in_ok-update.ensures.taken fault refused)
