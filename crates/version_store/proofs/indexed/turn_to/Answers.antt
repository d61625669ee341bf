use Rattle.std.proofs.Common.{◌≡◌, ◌∙◌, List, Some, ap, false, subst, sym, true}
use Rattle.std.proofs.lemmas.Result.{on_ok_weaker}
use Rattle.lc_model.specs.Versions.News.{EntitySaid}
use Rattle.version_store.specs.Changes.{GoesOn}
use Rattle.version_store.specs.Dates.{date_in}
use Rattle.version_store.specs.declared.store.Admission.{Admission}
use Rattle.version_store.proofs.ForceLemmas.{after_changes, after_full}
use Rattle.version_store.proofs.indexed.turn_to.Goals as goal

pub returns-then-update-clause-ok : goal.returns-then-update-clause-ok
returns-then-update-clause-ok c =
    on_ok_weaker c.take_full.result
    (λ goes before a force there.
    let date_of = date_in c.args.zone.now in
    let one : Some c.in-Some.admission.now ≡ Some a = c.in-Some.ensures ∙ there in
    let same : c.in-Some.admission.now ≡ a = cc in
    let says : c.as_slice-entities.result.now ≡ a.update.entities = c.as_slice-entities.ensures ∙ ap (λ (x : Admission). x.update.entities) same in
    let full : a.update.full ≡ true = ap (λ (x : Admission). x.update.full) (sym same) ∙ c.if-update.true in
    let at : c.message_date-date.result ≡ date_of a.update.moment = c.message_date-date.ensures.date ∙ ap (λ (x : Admission). date_of x.update.moment) same in
    subst (λ (v : List EntitySaid). GoesOn c.args.runs.now c.args.stops.now c.args.admitted.now before v c.take_full.new.force c.args.index.now c.take_full.new.index)
    (after_full date_of before c.as_slice-entities.result.now a.update c.message_date-date.result full at says) (goes before a force there (sym says)))
    c.take_full.ensures.ok

pub returns-clause-ok : goal.returns-clause-ok
returns-clause-ok c =
    on_ok_weaker c.take_differential.result
    (λ goes before a force there.
    let date_of = date_in c.args.zone.now in
    let one : Some c.in-Some.admission.now ≡ Some a = c.in-Some.ensures ∙ there in
    let same : c.in-Some.admission.now ≡ a = cc in
    let says : c.as_slice-entities.result.now ≡ a.update.entities = c.as_slice-entities.ensures ∙ ap (λ (x : Admission). x.update.entities) same in
    let full : a.update.full ≡ false = ap (λ (x : Admission). x.update.full) (sym same) ∙ c.if-update.false in
    let at : c.message_date-date.result ≡ date_of a.update.moment = c.message_date-date.ensures.date ∙ ap (λ (x : Admission). date_of x.update.moment) same in
    subst (λ (v : List EntitySaid). GoesOn c.args.runs.now c.args.stops.now c.args.admitted.now before v c.take_differential.new.force c.args.index.now c.take_differential.new.index)
    (after_changes date_of before c.as_slice-entities.result.now a.update c.message_date-date.result full at says) (goes before a force there (sym says)))
    c.take_differential.ensures.ok
