use Rattle.std.proofs.Common.{◌≡◌, ◌∙◌, List, Some, None, ap, option_map, subst, sym}
use Rattle.std.proofs.lemmas.Result.{IfOk-weaker}
use Rattle.lc_model.specs.declared.run.Run.{Run}
use Rattle.version_store.specs.CallsBy.{IsRunOfKey}
use Rattle.version_store.specs.Kept.{news_said}
use Rattle.version_store.specs.Named.{said_at}
use Rattle.version_store.proofs.CallsByLemmas.{calls_of_run, further_calls_by, further_calls_forward}
use Rattle.version_store.proofs.calls_by.calls_by.Goals as goal

pub returns-in_ok-live_of-in-Some-clause-calls : goal.returns-in_ok-live_of-in-Some-clause-calls
returns-in_ok-live_of-in-Some-clause-calls c = λ list has.
    let of_key = subst (λ (v : List Run). IsRunOfKey v c.args.key.now (Some c.in-Some.run'.now)) c.as_slice.ensures.value c.in-Some.ensures in
    calls_of_run c.args.runs.now c.args.stops.now list c.args.last.now c.args.key.now c.in-Some.run'.now c.in_ok-live_of-in-Some.field-0 c.trip_is_id.ensures has of_key c.in_ok-live_of-in-Some.ensures.live

pub returns-in-None-clause-calls : goal.returns-in-None-clause-calls
returns-in-None-clause-calls c =
    let none = subst (λ (v : List Run). IsRunOfKey v c.args.key.now None) c.as_slice.ensures.value c.in-None.ensures in
    let said : option_map news_said c.copied.result ≡ said_at c.args.last.now.own c.args.key.now = ap (option_map news_said) (c.copied.ensures ∙ c.get.ensures.value) in
    IfOk-weaker c.further_calls.result _ _
    (λ calls are list has.
    further_calls_by c.args.runs.now c.args.stops.now list c.args.key.now (option_map news_said c.copied.result) calls none (sym (has.own c.trip_is_id.ensures) ∙ sym said) are)
    c.further_calls.ensures

pub returns-in-None-clause-forward : goal.returns-in-None-clause-forward
returns-in-None-clause-forward c =
    IfOk-weaker c.further_calls.result _ _ (λ calls are. further_calls_forward c.args.stops.now (option_map news_said c.copied.result) calls are) c.further_calls.ensures
