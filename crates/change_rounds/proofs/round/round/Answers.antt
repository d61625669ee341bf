use Rattle.std.proofs.Common.{◌≡◌, List, Option, Some, length, sym, ◌∙◌, ap, subst, arith}
use Rattle.std.specs.List.{slice_get}
use Rattle.lc_model.specs.Leg.{in_time}
use Rattle.csa_scan.specs.Kept.{Kept, kept_of}
use Rattle.csa_scan.specs.Stands.{IsReady}
use Rattle.csa_scan.specs.declared.trace.Ready.{Ready}
use Rattle.change_rounds.proofs.AfterLemmas.{after_round}
use Rattle.change_rounds.proofs.BeginsLemmas.{round_begins}
use Rattle.change_rounds.proofs.round.round.Goals as goal

pub take_each-requires-clause-points : goal.take_each-requires-clause-points
take_each-requires-clause-points c = λ stop r e.
    let p = c.args.progress.now in
    let same : c.as_slice-2.result.now ≡ p.ready.items = c.as_slice-2.ensures.value ∙ c.in_ok-ready.ensures.items ∙ c.as_slice.ensures.value in
    let P : List (Option Ready) → Type 0 = λ l. slice_get l stop ≡ Some (Some r) in
    let as_many : length c.begin_round.new.progress.arrivals.items ≡ length p.arrivals.items = ap (λ (k : Kept). length k.arrivals) c.in_ok-begin_round.ensures.cleared in
    let within = p.linked.is_ready stop r (subst P same e) in
    omega arith

pub returns-clause-one_more : goal.returns-clause-one_more
returns-clause-one_more c = λ keys n asked near distinct are after.
    let p = c.args.progress.now in
    let query = c.args.query.now in
    let doc = c.args.doc.now in
    let list = c.args.list.now in
    let same : c.as_slice-2.result.now ≡ p.ready.items = c.as_slice-2.ensures.value ∙ c.in_ok-ready.ensures.items ∙ c.as_slice.ensures.value in
    let P : List (Option Ready) → Type 0 = λ l. IsReady doc p.arrivals.items l in
    let begins = round_begins query doc keys (kept_of p) (kept_of c.begin_round.new.progress) (in_time query list) n c.args.runs after c.in_ok-begin_round.ensures.cleared in
    let stands = c.take_each.ensures.stands keys p.arrivals.items asked near distinct are (subst P (sym same) after.ready) begins in
    after_round query doc asked keys (kept_of p) (kept_of c.take_each.new.progress) (in_time query list) n after stands
