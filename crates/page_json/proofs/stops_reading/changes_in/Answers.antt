-- One step after the other.
use Rattle.std.proofs.Common.{List, ◌≡◌, Ok, Err, refl, subst, sym}
use Rattle.page_json.specs.ObjectMembers.View.{items_view, view}
use Rattle.lc_model.specs.Disorder.{first_disorder}
use Rattle.page_json.specs.ObjectMembers.Disorder.{unless_disorder}
use Rattle.page_json.specs.ObjectMembers.Reading.{exactly}
use Rattle.std.proofs.lemmas.Result.{IfOk-weaker}
use Rattle.std.specs.List.{All}
use Rattle.lc_model.specs.Change.{change_cmp}
use Rattle.lc_model.specs.Stop.{HasStop}
use Rattle.lc_model.specs.declared.change.Change.{Change}
use Rattle.page_json.specs.StopsReading.{changes_in}
use Rattle.page_json.proofs.ObjectMembersLemmas.EachLemmas.{items_seen}
use Rattle.page_json.proofs.ObjectMembersLemmas.ReadingsLemmas.{meets_err, meets_last}
use Rattle.page_json.proofs.stops_reading.changes_in.Goals as goal

pub returns-clause-said : goal.returns-clause-said
unfolding changes_in
returns-clause-said c =
    meets_last (exactly (unless_disorder (first_disorder change_cmp c.in_ok-changes.changes.items) c.in_ok-changes.changes.items)) (changes_in c.args.stops.now (view c.args.value.now)) c.ordered_changes.result
    (λ r last. (Ok (items_view c.deref.result.now), items_seen _ _ _ c.deref.ensures.value c.in_ok-items.ensures.ok, (Ok c.in_ok-changes.changes.items, c.in_ok-changes.ensures.ok, last)))
    c.ordered_changes.ensures.said

pub returns-in_err-items-clause-said : goal.returns-in_err-items-clause-said
unfolding changes_in
returns-in_err-items-clause-said c =
    let fault = c.in_err-items.field-0.0 in
    meets_err (changes_in c.args.stops.now (view c.args.value.now)) c.from_residual.result fault c.from_residual.ensures.1
    (λ other. (Err fault, sym (c.in_err-items.ensures.err other), refl))

pub returns-in_err-changes-clause-said : goal.returns-in_err-changes-clause-said
unfolding changes_in
returns-in_err-changes-clause-said c =
    let fault = c.in_err-changes.field-0.0 in
    meets_err (changes_in c.args.stops.now (view c.args.value.now)) c.from_residual-in_err-changes.result fault c.from_residual-in_err-changes.ensures.1
    (λ other. (Ok (items_view c.deref.result.now), items_seen _ _ _ c.deref.ensures.value c.in_ok-items.ensures.ok, (Err fault, c.in_err-changes.ensures.err other, refl)))

pub returns-clause-from : goal.returns-clause-from
returns-clause-from c =
    let Known : List Change → Type 0 = All (λ (x : Change). HasStop c.args.stops.now x.from) in
    IfOk-weaker c.ordered_changes.result (λ same. same ≡ c.in_ok-changes.changes.items) Known (λ same e. subst Known (sym e) c.in_ok-changes.ensures.from) c.ordered_changes.ensures.same

pub returns-clause-to : goal.returns-clause-to
returns-clause-to c =
    let Known : List Change → Type 0 = All (λ (x : Change). HasStop c.args.stops.now x.to) in
    IfOk-weaker c.ordered_changes.result (λ same. same ≡ c.in_ok-changes.changes.items) Known (λ same e. subst Known (sym e) c.in_ok-changes.ensures.to) c.ordered_changes.ensures.same
