-- The text is read where its tree has a value for each number.
use Rattle.std.proofs.Common.{◌≡◌, None, refl, sym}
use Rattle.json.specs.Value.{value_view}
use Rattle.serde_json.specs.Read.{read}
use Rattle.page_json.specs.declared.object_members.fault.PageFault.TheVariants.{NotJson}
use Rattle.page_json.proofs.ObjectMembersLemmas.ReadingsLemmas.{err_handed_on}
use Rattle.page_json.proofs.ObjectMembersLemmas.TreeLemmas.{json_read, json_refused, no_json}
use Rattle.page_json.proofs.object_members.json_reading.json_of.Goals as goal

pub returns-then-has_values-clause-ok : goal.returns-then-has_values-clause-ok
returns-then-has_values-clause-ok c =
    json_read c.args.text.now (value_view c.in_ok-tree.tree) c.in_ok-tree.ensures.ok (sym c.if-has_values.ensures)

pub returns-clause-err : goal.returns-clause-err
returns-clause-err c = λ other.
    (refl, json_refused c.args.text.now (value_view c.in_ok-tree.tree) c.in_ok-tree.ensures.ok (sym c.if-has_values.ensures))

pub returns-in_err-tree-clause-err : goal.returns-in_err-tree-clause-err
returns-in_err-tree-clause-err c =
    let text = c.args.text.now in
    err_handed_on (λ y. (y ≡ NotJson) × (read text ≡ None)) c.from_residual.result c.in_err-tree.field-0.0 c.from_residual.ensures.1
    (λ other. let none = c.in_err-tree.ensures.err other in (none.0, no_json text none.1))
