-- A number was read.
use Rattle.std.proofs.Common.{◌∙◌}
use Rattle.page_json.proofs.ObjectMembersLemmas.TreeLemmas.{some_seen}
use Rattle.page_json.proofs.object_members.number.has_value.Goals as goal

pub returns : goal.returns
returns c = c.is_some.ensures ∙ some_seen c.number_in.result _ c.number_in.ensures
