-- The text of the data is that of the tree.
use Rattle.std.proofs.Common.{◌∙◌}
use Rattle.json.specs.Value.{value_view}
use Rattle.page_json.proofs.ObjectMembersLemmas.TreeLemmas.{text_seen}
use Rattle.page_json.proofs.object_members.tree.text_in.Goals as goal

pub returns : goal.returns
returns c = c.as_str.ensures ∙ text_seen (value_view c.args.value.now)
