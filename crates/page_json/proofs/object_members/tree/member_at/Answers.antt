-- The member of the data is that of the tree.
use Rattle.page_json.proofs.ObjectMembersLemmas.TreeLemmas.{member_seen}
use Rattle.page_json.proofs.object_members.tree.member_at.Goals as goal

pub returns : goal.returns
returns c = member_seen c.args.key.now c.args.value.now c.get.result c.get.ensures
