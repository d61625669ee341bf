-- The members that are there.
use Rattle.std.proofs.Common.{ap, sym}
use Rattle.page_json.specs.ObjectMembers.Members.{formed}
use Rattle.page_json.specs.ObjectMembers.View.{members_view}
use Rattle.page_json.proofs.object_members.members.object_under.Goals as goal

pub returns-in-Some-clause-ok : goal.returns-in-Some-clause-ok
returns-in-Some-clause-ok c =
    (members_view c.in-Some.field-0.now.items, ap (formed c.args.name.now) (sym c.in-Some.ensures))
