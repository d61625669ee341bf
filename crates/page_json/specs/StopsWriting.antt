-- What the functions that write the stops document append, each its part.
use Rattle.std.specs.Prelude.{List, codes}
use Rattle.lc_model.specs.declared.change.Change.{Change}
use Rattle.lc_model.specs.declared.stop.Stop.{Stop}
use Rattle.json.specs.Token.{Token}
use Rattle.json.specs.Tree.{members_tokens}
use Rattle.serde_json.specs.Data.{Members, array, no_members, member}
use Rattle.serde_json.specs.Written.{members_outline}
use Rattle.page_json.specs.ObjectMembers.MemberWriting.{items_from}
use Rattle.page_json.specs.Tree.{change_tree, stop_tree}

-- the tokens of members, and of the bracket that closes their object
abbrev pub closed_tokens : Members → List Token
closed_tokens members = members_tokens (members_outline members)

-- the lists of a stops document
abbrev pub list_members : List Change → List Stop → Members
list_members changes stops =
    member (codes "changes") (array (items_from change_tree changes))
    (member (codes "stops") (array (items_from stop_tree stops)) no_members)
