-- The members follow each other.
use Rattle.page_json.specs.Tree.{change_tree}
use Rattle.page_json.proofs.ObjectMembersLemmas.TokensLemmas.{one, ◌>>◌}
use Rattle.page_json.proofs.stops_writing.write_change.Goals as goal

pub returns-clause-tokens : goal.returns-clause-tokens
unfolding change_tree
returns-clause-tokens c =
    let whole =
    one c.in_ok-begin_object.ensures >> c.in_ok-write_text.ensures >> one c.in_ok-key.ensures >> one c.in_ok-u64.ensures
    >> c.in_ok-write_text-2.ensures >> one c.in_ok-end_object.ensures in
    record { before = whole.before; tokens = cc }
