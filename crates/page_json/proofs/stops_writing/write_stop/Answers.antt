-- The members follow each other.
use Rattle.page_json.specs.Tree.{parent_at, stop_tree}
use Rattle.page_json.proofs.ObjectMembersLemmas.TokensLemmas.{closed, one, ◌>>◌}
use Rattle.page_json.proofs.stops_writing.write_stop.Goals as goal

pub returns-clause-tokens : goal.returns-clause-tokens
unfolding stop_tree
returns-clause-tokens c =
    let whole =
    one c.in_ok-begin_object.ensures >> c.in_ok-write_text.ensures >> c.in_ok-write_text-2.ensures >> c.in_ok-write_parent.ensures
    >> one c.in_ok-end_object.ensures in
    record { before = whole.before; tokens = cc (closed (parent_at c.args.stop.now.parent)) }
