-- The members follow each other.
use Rattle.page_json.proofs.ObjectMembersLemmas.TokensLemmas.{one, ◌>>◌}
use Rattle.page_json.proofs.stops_writing.write_lists.Goals as goal

pub returns-clause-tokens : goal.returns-clause-tokens
returns-clause-tokens c =
    one c.in_ok-key.ensures >> c.in_ok-write_changes.ensures.tokens >> one c.in_ok-key-2.ensures >> c.in_ok-write_stops.ensures.tokens
    >> one c.in_ok-end_object.ensures
