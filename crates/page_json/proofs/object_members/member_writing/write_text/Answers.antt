-- The value follows the key.
use Rattle.page_json.proofs.ObjectMembersLemmas.TokensLemmas.{one, ◌>>◌}
use Rattle.page_json.proofs.object_members.member_writing.write_text.Goals as goal

pub returns : goal.returns
returns c = one c.in_ok-key.ensures >> one c.in_ok-string.ensures
