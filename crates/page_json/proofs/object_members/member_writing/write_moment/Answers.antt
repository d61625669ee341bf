-- The text is the moment's.
use Rattle.std.proofs.Common.{◌∙◌}
use Rattle.page_json.proofs.ObjectMembersLemmas.TokensLemmas.{says}
use Rattle.page_json.proofs.object_members.member_writing.write_moment.Goals as goal

pub returns : goal.returns
returns c =
    says _ (c.ascii_str.ensures ∙ c.iso_text-text.ensures.text) c.in_ok-write_text.ensures
