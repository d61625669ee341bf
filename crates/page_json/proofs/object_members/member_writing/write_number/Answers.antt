-- The value follows the key.
use Rattle.std.proofs.Common.{SFits, rules, w64}
use Rattle.std.proofs.lemmas.Int.{to_z-of_z}
use Rattle.page_json.proofs.ObjectMembersLemmas.TokensLemmas.{counts, number_member, one, ◌>>◌}
use Rattle.page_json.proofs.object_members.member_writing.write_number.Goals as goal

pub returns : goal.returns
returns c =
    let fits : SFits w64 c.args.n = search rules in
    counts c.args.n (to_z-of_z w64 c.args.n fits) (number_member _ _ _ _ (one c.in_ok-key.ensures >> one c.in_ok-i64.ensures))
