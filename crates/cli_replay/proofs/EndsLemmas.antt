-- How clients ended, and one more.
use Rattle.std.proofs.Common.{List, [], ◌∷◌, ◌++◌}
use Rattle.cli_ask.specs.declared.end.ClientEnd.{ClientEnd}
use Rattle.convoy.specs.declared.member.Member.{Member}
use Rattle.cli_replay.specs.ReplayLaws.Played.{HasEndedSo, HaveEndedSo}

pub one_end_more : (members : List Member) (ends : List ClientEnd) (member : Member) (end : ClientEnd) → HaveEndedSo members ends → HasEndedSo member end → HaveEndedSo (members ++ member ∷ []) (ends ++ end ∷ [])
one_end_more [] [] member end are is = (is, tt)
one_end_more [] (first ∷ ends) member end are is = absurd are
one_end_more (first ∷ members) [] member end are is = absurd are
one_end_more (first ∷ members) (second ∷ ends) member end are is = (are.0, one_end_more members ends member end are.1 is)
