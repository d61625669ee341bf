use Rattle.std.proofs.Common.{◌++◌, ◌∷◌, [], List, subst, sym}
use Rattle.cli_ask.specs.declared.end.ClientEnd.{ClientEnd}
use Rattle.cli_replay.specs.ReplayLaws.Played.{HaveEndedSo}
use Rattle.cli_replay.proofs.EndsLemmas.{one_end_more}
use Rattle.cli_replay.proofs.ends.ends_of.Goals as goal

pub members-preserved : goal.members-preserved
members-preserved c =
    subst (λ (ends : List ClientEnd). HaveEndedSo (c.members.yielded ++ c.in-Some.member ∷ []) ends) (sym c.in_ok-push.ensures.items)
    (one_end_more c.members.yielded c.members.ends.items c.in-Some.member c.end_of.result c.members.invariant c.end_of.ensures)
