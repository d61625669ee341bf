use Rattle.lc_world.proofs.SidesLemmas.NearTextLemmas as texts
use Rattle.lc_world.proofs.sides.laws.near_replies.Goals as goal

pub returns-clause-sent : goal.returns-clause-sent
returns-clause-sent c = texts.sent_where_there

pub returns-clause-not_found : goal.returns-clause-not_found
returns-clause-not_found c = texts.not_found_where_not

pub returns-clause-found : goal.returns-clause-found
returns-clause-found c = texts.pages_are_found

pub returns-clause-meant : goal.returns-clause-meant
returns-clause-meant c = texts.moved_to_the_meant

pub returns-clause-empty : goal.returns-clause-empty
returns-clause-empty c = texts.none_is_empty

pub returns-clause-heads : goal.returns-clause-heads
returns-clause-heads c = texts.heads_have_no_body
