use Rattle.lc_world.proofs.SidesLemmas.NearLemmas as near
use Rattle.lc_world.proofs.SidesLemmas.NearReplyLemmas as replies
use Rattle.lc_world.proofs.sides.laws.near_values.Goals as goal

pub returns-clause-twice : goal.returns-clause-twice
returns-clause-twice c = near.none_twice

pub returns-clause-early : goal.returns-clause-early
returns-clause-early c = near.none_too_early

pub returns-clause-left_out : goal.returns-clause-left_out
returns-clause-left_out c = near.none_is_left_out

pub returns-clause-made_up : goal.returns-clause-made_up
returns-clause-made_up c = near.none_is_made_up

pub returns-clause-empty : goal.returns-clause-empty
returns-clause-empty c = near.not_empty

pub returns-clause-pages : goal.returns-clause-pages
returns-clause-pages c = near.pages_are_one

pub returns-clause-lost : goal.returns-clause-lost
returns-clause-lost c = near.nothing_is_lost

pub returns-clause-forgets : goal.returns-clause-forgets
returns-clause-forgets c = near.none_forgets

pub returns-clause-one_more : goal.returns-clause-one_more
returns-clause-one_more c = replies.at_most_one_more

pub returns-clause-once : goal.returns-clause-once
returns-clause-once c = replies.admitted_once

pub returns-clause-later : goal.returns-clause-later
returns-clause-later c = replies.none_later_is_meant

pub returns-clause-older : goal.returns-clause-older
returns-clause-older c = replies.none_older_is_meant

pub returns-clause-sent : goal.returns-clause-sent
returns-clause-sent c = replies.sent_of_its_versions
