use Rattle.page_relay.proofs.NearRelayLemmas as near
use Rattle.page_relay.proofs.near.near_relays.Goals as goal

pub returns-clause-kept : goal.returns-clause-kept
returns-clause-kept c = near.none_is_kept_unasked

pub returns-clause-given : goal.returns-clause-given
returns-clause-given c = near.none_is_given_unasked

pub returns-clause-lost : goal.returns-clause-lost
returns-clause-lost c = near.nothing_is_lost

pub returns-clause-more : goal.returns-clause-more
returns-clause-more c = near.not_one_more

pub returns-clause-again : goal.returns-clause-again
returns-clause-again c = near.not_handed_on_again

pub returns-clause-hidden : goal.returns-clause-hidden
returns-clause-hidden c = near.none_is_hidden

pub returns-clause-order : goal.returns-clause-order
returns-clause-order c = near.not_in_other_order
