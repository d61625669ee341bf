use Rattle.lc_cli.proofs.NearArriveLemmas as lemmas
use Rattle.lc_cli.proofs.laws.near_arrive.Goals as goal

pub returns-clause-earlier : goal.returns-clause-earlier
returns-clause-earlier c = lemmas.not_earlier c.one_latest_answer.ensures.departure

pub returns-clause-later : goal.returns-clause-later
returns-clause-later c = lemmas.not_later c.one_latest_answer.ensures.departure

pub returns-clause-none : goal.returns-clause-none
returns-clause-none c = lemmas.not_none c.one_latest_answer.ensures.departure

pub returns-clause-version : goal.returns-clause-version
returns-clause-version c = lemmas.not_version

pub returns-clause-exchange : goal.returns-clause-exchange
returns-clause-exchange c = lemmas.not_one_exchange_more c.one_latest_answer.ensures.needed

pub returns-clause-order : goal.returns-clause-order
returns-clause-order c = lemmas.not_another_order c.one_latest_answer.ensures.needed
