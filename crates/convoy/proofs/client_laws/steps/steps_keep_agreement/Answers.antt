use Rattle.convoy.proofs.ClientLawsLemmas.StepLemmas as lemmas
use Rattle.convoy.proofs.client_laws.steps.steps_keep_agreement.Goals as goal

pub returns-clause-gate : goal.returns-clause-gate
returns-clause-gate c = lemmas.gate_keeps_it

pub returns-clause-stops : goal.returns-clause-stops
returns-clause-stops c = lemmas.stops_keep_it

pub returns-clause-own : goal.returns-clause-own
returns-clause-own c = lemmas.page_is_own

pub returns-clause-page : goal.returns-clause-page
returns-clause-page c = lemmas.page_keeps_it

pub returns-clause-spent : goal.returns-clause-spent
returns-clause-spent c = lemmas.spent_keeps_it

pub returns-clause-link_fault : goal.returns-clause-link_fault
returns-clause-link_fault c = lemmas.link_fault_keeps_it
