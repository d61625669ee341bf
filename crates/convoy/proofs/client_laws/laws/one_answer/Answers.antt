use Rattle.convoy.proofs.ClientLawsLemmas.AnsweredLemmas as answers
use Rattle.convoy.proofs.ClientLawsLemmas.WantsLemmas as wants
use Rattle.convoy.proofs.client_laws.laws.one_answer.Goals as goal

pub returns : goal.returns
returns c = record { arrival = answers.one_arrival_at; needed = answers.one_list_of_needed_at; wants = wants.one_list_of_wants }
