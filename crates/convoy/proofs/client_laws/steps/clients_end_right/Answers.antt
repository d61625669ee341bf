use Rattle.convoy.proofs.ClientLawsLemmas.WantsLemmas as lemmas
use Rattle.convoy.proofs.client_laws.steps.clients_end_right.Goals as goal

pub returns : goal.returns
returns c = record {
  next = lemmas.wants_the_next;
  wants = lemmas.ends_with_its_wants;
  exchanges = lemmas.two_and_the_pages;
  answer = lemmas.ends_with_an_answer;
  refusal = lemmas.refusals_are_deserved;
  fault = lemmas.faults_cut_short;
  no_peer_fault = lemmas.no_reply_fails_a_test;
}
