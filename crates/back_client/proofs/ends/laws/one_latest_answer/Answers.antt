use Rattle.back_client.proofs.EndsLemmas.AnsweredLemmas as lemmas
use Rattle.back_client.proofs.ends.laws.one_latest_answer.Goals as goal

pub returns : goal.returns
returns c = record {
  departure = lemmas.one_departure_at;
  needed = lemmas.one_list_of_needed_back_at;
  answers_stay = lemmas.latest_stays;
  needed_stay = lemmas.needed_back_stays;
}
