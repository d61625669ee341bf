use Rattle.lc_time.proofs.OneTextLemmas as law
use Rattle.lc_time.proofs.SaidLemmas as said
use Rattle.lc_time.proofs.laws.one_value_a_text.Goals as goal

pub returns : goal.returns
returns c = record {
  date = law.one_date;
  start = law.one_start;
  time = law.one_time;
  moment = law.one_moment;
  http = law.one_http_moment;
  date_said = said.dates_said;
  time_said = said.times_said;
}
