use Rattle.convoy.proofs.PageLawsLemmas.NameLemmas.{cuts_name_neighbours}
use Rattle.convoy.proofs.PageLawsLemmas.RowLemmas as law
use Rattle.convoy.proofs.page_laws.chain.pages_in_a_row.Goals as goal

pub returns : goal.returns
returns c = record {
  never_empty = law.never_empty;
  are_the_list = law.are_the_list;
  begin_on_time = law.begin_on_time;
  names_rise = law.names_rise;
  seconds_are_whole = law.seconds_are_whole;
  cuts_name_neighbours = cuts_name_neighbours;
}
