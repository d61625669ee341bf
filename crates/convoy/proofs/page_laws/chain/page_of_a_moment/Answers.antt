use Rattle.convoy.proofs.PageLawsLemmas.RowLemmas as law
use Rattle.convoy.proofs.page_laws.chain.page_of_a_moment.Goals as goal

pub returns : goal.returns
returns c = record {
  is_greatest = law.is_greatest_by_then;
  is_where_next_begins = law.is_where_next_begins;
  links_part_pages = law.links_part_pages;
  next_are_the_suffix = law.next_are_the_suffix;
  back_are_the_rest = law.back_are_the_rest;
  late_are_along_next = law.late_are_along_next;
  found_by_name = law.found_by_name;
}
