use Rattle.convoy.proofs.PageLawsLemmas.NeededLemmas as law
use Rattle.convoy.proofs.page_laws.needed.needed_are_taken.Goals as goal

pub returns : goal.returns
returns c = record {
  over_is_over = λ list first rest query doc before page left taken_best best last pages forward.
      law.over_is_over list first rest query doc pages forward before page left taken_best best last;
  takes_the_needed = λ list first rest query doc taken best pages forward is_best. law.takes_the_needed list first rest query doc pages forward taken best is_best;
  always_stops = λ list first rest query doc best pages forward is_best. law.always_stops list first rest query doc pages forward best is_best;
}
