use Rattle.convoy.proofs.PageLawsLemmas.AlongLemmas as law
use Rattle.convoy.proofs.page_laws.rides.legs_along_next.Goals as goal

pub returns : goal.returns
returns c = record {
  legs_stand_there = law.legs_stand_there;
  legs_there_are_legs = law.legs_there_are_legs;
  chains_are_there = law.chains_are_there;
  least_is_there = law.least_is_there;
}
