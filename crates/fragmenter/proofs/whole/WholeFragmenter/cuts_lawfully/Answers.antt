use Rattle.fragmenter.proofs.LawfulLemmas as law
use Rattle.fragmenter.proofs.whole.WholeFragmenter.cuts_lawfully.Goals as goal

pub returns : goal.returns
returns c = λ departures h. law.whole_cuts_are_cuts departures
