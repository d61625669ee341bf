use Rattle.fragmenter.proofs.LawfulLemmas as law
use Rattle.fragmenter.proofs.cutting.CuttingFragmenter.cuts_lawfully.Goals as goal

pub returns : goal.returns
returns c = λ departures h. law.chosen_cuts_are_cuts c.args.self.now departures h
