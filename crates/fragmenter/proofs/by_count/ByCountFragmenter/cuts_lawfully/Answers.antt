use Rattle.fragmenter.proofs.LawfulLemmas as law
use Rattle.fragmenter.proofs.by_count.ByCountFragmenter.cuts_lawfully.Goals as goal

pub returns : goal.returns
returns c = λ departures h. law.count_cuts_are_cuts c.args.self.now.count departures h
