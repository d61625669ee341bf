use Rattle.fragmenter.proofs.LawfulLemmas as law
use Rattle.fragmenter.proofs.by_span.BySpanFragmenter.cuts_lawfully.Goals as goal

pub returns : goal.returns
returns c = λ departures h. law.span_cuts_are_cuts c.args.self.now.seconds departures h
