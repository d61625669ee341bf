use Rattle.rounds_client.proofs.EndsLemmas.NeededLemmas as law
use Rattle.rounds_client.proofs.ends.needed.fewest_are_in_needed.Goals as goal

pub returns : goal.returns
returns c = record { best = law.best_are_in_needed; fewest = law.fewest_are_in_needed }
