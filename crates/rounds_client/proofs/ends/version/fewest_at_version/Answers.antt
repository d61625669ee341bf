use Rattle.rounds_client.proofs.EndsLemmas.VersionLemmas as law
use Rattle.rounds_client.proofs.ends.version.fewest_at_version.Goals as goal

pub returns : goal.returns
returns c = record { needed = law.fewest_of_needed_at; alike = law.alike_at }
