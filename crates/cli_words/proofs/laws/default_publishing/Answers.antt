use Rattle.cli_words.proofs.DefaultLemmas.{default_base, default_cutting, default_moment}
use Rattle.cli_words.proofs.laws.default_publishing.Goals as goal

pub returns : goal.returns
returns c = record { base = default_base; moment = default_moment; cuts = default_cutting }
