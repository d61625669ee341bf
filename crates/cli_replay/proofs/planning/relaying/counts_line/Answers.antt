-- The pieces of the format, one after the other.
use Rattle.std.proofs.Common.{◌∙◌, ap, append_assoc}
use Rattle.cli_replay.proofs.planning.relaying.counts_line.Goals as goal

pub returns : goal.returns
returns c = ap (λ v. v.items) c.into_bytes.ensures.value ∙ c.in_ok-line.ensures.ok ∙ simp append_assoc
