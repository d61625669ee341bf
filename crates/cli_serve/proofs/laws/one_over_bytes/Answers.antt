use Rattle.cli_serve.proofs.OneSessionLemmas.{one_session}
use Rattle.cli_serve.proofs.SameBytesLemmas.{one_over_bytes}
use Rattle.cli_serve.proofs.laws.one_over_bytes.Goals as goal

pub returns-clause-session : goal.returns-clause-session
returns-clause-session c = one_session

pub returns-clause-bytes : goal.returns-clause-bytes
returns-clause-bytes c = one_over_bytes c.one_output.ensures.ends one_session
