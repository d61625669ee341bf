use Rattle.std.proofs.Common.{◌≡◌, take, drop}
use Rattle.http_text.specs.declared.connection.Quoting.TheVariants.{Outside}
use Rattle.http_text.specs.Elements.{elements}
use Rattle.http_text.proofs.ElementLemmas.{with_front}
use Rattle.http_text.proofs.connection.split_at_comma.Given as goal

abbrev pub invariant-loop-at : goal.invariant-loop-at
invariant-loop-at l = with_front (take l.at l.list) (elements l.quoting (drop l.at l.list)) ≡ elements Outside l.list
