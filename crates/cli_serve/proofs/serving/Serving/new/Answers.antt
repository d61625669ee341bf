use Rattle.cli_serve.proofs.FedLemmas.{fed_none}
use Rattle.cli_serve.proofs.serving.Serving.new.Goals as goal

pub invariant_of-result : goal.invariant_of-result
invariant_of-result g c = fed_none g.G.Fragmenter.cuts_of c.args.session c.args.publisher c.requires.stands
