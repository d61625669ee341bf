use Rattle.std.proofs.Common.{◌∙◌}
use Rattle.connection_uri.proofs.NameLemmas.{parted}
use Rattle.connection_uri.proofs.parts.split_moment.Goals as goal

pub returns-clause-exact : goal.returns-clause-exact
returns-clause-exact c = λ moment rest len e.
    let parts = parted c.args.text.now moment rest len e in
    (c.split_at.ensures.front ∙ parts.0, c.split_at.ensures.back ∙ parts.1)
