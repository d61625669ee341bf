use Rattle.std.proofs.Common.{subst}
use Rattle.connection_uri.specs.Base.{IsBase}
use Rattle.connection_uri.proofs.BaseLemmas.{is_base}
use Rattle.connection_uri.proofs.base.Base.path.Goals as goal

pub returns-clause-plain : goal.returns-clause-plain
returns-clause-plain c = subst IsBase c.self.view_is (is_base c.self.inside.url c.path.ensures.valid c.self.invariant)
