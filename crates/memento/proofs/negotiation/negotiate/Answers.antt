use Rattle.std.proofs.Common.{subst}
use Rattle.std.specs.Option.{option_copied}
use Rattle.memento.specs.Negotiation.{Negotiates}
use Rattle.memento.proofs.negotiation.negotiate.Goals as goal

pub returns-in-Some-clause-exact : goal.returns-in-Some-clause-exact
returns-in-Some-clause-exact c = λ version h. c.negotiate_by.ensures.exact version (subst (λ known. Negotiates c.args.versions.now (option_copied known) version) c.in-Some.is h)
