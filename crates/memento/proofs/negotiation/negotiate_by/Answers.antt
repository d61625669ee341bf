use Rattle.std.proofs.Common.{◌∙◌, sym, ap}
use Rattle.lc_model.specs.Versions.Named.{version_among as named_among}
use Rattle.memento.proofs.negotiation.negotiate_by.Goals as goal

pub returns-clause-exact : goal.returns-clause-exact
returns-clause-exact c = λ version (known, says, named). sym c.version_among.ensures ∙ ap (named_among c.args.versions.now) (c.in_ok-known.ensures.exact known says) ∙ named
