use Rattle.std.proofs.Common.{ℕ, List, ◌++◌, codes, ap, ◌∙◌}
use Rattle.std.proofs.lemmas.Option.{IfSome_then}
use Rattle.connection_uri.proofs.pages.split_page.Goals as goal

pub returns-clause-said : goal.returns-clause-said
returns-clause-said c =
    IfSome_then c.split_at_mark.result c.split_at_mark.ensures.said (λ p said. c.in_ok-rest.ensures.said ∙ ap (λ (t : List ℕ). c.args.base.now.text ++ (codes "memento/connections?version=" ++ t)) said)

pub returns-in_err-rest-clause-exact : goal.returns-in_err-rest-clause-exact
returns-in_err-rest-clause-exact c = λ version departs len e. absurd (c.in_err-rest.ensures.exact _ e)

pub returns-clause-exact : goal.returns-clause-exact
returns-clause-exact c = λ version departs len e.
    c.split_at_mark.ensures.exact version departs len (c.in_ok-rest.ensures.exact _ e)
