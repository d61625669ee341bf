use Rattle.std.proofs.Common.{ℕ, List, ap, sym, ◌∙◌, ◌++◌, codes}
use Rattle.std.proofs.lemmas.Option.{IfSome_then}
use Rattle.std.proofs.lemmas.Result.{IfOk-weaker}
use Rattle.connection_uri.proofs.NameLemmas.{name_is, joined_is}
use Rattle.connection_uri.proofs.names.read_name.Goals as goal

pub returns-in-Some-clause-said : goal.returns-in-Some-clause-said
returns-in-Some-clause-said c =
    IfOk-weaker c.read_parts.result _ _ (λ read is. IfSome_then read is (λ p are.
    c.in-Some.ensures.said ∙ ap (λ (t : List ℕ). c.args.base.now.text ++ (codes "connections/" ++ t)) (joined_is p.0 p.1 c.in-Some.parts are) ∙ sym (name_is c.args.base.now p.0 p.1)))
    c.read_parts.ensures.said
