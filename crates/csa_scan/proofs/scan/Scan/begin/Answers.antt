use Rattle.std.proofs.Common.{◌≡◌, List, ◌∙◌, not, true, ap, subst}
use Rattle.std.specs.Option.{is_some}
use Rattle.lc_model.specs.Stop.{HasStop}
use Rattle.lc_model.specs.declared.stop.Stop.{Stop}
use Rattle.csa_scan.proofs.BegunLemmas.{known}
use Rattle.csa_scan.proofs.scan.Scan.begin.Goals as goal

pub returns-clause-known : goal.returns-clause-known
returns-clause-known c =
    let query = c.args.query.now in
    let F : List Stop → Type 0 = λ stops. HasStop stops query.from in
    let T : List Stop → Type 0 = λ stops. HasStop stops query.to in
    let stops = c.as_slice-stops.result.now in
    let from : is_some c.place_of.result ≡ true = c.is_none.ensures ∙ ap not c.if-is_none.false in
    let to : is_some c.place_of-2.result ≡ true = c.is_none-2.ensures ∙ ap not c.if-is_none-2.false in (
      subst F c.as_slice-stops.ensures.value (known stops query.from c.place_of.result c.place_of.ensures from),
      subst T c.as_slice-stops.ensures.value (known stops query.to c.place_of-2.result c.place_of-2.ensures to),
    )

pub returns-clause-ok : goal.returns-clause-ok
returns-clause-ok c =
    let both = returns-clause-known c in
    c.in_ok-of_nothing.ensures (record { from_known = both.0; to_known = both.1 })
