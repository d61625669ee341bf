use Rattle.std.proofs.Common.{◌≡◌, List, [], ◌∙◌, not, true, ap, subst, sym}
use Rattle.std.specs.Option.{is_some}
use Rattle.lc_model.specs.Stop.{HasStop}
use Rattle.lc_model.specs.declared.query.Query.{Query}
use Rattle.lc_model.specs.declared.stop.Stop.{Stop}
use Rattle.csa_scan.proofs.BegunLemmas.{known}
use Rattle.back_scan.specs.StandsFor.{StandsFor}
use Rattle.back_scan.proofs.scan.BackScan.begin.Goals as goal

pub returns-clause-known : goal.returns-clause-known
returns-clause-known c =
    let query = c.args.query.now in
    let F : List Stop → Type 0 = λ stops. HasStop stops query.from in
    let T : List Stop → Type 0 = λ stops. HasStop stops query.to in
    let stops = c.as_slice-stops.result.now in
    let from : is_some c.place_of.result ≡ true = c.is_none.ensures ∙ ap not c.if-is_none.false in
    let to : is_some c.place_of-2.result ≡ true = c.is_none-2.ensures ∙ ap not c.if-is_none-2.false in (
      subst F c.as_slice-stops.ensures.value (known stops query.from c.place_of.result c.place_of.ensures from),
      subst T c.as_slice-stops.ensures.value (known stops query.to c.place_of-2.result c.place_of-2.ensures to),
    )

pub returns-clause-ok : goal.returns-clause-ok
returns-clause-ok c =
    let both = returns-clause-known c in
    let doc = c.args.doc.now in
    let scan = c.in_ok-of_nothing.field-0 in
    let query = c.in_ok-query.query in
    let is = c.in_ok-query.ensures in
    let F : Query → Type 0 = λ q. HasStop doc.stops q.from in
    let T : Query → Type 0 = λ q. HasStop doc.stops q.to in
    let P : Query → Type 0 = λ q. StandsFor scan q doc [] in
    subst P is (c.in_ok-of_nothing.ensures (record { from_known = subst F (sym is) both.0; to_known = subst T (sym is) both.1 }))
