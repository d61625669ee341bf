use Rattle.std.proofs.Common.{[], sym, subst}
use Rattle.csa_scan.specs.Kept.{Kept}
use Rattle.csa_scan.specs.Stands.{Stands}
use Rattle.csa_scan.proofs.BegunLemmas.{stands_nothing}
use Rattle.csa_scan.proofs.scan.Scan.before_any.Goals as goal

pub returns : goal.returns
returns c = λ asked.
    let query = c.args.query.now in
    let doc = c.args.doc.now in
    let P : Kept → Type 0 = λ k. Stands query doc c.new-runs.result k [] in
    record {
      same_query = c.in_ok-query.ensures;
      same_doc = c.in_ok-doc.ensures;
      asked = asked;
      walks = c.requires.near;
      stands = subst P (sym c.requires.nothing) (stands_nothing query doc c.new-runs.result _);
    }
