use Rattle.std.proofs.Common.{[], refl, sym, subst}
use Rattle.back_scan.specs.Kept.{Kept}
use Rattle.back_scan.specs.Stands.{Stands}
use Rattle.back_scan.proofs.RoomLemmas.{stands_nothing}
use Rattle.back_scan.proofs.scan.BackScan.before_any.Goals as goal

pub returns : goal.returns
returns c = λ asked.
    let query = c.args.query in
    let doc = c.args.doc in
    let P : Kept → Type 0 = λ k. Stands query doc c.new-runs.result k [] in
    record {
      same_query = refl;
      same_doc = refl;
      asked = asked;
      walks = c.requires.near;
      stands = subst P (sym c.requires.nothing) (stands_nothing query doc c.new-runs.result _);
    }
