use Rattle.std.proofs.Common.{◌≡◌, Some, ap, subst}
use Rattle.csa_scan.specs.StandsFor.{StandsFor}
use Rattle.csa_scan.specs.declared.scan.Scan.{Scan}
use Rattle.page_client.proofs.client.Client.doc.Goals as goal

pub returns-in-Some : goal.returns-in-Some
returns-in-Some c = λ doc taken s.
    let query = c.args.self.now.query in
    let had = s.has in
    let is = c.in-Some.is in
    let same : s.scan ≡ c.in-Some.scan = cc in
    let P : Scan → Type 0 = λ x. StandsFor x query doc taken in
    ap Some (c.doc.ensures query doc taken (subst P same s.scanned.stands))
