use Rattle.std.proofs.Common.{◌≡◌, ap, false, is_ok, sym, true}
use Rattle.version_store.proofs.VersionLemmas.{version_search}
use Rattle.version_store.proofs.rows.number_in.Goals as goal

pub returns-in-Err-clause-is : goal.returns-in-Err-clause-is
returns-in-Err-clause-is c =
    let tells = version_search c.args.versions.now c.args.version c.binary_search.result false c.binary_search.ensures.bound c.binary_search.ensures.position c.requires.rising (sym (ap is_ok c.in-Err.is)) in
    absurd (let f : false ≡ true = tells.1 c.requires.there in cc)
