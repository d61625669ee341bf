-- The date is ASCII.
use Rattle.std.proofs.Common.{IsAscii, codes, subst, sym}
use Rattle.lc_time.specs.Date.{date_text_of}
use Rattle.page_json.proofs.IdLemmas.{dash, slashed}
use Rattle.page_json.proofs.id_writing.without_start.Goals as goal

pub returns-clause-text : goal.returns-clause-text
returns-clause-text c = rw c.date_text.ensures.text

pub returns-clause-ascii : goal.returns-clause-ascii
returns-clause-ascii c =
    let date = c.args.date in
    let said = date_text_of date.year date.month date.day in
    subst IsAscii (sym (returns-clause-text c)) (slashed said (codes "/-") (subst IsAscii c.date_text.ensures.text c.date_text.ensures.ascii) dash)
