-- The date and the start are ASCII.
use Rattle.std.proofs.Common.{IsAscii, ◌++◌, codes, subst, sym}
use Rattle.lc_time.specs.Clock.{start_text_of}
use Rattle.lc_time.specs.Date.{date_text_of}
use Rattle.page_json.proofs.IdLemmas.{slashed, started}
use Rattle.page_json.proofs.id_writing.with_start.Goals as goal

pub returns-clause-text : goal.returns-clause-text
returns-clause-text c = rw (c.date_text.ensures.text, c.start_text.ensures.text)

pub returns-clause-ascii : goal.returns-clause-ascii
returns-clause-ascii c =
    let date = c.args.date in
    let said = date_text_of date.year date.month date.day in
    let start = start_text_of c.args.start in
    let start_ascii = subst IsAscii c.start_text.ensures.text c.start_text.ensures.ascii in
    subst IsAscii (sym (returns-clause-text c)) (slashed said (codes "/" ++ start) (subst IsAscii c.date_text.ensures.text c.date_text.ensures.ascii) (started start start_ascii))
