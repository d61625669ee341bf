use Rattle.std.proofs.Common.{◌≡◌}
use Rattle.lc_time.specs.Date.{date_said, date_text_of}
use Rattle.lc_time.proofs.SaidLemmas.{dates_said}
use Rattle.gtfs_tables.proofs.FieldsLemmas.Said.{said_is}
use Rattle.gtfs_tables.proofs.fields.fields.date.Goals as goal

pub returns : goal.returns
returns c =
    let text = c.args.text.now in
    said_is (λ date. text ≡ date_text_of date.year date.month date.day) (date_said text) c.read_date.result (dates_said text) c.read_date.ensures.said c.read_date.ensures.exact
