-- The trip, and then the date and the start.
use Rattle.std.proofs.Common.{ℕ, List, ◌++◌, codes, ap, ◌∙◌}
use Rattle.std.specs.String.{string_bytes}
use Rattle.connection_uri.specs.Encoding.{encoded}
use Rattle.connection_uri.specs.Name.{start_part_of}
use Rattle.lc_time.specs.Date.{date_text_of}
use Rattle.page_json.proofs.AppendLemmas.{two}
use Rattle.page_json.proofs.IdLemmas.{run_is}
use Rattle.page_json.proofs.id_writing.append_run.Goals as goal

pub returns : goal.returns
returns c =
    let key = c.args.key.now in
    let old = string_bytes c.args.out.now in
    let date = date_text_of key.date.year key.date.month key.date.day in
    two old _ _ (encoded key.trip) (codes "/" ++ (date ++ (codes "/" ++ start_part_of key.start))) c.in_ok-append_id.ensures c.in_ok-append_date.ensures
    ∙ ap (λ (s : List ℕ). old ++ s) (run_is (encoded key.trip) (codes "/") date (codes "/") (start_part_of key.start))
