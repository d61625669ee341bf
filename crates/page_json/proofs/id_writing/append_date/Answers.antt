-- The date and the start are one text.
use Rattle.std.proofs.Common.{ℕ, List, Option, ◌++◌, codes, ap, sym, ◌∙◌}
use Rattle.std.specs.String.{string_bytes}
use Rattle.connection_uri.specs.Name.{start_part_of}
use Rattle.lc_time.specs.Date.{date_text_of}
use Rattle.page_json.proofs.id_writing.append_date.Goals as goal

pub returns-in_ok-push_str-in-Some : goal.returns-in_ok-push_str-in-Some
returns-in_ok-push_str-in-Some c =
    let date = c.args.date in
    let said = date_text_of date.year date.month date.day in
    let start = ap (λ (s : Option ℕ). codes "/" ++ (said ++ (codes "/" ++ start_part_of s))) (sym c.in-Some.is) in
    c.in_ok-push_str-in-Some.ensures.bytes ∙ ap (λ (s : List ℕ). string_bytes c.args.out.now ++ s) (c.ascii_str.ensures ∙ c.with_start.ensures.text ∙ start)
