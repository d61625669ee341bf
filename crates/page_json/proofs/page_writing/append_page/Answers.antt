-- The parts of a page follow each other.
use Rattle.std.specs.String.{string_bytes}
use Rattle.page_json.specs.ConnectionWriting.{list_part}
use Rattle.page_json.specs.PageWriting.{search_part, view_part}
use Rattle.page_json.specs.declared.page_writing.TheConstants.{HEAD}
use Rattle.page_json.proofs.AppendLemmas.{four, page_by}
use Rattle.page_json.proofs.page_writing.append_page.Goals as goal

pub returns-clause-text : goal.returns-clause-text
returns-clause-text c =
    let fronts = c.args.fronts.now in
    let page = c.args.page.now in
    let old = string_bytes c.args.out.now in
    let list = c.as_slice.result.now in
    let base = c.as_str.result.now in
    let again = c.as_str-2.result.now in
    page_by fronts page old _ list base again c.as_slice.ensures.value c.as_str.ensures.value c.as_str-2.ensures.value
    (four old _ _ _ _ HEAD.now (list_part fronts list) (view_part base page) (search_part again)
    c.in_ok-push_str.ensures.bytes c.in_ok-append_connections.ensures.text c.in_ok-append_view.ensures c.in_ok-append_search.ensures)
