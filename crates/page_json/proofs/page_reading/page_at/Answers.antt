-- The text of the member says its page.
use Rattle.std.proofs.Common.{Ok, ap, codes, sym, ◌∙◌}
use Rattle.page_json.specs.ObjectMembers.View.{view}
use Rattle.page_json.specs.ObjectMembers.Members.{text_of}
use Rattle.page_json.specs.ObjectMembers.Reading.{what_is_said}
use Rattle.page_json.specs.Says.{SaysPage}
use Rattle.page_json.proofs.ObjectMembersLemmas.ReadingsLemmas.{after_ok, said_from}
use Rattle.page_json.proofs.page_reading.page_at.Goals as goal

pub returns : goal.returns
returns c =
    let key = codes "@id" in
    let says = SaysPage c.args.base.now in
    let text = c.as_bytes.result.now in
    after_ok (text_of key (view c.args.value.now)) text (what_is_said says key) c.or_bad.result (c.in_ok-text.ensures.ok ∙ ap Ok (sym c.as_bytes.ensures.value))
    (said_from says key text c.said_page.result c.or_bad.result c.said_page.ensures.said c.said_page.ensures.exact c.or_bad.ensures.ok c.or_bad.ensures.err)
