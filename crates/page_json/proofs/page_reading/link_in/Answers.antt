-- The text of the member says its page.
use Rattle.std.proofs.Common.{Ok, ap, sym, ◌∙◌}
use Rattle.serde_json.specs.Find.{as_str}
use Rattle.page_json.specs.ObjectMembers.View.{view}
use Rattle.page_json.specs.ObjectMembers.Members.{formed}
use Rattle.page_json.specs.ObjectMembers.Reading.{what_is_said}
use Rattle.page_json.specs.Says.{SaysLink}
use Rattle.page_json.proofs.ObjectMembersLemmas.ReadingsLemmas.{after_ok, said_from}
use Rattle.page_json.proofs.page_reading.link_in.Goals as goal

pub returns-clause-said : goal.returns-clause-said
returns-clause-said c =
    let key = c.args.key.now in
    let says = SaysLink c.args.base.now c.args.version in
    let text = c.as_bytes.result.now in
    after_ok (formed key (as_str (view c.args.member.now))) text (what_is_said says key) c.or_bad.result (c.in_ok-text.ensures.ok ∙ ap Ok (sym c.as_bytes.ensures.value))
    (said_from says key text c.said_link.result c.or_bad.result c.said_link.ensures.said c.said_link.ensures.exact c.or_bad.ensures.ok c.or_bad.ensures.err)
