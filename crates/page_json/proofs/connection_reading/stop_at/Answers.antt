-- The text of the member says its stop.
use Rattle.std.proofs.Common.{Ok, ap, sym, ◌∙◌}
use Rattle.page_json.specs.Says.{SaysStop}
use Rattle.page_json.specs.ObjectMembers.View.{view}
use Rattle.page_json.specs.ObjectMembers.Members.{text_of}
use Rattle.page_json.specs.ObjectMembers.Reading.{what_is_said}
use Rattle.page_json.proofs.ObjectMembersLemmas.ReadingsLemmas.{after_ok, said_from}
use Rattle.page_json.proofs.connection_reading.stop_at.Goals as goal

pub returns : goal.returns
returns c =
    let key = c.args.key.now in
    let text = c.as_bytes.result.now in
    after_ok (text_of key (view c.args.value.now)) text (what_is_said (SaysStop c.args.base.now) key) c.or_bad.result (c.in_ok-text.ensures.ok ∙ ap Ok (sym c.as_bytes.ensures.value))
    (said_from (SaysStop c.args.base.now) key text c.in_ok-read.read c.or_bad.result c.in_ok-read.ensures.said c.in_ok-read.ensures.exact c.or_bad.ensures.ok c.or_bad.ensures.err)
