use Rattle.std.proofs.Common.{sym, subst, ◌∙◌}
use Rattle.http_text.specs.Taken.{Takes, WaitsFor}
use Rattle.http_text.proofs.StartLemmas.{takes_start, waits_start, needs_start, opens_start}
use Rattle.http_text.proofs.TakenLemmas.{one_answer, whole_is, every_whole}
use Rattle.http_text.proofs.room.HeadRoom.take_request.Goals as goal

pub returns-clause-said : goal.returns-clause-said
returns-clause-said c = subst (Takes c.args.bytes.now) (sym c.taken.ensures) (takes_start c.args.bytes.now c.start_in-start.result c.start_in-start.ensures)

pub returns-clause-only : goal.returns-clause-only
returns-clause-only c = λ other is. one_answer c.args.bytes.now c.taken.result other (returns-clause-said c) is

pub returns-clause-whole : goal.returns-clause-whole
returns-clause-whole c = λ n e. whole_is c.args.bytes.now n (subst (Takes c.args.bytes.now) e (returns-clause-said c))

pub returns-clause-every_whole : goal.returns-clause-every_whole
returns-clause-every_whole c = λ n le whole. every_whole c.args.bytes.now c.taken.result n (returns-clause-said c) le whole

pub returns-clause-waits : goal.returns-clause-waits
returns-clause-waits c = λ later.
    subst (WaitsFor c.args.bytes.now) (sym c.waits_for-self.ensures)
    (waits_start c.args.bytes.now c.start_in-start.result c.start_in-start.ensures (sym c.taken.ensures ∙ later))

pub returns-clause-waits_for_body : goal.returns-clause-waits_for_body
returns-clause-waits_for_body c = λ later h has.
    c.waits_for-self.ensures
    ∙ needs_start c.args.bytes.now c.start_in-start.result c.start_in-start.ensures (sym c.taken.ensures ∙ later) h has

pub returns-clause-waits_for_head : goal.returns-clause-waits_for_head
returns-clause-waits_for_head c = λ later none.
    c.waits_for-self.ensures
    ∙ opens_start c.args.bytes.now c.start_in-start.result c.start_in-start.ensures (sym c.taken.ensures ∙ later) none
