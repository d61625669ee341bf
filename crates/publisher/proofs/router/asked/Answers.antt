use Rattle.std.proofs.Common.{◌∙◌, sym}
use Rattle.publisher.proofs.AskingLemmas.{nothing_taken, nothing_there, stops_asked, update_asked}
use Rattle.publisher.proofs.router.asked.Goals as goal
use Rattle.publisher.proofs.router.asked.Goals.{else-accepts_updates-via-then-accepts_updates+else-is_under-4, else-accepts_updates-via-else-accepts_updates}

pub returns-then-is_under-3 : goal.returns-then-is_under-3
returns-then-is_under-3 c =
    c.by_reading-then-is_under-3.ensures
    ∙ stops_asked c.args.base.now c.args.accepts_updates c.args.path.now c.args.method.now (sym c.is_under.ensures ∙ c.if-is_under.false)
    (sym c.is_under-else-is_under.ensures ∙ c.if-is_under-2.false) (sym c.is_under-else-is_under-2.ensures ∙ c.if-is_under-3.true)

pub returns-then-is_under-4 : goal.returns-then-is_under-4
returns-then-is_under-4 c =
    c.by_posting.ensures
    ∙ update_asked c.args.base.now c.args.accepts_updates c.args.path.now c.args.method.now (sym c.is_under.ensures ∙ c.if-is_under.false)
    (sym c.is_under-else-is_under.ensures ∙ c.if-is_under-2.false) (sym c.is_under-else-is_under-2.ensures ∙ c.if-is_under-3.false)
    c.if-accepts_updates.true (sym c.is_under-then-accepts_updates.ensures ∙ c.if-is_under-4.true)

pub returns-else-accepts_updates : goal.returns-else-accepts_updates
returns-else-accepts_updates c =
    let no_gate = sym c.is_under.ensures ∙ c.if-is_under.false in
    let no_page = sym c.is_under-else-is_under.ensures ∙ c.if-is_under-2.false in
    let no_stops = sym c.is_under-else-is_under-2.ensures ∙ c.if-is_under-3.false in
    elim c.else-accepts_updates.branch [
      | else-accepts_updates-via-then-accepts_updates+else-is_under-4 w ↦ nothing_there c.args.base.now c.args.accepts_updates c.args.path.now c.args.method.now no_gate no_page no_stops
          (sym w.is_under-then-accepts_updates.ensures ∙ w.if-is_under-4.false)
      | else-accepts_updates-via-else-accepts_updates w ↦ nothing_taken c.args.base.now c.args.accepts_updates c.args.path.now c.args.method.now no_gate no_page no_stops w.if-accepts_updates.false
    ]
