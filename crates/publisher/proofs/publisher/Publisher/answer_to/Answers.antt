use Rattle.std.proofs.Common.{◌≡◌, ◌∙◌, ap, sym, subst, List, ℕ}
use Rattle.std.specs.Prelude.{IfOk, OnOk}
use Rattle.lc_world.specs.Sides.Reply.{IsNextSide, text_said}
use Rattle.publisher.specs.Updated.{IsUpdated}
use Rattle.publisher.specs.Held.{side_of}
use Rattle.publisher.proofs.AnswerLemmas.{plain_next_if, plain_reply_if, update_next_if, update_reply_if}
use Rattle.publisher.proofs.UpdateLemmas.{on_err}
use Rattle.publisher.proofs.publisher.Publisher.answer_to.Goals as goal

pub returns-in-Update-clause-reply : goal.returns-in-Update-clause-reply
returns-in-Update-clause-reply g c =
    let cuts_of = g.G.Fragmenter.cuts_of in
    let side = side_of cuts_of c.args.self.now in
    update_reply_if side c.args.bytes.now c.args.request.now c.requires (side_of cuts_of c.update.new.self) c.update.result (sym c.in-Update.is ∙ c.asked.ensures)
    (subst (λ (body : List ℕ). IfOk c.update.result (λ text. IsUpdated side c.args.request.now body text.items (side_of cuts_of c.update.new.self))) c.body_of.ensures c.update.ensures.updated)

pub returns-in-Update-clause-next : goal.returns-in-Update-clause-next
returns-in-Update-clause-next g c =
    let cuts_of = g.G.Fragmenter.cuts_of in
    let side = side_of cuts_of c.args.self.now in
    update_next_if side c.args.bytes.now c.args.request.now c.requires (side_of cuts_of c.update.new.self) c.update.result (sym c.in-Update.is ∙ c.asked.ensures)
    (subst (λ (body : List ℕ). IfOk c.update.result (λ text. IsUpdated side c.args.request.now body text.items (side_of cuts_of c.update.new.self))) c.body_of.ensures c.update.ensures.updated)

pub returns-in_ok-response-in_default : goal.returns-in_ok-response-in_default
returns-in_ok-response-in_default g c =
    let cuts_of = g.G.Fragmenter.cuts_of in
    let side = side_of cuts_of c.args.self.now in
    let asked = c.asked.result in
    let is = c.asked.ensures in
    let request = c.args.request.now in
    let response = c.in_ok-response-in_default.response in
    let same = c.in_ok-response-in_default.ensures.same in
    let said = subst (λ held. IfOk c.reply.result (λ text. text.items ≡ text_said (side_of cuts_of held) request response)) same c.reply.ensures.text in
    record {
      reply = plain_reply_if side c.args.bytes.now request c.requires asked response c.reply.result is c.in_ok-response-in_default.ensures.said c.reply.ensures.sound said;
      next =
          subst (λ held. OnOk c.reply.result (IsNextSide side c.args.bytes.now (side_of cuts_of held))) (sym same)
          (plain_next_if side c.args.bytes.now request c.requires asked c.reply.result is c.in_default.not-Update);
      cutting = ap (λ held. held.cutting) same;
      unchanged = on_err _ c.reply.result same;
    }
