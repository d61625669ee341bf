use Rattle.std.proofs.Common.{◌≡◌, ◌∙◌, sym, subst, length}
use Rattle.std.specs.Prelude.{IfOk}
use Rattle.publisher.specs.Held.{side_of}
use Rattle.publisher.specs.Updated.{Becomes, IsRefusal, IsUpdated}
use Rattle.lc_world.specs.Sides.Side.{with_message}
use Rattle.publisher.proofs.UpdateLemmas.{admitted_side, refusal_if, taken, updated_if, without_length}
use Rattle.publisher.proofs.publisher.Publisher.update.Goals as goal

pub returns-then-not-says_length-clause-updated : goal.returns-then-not-says_length-clause-updated
returns-then-not-says_length-clause-updated g c =
    let side = side_of g.G.Fragmenter.cuts_of c.args.self.now in
    updated_if side side c.args.request.now c.args.body.now 411 c.reply.result
    (without_length side c.args.request.now c.args.body.now (sym c.says_length.ensures ∙ c.if-not-says_length.true)) c.reply.ensures.text

pub returns-in-Ok-clause-updated : goal.returns-in-Ok-clause-updated
returns-in-Ok-clause-updated g c =
    let cuts_of = g.G.Fragmenter.cuts_of in
    let old = c.args.self.now in
    let admits = c.in-Ok.ensures.taken in
    let next : side_of cuts_of c.admit.new.self ≡ with_message (side_of cuts_of old) admits.update (length c.args.body.now) =
    admitted_side cuts_of old c.admit.new.self admits.update (length c.args.body.now) c.in-Ok.ensures.same admits.appended in
    record {
      status = 204;
      becomes =
          subst (Becomes (side_of cuts_of old) c.args.request.now c.args.body.now 204) (sym next)
          (taken cuts_of old c.args.request.now c.args.body.now admits.update (sym c.says_length.ensures ∙ c.if-not-says_length.false) admits.taken);
      text_is = c.in_ok-admitted.ensures.text;
    }

pub returns-in-Err-clause-updated : goal.returns-in-Err-clause-updated
returns-in-Err-clause-updated g c =
    let cuts_of = g.G.Fragmenter.cuts_of in
    let same = c.in-Err.ensures.unchanged in
    let refusal = subst (λ held. IfOk c.refusal.result (λ text. IsRefusal (side_of cuts_of held) c.args.request.now c.in-Err.fault text.items)) same c.refusal.ensures in
    let reply = refusal_if cuts_of c.args.self.now c.args.request.now c.args.body.now c.in-Err.fault c.refusal.result (sym c.says_length.ensures ∙ c.if-not-says_length.false) c.in-Err.ensures.refused refusal in
    subst (λ held. IfOk c.refusal.result (λ text. IsUpdated (side_of cuts_of c.args.self.now) c.args.request.now c.args.body.now text.items (side_of cuts_of held))) (sym same) reply
