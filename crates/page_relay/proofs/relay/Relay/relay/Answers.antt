-- What holds of a relay holds after an exchange.
use Rattle.std.proofs.Common.{ap, refl}
use Rattle.page_relay.specs.Exchanger.{ExchangerState}
use Rattle.page_relay.specs.Kept.{reply_for, sent_to}
use Rattle.page_relay.specs.declared.sent.SentRequest.{SentRequest}
use Rattle.page_relay.proofs.FollowsLemmas.{follows_after}
use Rattle.page_relay.proofs.RecordedLemmas.{recorded_after}
use Rattle.page_relay.proofs.relay.Relay.relay.Goals as goal

pub invariant_of-self : goal.invariant_of-self
invariant_of-self g c =
    let was = c.self.inside in
    let recorded = c.recorded_exchange-result in
    let sent : SentRequest = sent_to c.args.authority.now c.args.request.now in
    let base = ap (λ (e : ExchangerState _). e.base) recorded.ensures.rest in
    let entries = ap (λ (e : ExchangerState _). e.memory.entries) recorded.ensures.rest in
    rw (c.stays_exact-self-inside.ensures, c.saturating_add-self-inside.ensures, base, entries) (record {
      recorded =
          recorded_after g.L.Link.seen (g.L.Link.seen was.made.value).recorded was.exchanger.inner recorded.new.exchanger.inner was.exchanger.base was.exchanger.memory.entries was.exchanger.memory.kept
          recorded.new.exchanger.memory.kept was.transcript was.relayed was.exchanger.forwarded recorded.new.exchanger.forwarded was.exact sent (reply_for sent was.exchanger.memory.kept) recorded.new.reply.items
          recorded.result recorded.new.transcript refl recorded.ensures.below recorded.ensures.kept recorded.ensures.records c.self.invariant.recorded;
      follows =
          follows_after g.L.Link.seen (g.L.Link.seen was.made.value).recorded was.exchanger.inner recorded.new.exchanger.inner was.exchanger.base was.exchanger.memory.entries was.exchanger.memory.kept recorded.new.exchanger.memory.kept was.transcript
          recorded.new.transcript was.exchanger.forwarded recorded.new.exchanger.forwarded was.exact c.args.authority.now c.args.request.now c.self.invariant.follows recorded.new.reply.items recorded.result recorded.ensures.below
          recorded.ensures.kept recorded.ensures.records;
    })

pub returns-clause-honest : goal.returns-clause-honest
returns-clause-honest g c = rw (← c.self.view_is) c.recorded_exchange-result.ensures.honest
