-- What holds of a relay holds after an answer was handed on.
use Rattle.std.proofs.Common.{ap}
use Rattle.page_relay.specs.Exchanger.{ExchangerState}
use Rattle.page_relay.proofs.FollowsLemmas.{follows_not}
use Rattle.page_relay.proofs.RecordedLemmas.{passed_after}
use Rattle.page_relay.proofs.relay.Relay.pass_on.Goals as goal

pub invariant_of-self : goal.invariant_of-self
invariant_of-self g c =
    let was = c.self.inside in
    let recorded = c.recorded_pass in
    let kept = ap (λ (e : ExchangerState _). e.memory.kept) recorded.ensures.rest in
    let forwarded = ap (λ (e : ExchangerState _). e.forwarded) recorded.ensures.rest in
    rw (kept, forwarded) (record {
      recorded =
          passed_after (g.L.Link.seen was.made.value).recorded (g.L.Link.seen was.exchanger.inner).recorded (g.L.Link.seen recorded.new.exchanger.inner).recorded was.exchanger.memory.kept was.transcript
          recorded.new.transcript was.relayed was.exchanger.forwarded was.exact c.args.authority.now c.args.request.now recorded.new.reply.items recorded.result recorded.ensures.below recorded.ensures.records c.self.invariant.recorded;
      follows = follows_not _ _ _ _ _ _ _;
    })
