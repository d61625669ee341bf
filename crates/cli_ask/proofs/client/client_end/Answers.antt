use Rattle.std.proofs.Common.{◌≡◌, ◌∙◌, ◌+◌, ◌-◌, ℕ, ap, length, subst}
use Rattle.std.specs.List.{slice_get}
use Rattle.std.specs.Option.{IfSome}
use Rattle.convoy.specs.Replies.Run.{HasRun}
use Rattle.convoy.specs.Finish.{Rounds}
use Rattle.convoy.specs.State.{Adds, ConvoyState, begun}
use Rattle.convoy.specs.declared.member.Member.{Member}
use Rattle.page_client.specs.Client.{shown}
use Rattle.cli_ask.proofs.ClientLemmas.{IsSaid, asks, printable, right}
use Rattle.cli_ask.specs.declared.end.ClientEnd.{ClientEnd}
use Rattle.lc_world.proofs.GoneOnLemmas.{no_gets}
use Rattle.cli_ask.proofs.client.client_end.Goals as goal

-- the client was added to a convoy without clients
adds : (g : _) (c : goal.In-Some g) → Adds (begun c.args.base c.args.cache) c.args.query c.ask.new.self
adds g c = subst (λ (s : ConvoyState). Adds s c.args.query c.ask.new.self) c.in_ok-convoy.ensures c.in_ok-client.ensures.asks

-- it is the first client
first : (g : _) (c : goal.In-Some g) → c.in_ok-client.client ≡ 1
first g c = c.in_ok-client.ensures.number ∙ ap (λ (s : ConvoyState). length s.members + 1) c.in_ok-convoy.ensures

abbrev ended : (g : _) (c : goal.In-Some g) → ClientEnd
ended g c = record { version = c.version-version.result; outcome = c.in-Some.outcome; exchanges = c.exchanges-exchanges.result }

said : (g : _) (c : goal.In-Some g) → IsSaid c.finish.new.self c.in_ok-client.client (ended g c)
said g c = record { version = c.version-version.ensures; exchanges = c.exchanges-exchanges.ensures.count; outcome = subst (λ o. IfSome (slice_get c.finish.new.self.members (c.in_ok-client.client - 1)) (λ (m : Member). o ≡ (shown m.client).outcome)) c.in-Some.is c.into_outcome.ensures }

run : (g : _) (c : goal.In-Some g) → HasRun c.args.base c.args.query (g.L.Link.seen c.args.link.now) (g.L.Link.seen c.finish.new.link) c.finish.new.self
run g c =
    let one : length c.ask.new.self.members ≡ 1 = ap (λ (s : ConvoyState). length s.members) (adds g c).is in
    let rounds = subst (λ (n : ℕ). Rounds g.L.Link.seen n c.ask.new.self c.finish.new.self c.args.link.now c.finish.new.link) one c.in_ok-finish.ensures.rounds in
    c.alone_over_any_link.ensures c.args.base c.args.cache c.args.query c.ask.new.self c.finish.new.self c.args.link.now c.finish.new.link (adds g c) rounds

pub returns-clause-asks : goal.returns-clause-asks
returns-clause-asks g c =
    asks c.args.base c.args.query c.finish.new.self (g.L.Link.seen c.args.link.now) (g.L.Link.seen c.finish.new.link) c.in_ok-client.client (first g c) (ended g c) (said g c) (run g c)

pub returns-clause-printable : goal.returns-clause-printable
returns-clause-printable g c =
    let asked = asks c.args.base c.args.query c.finish.new.self (g.L.Link.seen c.args.link.now) (g.L.Link.seen c.finish.new.link) c.in_ok-client.client (first g c) (ended g c) (said g c) (run g c) in
    printable c.args.base c.args.query _ _ _ asked.made c.in-Some.outcome asked.ends

pub returns-clause-right : goal.returns-clause-right
returns-clause-right g c = λ side quiet.
    right c.args.base c.args.query c.finish.new.self (g.L.Link.seen c.args.link.now) (g.L.Link.seen c.finish.new.link) c.in_ok-client.client (first g c) (ended g c) (said g c) side
    (c.one_client.ensures side c.args.base c.args.cache c.args.query c.ask.new.self c.finish.new.self c.args.link.now c.finish.new.link quiet (adds g c) c.in_ok-finish.ensures.rounds)

pub returns-in_err-convoy-clause-left : goal.returns-in_err-convoy-clause-left
returns-in_err-convoy-clause-left g c = no_gets _

pub returns-in_err-client-clause-left : goal.returns-in_err-client-clause-left
returns-in_err-client-clause-left g c = no_gets _
