use Rattle.std.proofs.Common.{◌≡◌, ◌++◌}
use Rattle.lc_world.specs.Link.{IsQuietWith}
use Rattle.lc_world.specs.Sides.Side.{Side}
use Rattle.back_client.specs.Ends.Asked.{HasAskedLatest}
use Rattle.cli_ask.proofs.HomeLemmas.{home_seen, left_outside, of_end}
use Rattle.cli_ask.specs.Block.{client_text_of}
use Rattle.cli_ask.specs.declared.end.ClientEnd.{ClientEnd}
use Rattle.cli_ask.specs.declared.question.Asked.{Asked}
use Rattle.cli_ask.specs.LatestDeparture.Asked.{AsksPublisher}
use Rattle.cli_ask.specs.LatestDeparture.Client.{EndsRightLatest}
use Rattle.cli_ask.proofs.LatestDepartureLemmas.HomeLemmas.{asks_publisher}
use Rattle.cli_ask.proofs.latest_departure.question.ask_home.Goals as goal

pub returns-clause-asks : goal.returns-clause-asks
returns-clause-asks g c =
    let opened = c.args.opened in
    let before = home_seen g.L.Link.seen opened.home in
    let after = home_seen g.L.Link.seen c.client_end-ended.new.link in
    of_end c.printed.result c.client_end-ended.result
    (λ (a : Asked). a.text.items ≡ opened.line.items ++ client_text_of 1 a.end)
    (λ (end : ClientEnd). HasAskedLatest opened.base c.args.query before after end.version end.exchanges end.outcome)
    (λ (end : ClientEnd). (side : Side) → IsQuietWith before opened.base side → EndsRightLatest side opened.base c.args.query before.recorded after.recorded before.faults after.faults end)
    (λ (a : Asked). AsksPublisher opened.home.local.publisher opened.base opened.line.items c.args.query (g.L.Link.seen opened.home.outer) (g.L.Link.seen c.into_outer.result) a.text.items a.end)
    (λ a. a.end)
    (λ a said asks right. asks_publisher g.L.Link.seen opened.home c.client_end-ended.new.link opened.base opened.line.items c.args.query c.into_outer.result a.text.items a.end c.into_outer.ensures
    asks right said)
    c.printed.ensures.text c.printed.ensures.end c.client_end-ended.ensures.asks c.client_end-ended.ensures.right

pub returns-clause-left : goal.returns-clause-left
returns-clause-left g c =
    left_outside g.L.Link.seen c.args.opened.home c.client_end-ended.new.link c.into_outer.result c.into_outer.ensures c.client_end-ended.ensures.left c.client_end-ended.ensures.behind
