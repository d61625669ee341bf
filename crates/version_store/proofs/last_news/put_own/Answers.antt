use Rattle.std.proofs.Common.{subst}
use Rattle.live_calls.specs.AddedRun.{IsKeyOf}
use Rattle.version_store.specs.Kept.{news_said}
use Rattle.version_store.proofs.LastNewsLemmas.{puts_none, puts_own}
use Rattle.version_store.proofs.last_news.put_own.Goals as goal

pub returns : goal.returns
returns c =
    let key = subst (IsKeyOf (news_said c.args.news)) c.in-Some.is c.in_ok-key.ensures in
    puts_own c.args.news c.in-Some.key c.args.own.now c.insert.new.self key.0 (λ other. c.in_ok-insert.ensures.updates.0 other)

pub returns-in_default : goal.returns-in_default
returns-in_default c =
    let none = subst (IsKeyOf (news_said c.args.news)) c.in_default.is c.in_ok-key.ensures in
    puts_none c.args.news c.args.own.now none
