use Rattle.std.proofs.Common.{subst}
use Rattle.live_calls.specs.AddedRun.{IsKeyOf}
use Rattle.version_store.specs.Kept.{news_said}
use Rattle.version_store.proofs.LastNewsLemmas.{no_own_key, puts_own_key}
use Rattle.version_store.proofs.touched_keys.put_own_key.Goals as goal

pub returns : goal.returns
returns c =
    let said = news_said c.args.news in
    let key = subst (IsKeyOf said) c.in-Some.is c.in_ok-key.ensures in
    puts_own_key said c.in-Some.key c.args.keys.now c.insert.new.self key.0 (λ other. c.in_ok-insert.ensures.updates.0 other)

pub returns-in_default : goal.returns-in_default
returns-in_default c =
    let said = news_said c.args.news in
    no_own_key said c.args.keys.now (subst (IsKeyOf said) c.in_default.is c.in_ok-key.ensures)
