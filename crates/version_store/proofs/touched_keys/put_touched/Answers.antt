use Rattle.std.proofs.lemmas.Result.{on_ok_weaker}
use Rattle.version_store.specs.Kept.{news_said}
use Rattle.version_store.proofs.LastNewsLemmas.{puts_touched}
use Rattle.version_store.proofs.touched_keys.put_touched.Goals as goal

pub returns : goal.returns
returns c =
    on_ok_weaker c.put_plain_key.result (λ plain. puts_touched (news_said c.args.news) c.args.keys.now c.put_own_key.new.keys c.put_plain_key.new.keys c.in_ok-put_own_key.ensures plain)
    c.put_plain_key.ensures
