use Rattle.std.proofs.lemmas.Result.{on_ok_weaker}
use Rattle.version_store.proofs.changes.put_turn.Goals as goal

pub returns : goal.returns
returns c =
    on_ok_weaker c.put_change.result
    (λ puts before after in_old in_new. record {
      was = c.in_ok-was.was';
      is_now = c.in_ok-is_now.is_now;
      by_before = c.in_ok-was.ensures.calls before in_old;
      by_after = c.in_ok-is_now.ensures.calls after in_new;
      forward = c.in_ok-is_now.ensures.forward;
      puts = puts;
    })
    c.put_change.ensures
