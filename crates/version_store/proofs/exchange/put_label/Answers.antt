use Rattle.std.proofs.Common.{◌≡◌, ◌∙◌, false, rules}
use Rattle.std.specs.Prelude.{is_some}
use Rattle.version_store.specs.Filed.{listed}
use Rattle.version_store.proofs.ExchangeLemmas.{empty_put}
use Rattle.version_store.proofs.FiledLemmas.{put_has, put_stays}
use Rattle.version_store.proofs.exchange.put_label.Goals as goal

pub returns-in_ok-insert-clause-alike : goal.returns-in_ok-insert-clause-alike
returns-in_ok-insert-clause-alike c =
    let lacks : is_some (listed c.args.filed.now c.args.label.now) ≡ false = search rules in
    empty_put c.args.label.now c.in_ok-new.field-0 c.new-then-not-contains_key.result c.args.filed.now c.insert.new.self (c.in_ok-new.ensures ∙ c.bytes.ensures) c.new-then-not-contains_key.ensures lacks (λ q. c.in_ok-insert.ensures.updates.0 q)

pub returns-in_ok-insert-clause-stay : goal.returns-in_ok-insert-clause-stay
returns-in_ok-insert-clause-stay c = put_stays c.in_ok-new.field-0 c.new-then-not-contains_key.result c.args.filed.now c.insert.new.self (λ q. c.in_ok-insert.ensures.updates.0 q)

pub returns-in_ok-insert-clause-has : goal.returns-in_ok-insert-clause-has
returns-in_ok-insert-clause-has c = put_has c.in_ok-new.field-0 c.args.label.now c.new-then-not-contains_key.result c.args.filed.now c.insert.new.self (λ q. c.in_ok-insert.ensures.updates.0 q) (c.in_ok-new.ensures ∙ c.bytes.ensures)
