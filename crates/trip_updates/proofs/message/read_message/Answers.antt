use Rattle.std.proofs.Common.{List, ℕ, subst}
use Rattle.trip_updates.specs.Table.{feed_message}
use Rattle.trip_updates.specs.Faults.{read}
use Rattle.trip_updates.specs.Shows.{Answers, ShowsUpdate}
use Rattle.trip_updates.proofs.TreesLemmas.{all_bytes, read_message_is, only_message_is, fault_is}
use Rattle.trip_updates.proofs.message.read_message.Goals as goal

pub returns-clause-message : goal.returns-clause-message
returns-clause-message c =
    read_message_is c.args.bytes.now c.read_feed.result (subst (λ (b : List ℕ). Answers ShowsUpdate c.read_feed.result (read 4 feed_message 0 b)) (all_bytes c.args.bytes.now) c.read_feed.ensures)

pub returns-clause-only_message : goal.returns-clause-only_message
returns-clause-only_message c = λ update m.
    only_message_is c.args.bytes.now c.read_feed.result update (subst (λ (b : List ℕ). Answers ShowsUpdate c.read_feed.result (read 4 feed_message 0 b)) (all_bytes c.args.bytes.now) c.read_feed.ensures) m

pub returns-clause-fault : goal.returns-clause-fault
returns-clause-fault c =
    fault_is c.args.bytes.now c.read_feed.result (subst (λ (b : List ℕ). Answers ShowsUpdate c.read_feed.result (read 4 feed_message 0 b)) (all_bytes c.args.bytes.now) c.read_feed.ensures)
