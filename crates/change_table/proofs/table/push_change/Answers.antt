-- What is pushed is the change between the stops.
use Rattle.change_table.proofs.PushLemmas.{pushed_is}
use Rattle.change_table.proofs.table.push_change.Goals as goal

pub returns-in_ok-push-clause-added : goal.returns-in_ok-push-clause-added
returns-in_ok-push-clause-added c =
    pushed_is c.push.new.self.items c.args.changes.now.items _ c.args.from.now.id c.args.to.now.id c.in-Some.seconds c.args.seconds c.in_ok-push.ensures.items
    c.in_ok-from.ensures c.in_ok-to.ensures c.max-seconds.ensures c.in-Some.is
