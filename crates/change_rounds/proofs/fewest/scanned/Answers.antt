use Rattle.std.proofs.Common.{[]}
use Rattle.change_rounds.proofs.fewest.scanned.Goals as goal

pub returns-in_ok-take_all-in-Ok : goal.returns-in_ok-take_all-in-Ok
returns-in_ok-take_all-in-Ok c = c.in_ok-take_all-in-Ok.ensures.ok c.args.query.now c.args.doc.now [] c.requires.in_order c.in-Ok.ensures.ok
