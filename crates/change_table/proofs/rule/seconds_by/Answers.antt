-- What the deciding row says, or what is usual.
use Rattle.std.proofs.Common.{true, false}
use Rattle.change_table.proofs.RowLemmas.{by_row, without_row}
use Rattle.change_table.proofs.rule.seconds_by.Goals as goal

pub returns-in-Some : goal.returns-in-Some
returns-in-Some c =
    by_row c.args.own.now c.args.of_parent.now c.args.default c.args.from.now c.args.to.now _ _ c.in-Some.ensures c.said_seconds.ensures

pub returns-in-None : goal.returns-in-None
returns-in-None c =
    without_row c.args.own.now c.args.of_parent.now c.args.default c.args.from.now c.args.to.now true c.in-None.ensures c.if-are_together.ensures

pub returns-in-None-2 : goal.returns-in-None-2
returns-in-None-2 c =
    without_row c.args.own.now c.args.of_parent.now c.args.default c.args.from.now c.args.to.now false c.in-None.ensures c.if-are_together.ensures
