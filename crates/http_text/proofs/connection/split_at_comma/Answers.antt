use Rattle.std.proofs.Common.{◌+◌, ◌∙◌, take, drop, sym, ap}
use Rattle.http_text.specs.declared.connection.Quoting.{Quoting}
use Rattle.http_text.specs.declared.connection.Quoting.TheVariants.{Outside}
use Rattle.http_text.specs.Elements.{elements}
use Rattle.http_text.proofs.ElementLemmas.{with_front, begins, goes_on, parted, ended}
use Rattle.http_text.proofs.connection.split_at_comma.Goals as goal

pub loop-at-init : goal.loop-at-init
loop-at-init c = begins c.args.list.now

pub loop-at-preserved : goal.loop-at-preserved
loop-at-preserved c =
    let list = c.args.list.now in
    let at = c.loop-at.at in
    ap (λ (q : Quoting). with_front (take (at + 1) list) (elements q (drop (at + 1) list))) c.quoting_after-quoting.ensures
    ∙ goes_on list at c.loop-at.quoting (elements Outside list) c.loop-at-test.true (sym c.is_part.ensures ∙ c.if-is_part.false) c.loop-at.invariant

pub returns-then-is_part-clause-parts : goal.returns-then-is_part-clause-parts
returns-then-is_part-clause-parts c =
    parted c.args.list.now c.loop-at.at c.loop-at.quoting (elements Outside c.args.list.now) c.loop-at-test.true (sym c.is_part.ensures ∙ c.if-is_part.true) c.loop-at.invariant

pub returns-clause-parts : goal.returns-clause-parts
returns-clause-parts c =
    ended c.args.list.now c.loop-at.at c.loop-at.quoting (elements Outside c.args.list.now) c.loop-at-test.false c.loop-at.invariant
