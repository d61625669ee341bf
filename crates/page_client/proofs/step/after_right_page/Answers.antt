use Rattle.std.proofs.Common.{ap, refl, subst}
use Rattle.page_client.specs.Course.{TakesOn}
use Rattle.page_client.specs.declared.step.Sequel.TheVariants.{Ends}
use Rattle.page_client.specs.declared.step.Step.{Step}
use Rattle.page_client.specs.declared.step.Step.TheVariants.{Last, Next}
use Rattle.page_client.proofs.step.after_right_page.Goals as goal

pub returns-in-Next : goal.returns-in-Next
returns-in-Next c =
    let T : Step → Type 0 = λ step. TakesOn c.args.scan.now c.take.new.scan c.args.page.now step in
    record { step = Next c.in-Next.next; takes = subst T c.in-Next.is c.in_ok-next.ensures; is = refl }

pub returns-in-Last : goal.returns-in-Last
returns-in-Last c =
    let T : Step → Type 0 = λ step. TakesOn c.args.scan.now c.take.new.scan c.args.page.now step in
    record { step = Last c.in-Last.journey; takes = subst T c.in-Last.is c.in_ok-next.ensures; is = ap Ends c.answered.ensures }
