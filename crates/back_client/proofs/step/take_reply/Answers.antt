use Rattle.std.proofs.Common.{Ok, refl}
use Rattle.back_client.specs.Wrong.{wrong_of}
use Rattle.back_client.proofs.StepLemmas.{both_so, leads_by}
use Rattle.back_client.proofs.step.take_reply.Goals as goal

pub returns-in-Ok-clause-takes : goal.returns-in-Ok-clause-takes
returns-in-Ok-clause-takes c =
    let page = c.in-Ok.page in
    both_so c.after_page.result _ _ _ (λ sequel wrong right. record {
      said = Ok page;
      says = rw c.as_slice.ensures.value at c.in-Ok.ensures.said;
      after = (
        record { valid = c.in-Ok.ensures.valid; named = c.in-Ok.ensures.named; on = c.in-Ok.ensures.advances },
        leads_by c.args.arrive c.args.place page c.args.reply.items c.args.scan.now c.after_page.new.scan sequel (wrong_of c.args.arrive c.args.place page c.args.reply.items) refl wrong right,
      );
    }) c.after_page.ensures.wrong c.after_page.ensures.right
