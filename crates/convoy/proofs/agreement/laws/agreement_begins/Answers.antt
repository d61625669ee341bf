use Rattle.convoy.proofs.AgreementLemmas.BeginLemmas.{added_agrees, later_agrees, none_agrees}
use Rattle.convoy.proofs.agreement.laws.agreement_begins.Goals as goal

pub returns : goal.returns
returns c = record { none = none_agrees; added = added_agrees c.steps_keep_agreement.ensures.begins; later = later_agrees }
