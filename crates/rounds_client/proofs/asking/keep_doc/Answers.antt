use Rattle.std.proofs.Common.{Some, ap, ◌∙◌}
use Rattle.rounds_client.proofs.StopsLemmas.{copied, none_copied}
use Rattle.rounds_client.proofs.asking.keep_doc.Goals as goal

pub returns-in_ok-copy-clause-doc : goal.returns-in_ok-copy-clause-doc
returns-in_ok-copy-clause-doc c = λ doc taken stands. ap Some (c.in_ok-copy.ensures ∙ copied c.doc.result c.in-Some.doc doc (c.doc.ensures doc taken stands) c.in-Some.is)

pub returns-in_default-clause-doc : goal.returns-in_default-clause-doc
returns-in_default-clause-doc c = λ doc taken stands. absurd (none_copied c.doc.result doc (c.doc.ensures doc taken stands) c.in_default.not-Some)
