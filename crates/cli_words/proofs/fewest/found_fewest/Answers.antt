use Rattle.std.proofs.Common.{subst}
use Rattle.lc_model.specs.declared.query.Query.{Query}
use Rattle.cli_words.specs.Line.{fewest_line}
use Rattle.cli_words.specs.Published.{AsksPublished}
use Rattle.cli_words.proofs.QuestionLemmas.{one_question}
use Rattle.cli_words.proofs.fewest.found_fewest.Goals as goal

pub returns-in_default : goal.returns-in_default
returns-in_default c = λ words line found fewest says.
    let none = rw c.in_default.is at (c.in_ok-query.ensures fewest_line words found) in
    none fewest.query says.question

pub returns-in-Some-2 : goal.returns-in-Some-2
returns-in-Some-2 c = λ words line found.
    let asks = rw c.in-Some.is at (c.in_ok-query.ensures fewest_line words found) in
    record { is_line = line; question = asks; published = rw c.in-Some-2.is at (c.in_ok-published.ensures fewest_line words found) }

pub returns-in-None : goal.returns-in-None
returns-in-None c = λ words line found fewest says.
    let asks = rw c.in-Some.is at (c.in_ok-query.ensures fewest_line words found) in
    let same = one_question fewest_line words fewest.query c.in-Some.query says.question asks in
    let none = rw c.in-None.is at (c.in_ok-published.ensures fewest_line words found) in
    none fewest.published (subst (λ (q : Query). AsksPublished fewest_line words q.leave fewest.published) same says.published)
