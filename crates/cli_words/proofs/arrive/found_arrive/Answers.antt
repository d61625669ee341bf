use Rattle.std.proofs.Common.{subst}
use Rattle.back_scan.specs.declared.arrive_query.ArriveQuery.{ArriveQuery}
use Rattle.cli_words.specs.Line.{arrive_line}
use Rattle.cli_words.specs.Published.{AsksPublished}
use Rattle.cli_words.proofs.QuestionLemmas.{one_arrival}
use Rattle.cli_words.proofs.arrive.found_arrive.Goals as goal

pub returns-in_default : goal.returns-in_default
returns-in_default c = λ words line found arrive says.
    let none = rw c.in_default.is at (c.in_ok-query.ensures arrive_line words found) in
    none arrive.query says.question

pub returns-in-Some-2 : goal.returns-in-Some-2
returns-in-Some-2 c = λ words line found.
    let asks = rw c.in-Some.is at (c.in_ok-query.ensures arrive_line words found) in
    record { is_line = line; question = asks; published = rw c.in-Some-2.is at (c.in_ok-published.ensures arrive_line words found) }

pub returns-in-None : goal.returns-in-None
returns-in-None c = λ words line found arrive says.
    let asks = rw c.in-Some.is at (c.in_ok-query.ensures arrive_line words found) in
    let same = one_arrival arrive_line words arrive.query c.in-Some.query says.question asks in
    let none = rw c.in-None.is at (c.in_ok-published.ensures arrive_line words found) in
    none arrive.published (subst (λ (q : ArriveQuery). AsksPublished arrive_line words q.arrive arrive.published) same says.published)
