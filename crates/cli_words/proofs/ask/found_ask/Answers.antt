use Rattle.std.proofs.Common.{◌∙◌, subst, sym}
use Rattle.lc_model.specs.declared.query.Query.{Query}
use Rattle.cli_words.specs.Line.{ask_line}
use Rattle.cli_words.specs.Published.{AsksPublished}
use Rattle.cli_words.proofs.QuestionLemmas.{one_question}
use Rattle.cli_words.proofs.ask.found_ask.Goals as goal

pub returns-in_default : goal.returns-in_default
returns-in_default c = λ words line found ask says.
    absurd (cc (c.in_default.ensures.said ask_line words found ∙ says.cache_is))

pub returns-in_default-2 : goal.returns-in_default-2
returns-in_default-2 c = λ words line found ask says.
    let none = rw c.in_default-2.is at (c.in_ok-query.ensures ask_line words found) in
    none ask.query says.question

pub returns-in-Some-3 : goal.returns-in-Some-3
returns-in-Some-3 c = λ words line found.
    let asks = rw c.in-Some-2.is at (c.in_ok-query.ensures ask_line words found) in
    record { is_line = line; question = asks; published = rw c.in-Some-3.is at (c.in_ok-published.ensures ask_line words found); cache_is = sym (c.in-Some.ensures.said ask_line words found) }

pub returns-in-None : goal.returns-in-None
returns-in-None c = λ words line found ask says.
    let asks = rw c.in-Some-2.is at (c.in_ok-query.ensures ask_line words found) in
    let same = one_question ask_line words ask.query c.in-Some-2.query says.question asks in
    let none = rw c.in-None.is at (c.in_ok-published.ensures ask_line words found) in
    none ask.published (subst (λ (q : Query). AsksPublished ask_line words q.leave ask.published) same says.published)
