use Rattle.std.proofs.Common.{◌≢◌, ◌∙◌, ap, ap₂, codes, nat_eq, sym}
use Rattle.std.specs.Cmp.Lexicographic.{pointwise}
use Rattle.std.proofs.lemmas.Bool.{true≢false}
use Rattle.journey_text.specs.Words.{texts_of}
use Rattle.journey_text.proofs.ReadingLemmas.{is_journey_text}
use Rattle.journey_text.proofs.answer_reading.written_answer.Goals as goal

pub returns-in-Some-clause-exact : goal.returns-in-Some-clause-exact
returns-in-Some-clause-exact c = λ answer has e.
    let other : c.args.text.now ≢ codes "no journey\n" = λ same. true≢false (sym (ap₂ (pointwise nat_eq) same c.as_slice.ensures) ∙ sym c.if-eq.ensures) in
    let is = is_journey_text c.args.text.now _ _ (ap texts_of c.as_slice-2.ensures.value ∙ c.in_ok-words.ensures) other c.in_ok-journey.ensures.exact answer has e in
    let answer_is = is.answer_is in
    let read_is = is.read_is in
    let read = c.in-Some.is in
    cc

pub returns-clause-exact : goal.returns-clause-exact
returns-clause-exact c = λ answer has e.
    let other : c.args.text.now ≢ codes "no journey\n" = λ same. true≢false (sym (ap₂ (pointwise nat_eq) same c.as_slice.ensures) ∙ sym c.if-eq.ensures) in
    let is = is_journey_text c.args.text.now _ _ (ap texts_of c.as_slice-2.ensures.value ∙ c.in_ok-words.ensures) other c.in_ok-journey.ensures.exact answer has e in
    let read_is = is.read_is in
    let none = c.in-None.is in
    cc
