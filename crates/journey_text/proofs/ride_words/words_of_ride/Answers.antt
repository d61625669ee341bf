use Rattle.std.proofs.Common.{◌∙◌, [], ap₂, arith, nat_eq, refl, sym}
use Rattle.std.specs.Cmp.Lexicographic.{pointwise}
use Rattle.std.proofs.lemmas.Bool.{true≢false}
use Rattle.std.proofs.lemmas.Bool.Decides.{Decides-eqb}
use Rattle.std.proofs.lemmas.Slice.Eq.{slice_eq-Decides}
use Rattle.journey_text.proofs.ReadingLemmas.{are_words, first_said, long_ride, ride_mark}
use Rattle.journey_text.proofs.ride_words.words_of_ride.Goals as goal

pub returns-in_default-clause-exact : goal.returns-in_default-clause-exact
returns-in_default-clause-exact c = λ ride behind e.
    let long = long_ride c.args.words.now ride behind e in
    omega (arith, long, c.in_default.len_below)

pub returns-then-eq-clause-mark : goal.returns-then-eq-clause-mark
returns-then-eq-clause-mark c = λ word behind e.
    first_said c.args.words.now (record { ref_ptr = (0, 0); now = [] }) _ word behind (omega arith) ((slice_eq-Decides Decides-eqb _ _ _ c.if-eq.ensures).0 refl ∙ c.as_slice.ensures) e

pub returns-then-eq-clause-exact : goal.returns-then-eq-clause-exact
returns-then-eq-clause-exact c = λ ride behind e. are_words c.args.words.now _ ride behind (omega arith) e

pub returns-else-eq-clause-exact : goal.returns-else-eq-clause-exact
returns-else-eq-clause-exact c = λ ride behind e.
    let is = ride_mark c.args.words.now (record { ref_ptr = (0, 0); now = [] }) ride behind e in
    true≢false (sym (ap₂ (pointwise nat_eq) is c.as_slice.ensures) ∙ sym c.if-eq.ensures)
