use Rattle.std.proofs.Common.{◌∙◌, [], ap₂, arith, nat_eq, refl, sym}
use Rattle.std.specs.Cmp.Lexicographic.{pointwise}
use Rattle.std.proofs.lemmas.Bool.{true≢false}
use Rattle.std.proofs.lemmas.Bool.Decides.{Decides-eqb}
use Rattle.std.proofs.lemmas.Slice.Eq.{slice_eq-Decides}
use Rattle.journey_text.proofs.ReadingLemmas.{no_walk_there, walk_there}
use Rattle.journey_text.proofs.answer_reading.written_walk.Goals as goal

pub returns-in_default : goal.returns-in_default
returns-in_default c = λ walk behind sound first e.
    no_walk_there c.args.words.now (record { ref_ptr = (0, 0); now = [] }) (λ long is. absurd (omega (arith, long, c.in_default.len_below))) walk behind e

pub returns-in_ok-walk_of : goal.returns-in_ok-walk_of
returns-in_ok-walk_of c =
    walk_there c.args.words.now _ _ (omega arith) ((slice_eq-Decides Decides-eqb _ _ _ c.if-eq.ensures).0 refl ∙ c.as_slice.ensures) c.in_ok-walk_of.ensures

pub returns-else-eq : goal.returns-else-eq
returns-else-eq c = λ walk behind sound first e.
    no_walk_there c.args.words.now (record { ref_ptr = (0, 0); now = [] }) (λ long is. true≢false (sym (ap₂ (pointwise nat_eq) is c.as_slice.ensures) ∙ sym c.if-eq.ensures)) walk behind e
