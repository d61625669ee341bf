use Rattle.std.proofs.Common.{[], ◌∷◌, arith}
use Rattle.journey_text.specs.Words.{rest_words_of}
use Rattle.journey_text.proofs.ReadingLemmas.{behind_four, long_journey, no_walk_first, nothing_first}
use Rattle.journey_text.proofs.answer_reading.written_journey.Goals as goal

pub returns-in_default-clause-exact : goal.returns-in_default-clause-exact
returns-in_default-clause-exact c = λ journey sound small e.
    let long = long_journey c.args.words.now journey e in
    absurd (omega (arith, long, c.in_default.len_below))

pub returns-clause-exact : goal.returns-clause-exact
returns-clause-exact c = λ journey sound small e.
    let before = c.in_ok-before.ensures journey.before (rest_words_of journey.rides journey.after) sound.before (no_walk_first journey.rides journey.after journey.not_empty) (behind_four c.args.words.now journey e) in
    let rides = c.in_ok-rides.ensures journey.rides journey.after sound.rides before.1 in
    let after = c.in_ok-after.ensures journey.after ([] ∷ []) sound.after nothing_first rides.1 in
    c.arriving.ensures.exact journey small before.0 rides.0 after.0
