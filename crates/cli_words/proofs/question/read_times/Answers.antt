use Rattle.std.proofs.Common.{◌∙◌, ℕ, List, codes, subst, sym}
use Rattle.cli_words.specs.Question.{SaysMomentWithin}
use Rattle.cli_words.proofs.WordsLemmas.{same_text}
use Rattle.cli_words.proofs.question.read_times.Goals as goal

pub returns-in_default-clause-said : goal.returns-in_default-clause-said
returns-in_default-clause-said c = λ a words found moment known horizon says.
    let same = same_text _ _ (c.in_ok-word.ensures ∙ found (codes "moment") ∙ says.word_is) in
    c.in_default.ensures moment (subst (λ (text : List ℕ). SaysMomentWithin c.args.low c.args.high text moment) (sym same) says.moment_is)
