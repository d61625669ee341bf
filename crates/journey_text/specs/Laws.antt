-- Answers of one text are one.
use Rattle.std.specs.Prelude.{◌≡◌}
use Rattle.lc_model.specs.declared.answer.Answer.{Answer}
use Rattle.journey_text.specs.AnswerText.{answer_text_of}
use Rattle.journey_text.specs.Sound.{HasText}

-- different answers have different texts
abbrev pub AnswersDiffer : Type 0
AnswersDiffer = (a b : Answer) → HasText a → HasText b → answer_text_of a ≡ answer_text_of b → a ≡ b
