use Rattle.std.proofs.Common.{◌∙◌, ℕ, List, codes, ap, subst, sym}
use Rattle.lc_time.specs.Iso.{SaysMoment}
use Rattle.cli_words.specs.Options.{text_said}
use Rattle.cli_words.specs.Publishing.{SaysBase}
use Rattle.cli_words.proofs.publishing.read_publishing.Goals as goal

pub returns-in_default : goal.returns-in_default
returns-in_default c = λ a words found publishing says.
    let same = c.as_bytes.ensures.value ∙ c.text_or-base_moment.ensures ∙ ap (text_said (codes "1970-01-01T00:00:00Z")) (c.get_str.ensures ∙ found (codes "base-moment")) in
    absurd (cc (c.in_default.ensures.exact publishing.base_moment (subst (λ (t : List ℕ). SaysMoment t publishing.base_moment) (sym same) says.moment_said)))

pub returns-in_default-2 : goal.returns-in_default-2
returns-in_default-2 c = λ a words found publishing says.
    let same = c.text_or-base.ensures ∙ ap (text_said c.args.default_base.now) (c.get_str-3.ensures ∙ found (codes "base")) in
    let none = rw c.in_default-2.is at c.in_ok-base.ensures in
    none publishing.base (subst (λ (t : List ℕ). SaysBase t publishing.base) (sym same) says.base_said)
