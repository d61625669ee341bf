use Rattle.std.proofs.Common.{◌∙◌, ℕ, List, codes, subst, sym}
use Rattle.cli_words.specs.Publishing.{SaysBase}
use Rattle.cli_words.proofs.WordsLemmas.{same_text}
use Rattle.cli_words.proofs.relay.found_relay.Goals as goal

pub returns-in-None : goal.returns-in-None
returns-in-None c = λ words line found relay says.
    let url = same_text _ _ (c.in-Some.ensures ∙ found (codes "url") ∙ says.url_is) in
    let none = rw c.in-None.is at c.in_ok-base.ensures in
    none relay.base (subst (λ (text : List ℕ). SaysBase text relay.base) (sym url) says.base_said)
