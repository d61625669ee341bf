-- The pieces of the format, one after the other.
use Rattle.std.proofs.Common.{◌≡◌, ◌∙◌, ◌++◌, ℕ, List, ap, append_assoc, codes}
use Rattle.std.specs.Prelude.{decimal}
use Rattle.cli_ask.proofs.admission.admitted_line.Goals as goal

pub returns : goal.returns
returns c =
    let line = λ (moment : List ℕ). codes "update " ++ c.args.name.now ++ codes " admitted " ++ moment ++ codes " passed " ++ decimal c.args.admitted.passed ++ codes "\n" in
    let flat : c.in_ok-line.line.bytes.items ≡ line c.ascii_str-moment.result.now = c.in_ok-line.ensures.ok ∙ simp append_assoc in
    let items : c.into_bytes.result.items ≡ c.in_ok-line.line.bytes.items = ap (λ v. v.items) c.into_bytes.ensures.value in
    items ∙ flat ∙ ap line (c.ascii_str-moment.ensures ∙ c.iso_text-text.ensures.text)
