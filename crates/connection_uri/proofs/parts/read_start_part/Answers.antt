use Rattle.std.proofs.Common.{◌≢◌, codes, sym, ap₂, ◌∙◌}
use Rattle.std.proofs.lemmas.Bool.{true≢false}
use Rattle.std.specs.Cmp.Lexicographic.{pointwise}
use Rattle.std.proofs.Common.{nat_eq}
use Rattle.connection_uri.proofs.NameLemmas.{start_of_text}
use Rattle.connection_uri.proofs.parts.read_start_part.Goals as goal

pub returns-in-Some-clause-exact : goal.returns-in-Some-clause-exact
returns-in-Some-clause-exact c = λ start in_range text.
    let marked : c.args.text.now ≢ codes "-" = λ e. true≢false (sym (ap₂ (pointwise nat_eq) e c.as_slice.ensures) ∙ sym c.if-eq.ensures) in
    let said = start_of_text c.args.text.now c.read_start.result marked c.read_start.ensures.exact start in_range text in
    let one = said.1 in
    let two = said.2 in
    cc

pub returns-in-None-clause-exact : goal.returns-in-None-clause-exact
returns-in-None-clause-exact c = λ start in_range text.
    let marked : c.args.text.now ≢ codes "-" = λ e. true≢false (sym (ap₂ (pointwise nat_eq) e c.as_slice.ensures) ∙ sym c.if-eq.ensures) in
    let said = start_of_text c.args.text.now c.read_start.result marked c.read_start.ensures.exact start in_range text in
    let one = said.1 in
    let two = said.2 in
    cc
