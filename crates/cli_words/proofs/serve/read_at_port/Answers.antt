use Rattle.std.proofs.Common.{◌≡◌, ◌∙◌, ℕ, List, subst}
use Rattle.std.specs.Prelude.{IfOk, MatchOption}
use Rattle.cli_words.specs.Published.{SaysPublished}
use Rattle.cli_words.specs.Serve.{address_at}
use Rattle.cli_words.specs.declared.command.Published.{Published}
use Rattle.cli_words.proofs.serve.read_at_port.Goals as goal

pub returns-clause-said : goal.returns-clause-said
returns-clause-said c = λ a words found.
    let address : c.as_str.result.now ≡ address_at c.args.port = c.as_str.ensures.value ∙ c.in_ok-address.ensures in
    subst (λ (text : List ℕ). IfOk c.read_published.result (λ published. MatchOption published
    ((other : Published) → SaysPublished text a words other → ⊥) (SaysPublished text a words))) address
    (c.read_published.ensures.said a words found)
