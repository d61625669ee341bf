-- The URL of the document is that under the base.
use Rattle.std.proofs.Common.{ℕ, List, ◌≡◌, ◌∙◌, subst}
use Rattle.std.specs.Prelude.{IfOk}
use Rattle.serde_json.specs.Written.{compact_text}
use Rattle.page_json.specs.Tree.{doc_tree, stops_text_of}
use Rattle.page_json.proofs.stops_writing.stops_text.Goals as goal

pub returns-clause-text : goal.returns-clause-text
unfolding stops_text_of
returns-clause-text c =
    subst (λ (url : List ℕ). IfOk c.doc_text.result (λ text. text.items ≡ compact_text (doc_tree url c.args.doc.now))) (c.as_str.ensures.value ∙ c.in_ok-url.ensures) c.doc_text.ensures.text
