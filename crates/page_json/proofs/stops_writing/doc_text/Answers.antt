-- What was written is the text of the document's tree.
use Rattle.std.proofs.Common.{sym, subst, ◌∙◌}
use Rattle.std.specs.Str.{IsUtf8}
use Rattle.page_json.specs.ObjectMembers.Tokens.{tokens_of}
use Rattle.page_json.specs.Tree.{doc_tree}
use Rattle.page_json.proofs.StopsLemmas.{reads_doc_text}
use Rattle.page_json.proofs.ObjectMembersLemmas.TokensLemmas.{behind_nothing, text_is}
use Rattle.page_json.proofs.stops_writing.doc_text.Goals as goal

pub returns-clause-text : goal.returns-clause-text
returns-clause-text c =
    c.into_inner.ensures.items ∙ text_is _ _ (doc_tree c.args.url.now c.args.doc.now) (c.new-out.ensures.before ∙ c.in_ok-with_capacity.ensures.items) c.new-out.ensures.tokens c.in_ok-write_doc.ensures.tokens

pub returns-clause-utf8 : goal.returns-clause-utf8
returns-clause-utf8 c =
    subst IsUtf8 (sym (c.into_inner.ensures.items ∙ behind_nothing _ _ (tokens_of (doc_tree c.args.url.now c.args.doc.now)) (c.new-out.ensures.before ∙ c.in_ok-with_capacity.ensures.items) c.in_ok-write_doc.ensures.tokens)) c.into_inner.ensures.utf8

pub returns-clause-read : goal.returns-clause-read
returns-clause-read c =
    (reads_doc_text c.args.url.now c.args.doc.now c.into_inner.result.items c.in_ok-write_doc.ensures.valid c.in_ok-write_doc.ensures.sound (returns-clause-utf8 c) (returns-clause-text c)).is
