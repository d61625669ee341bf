-- What was appended is the text of the page, which is read as the page.
use Rattle.std.proofs.Common.{ap, ◌∙◌}
use Rattle.page_json.specs.PageWriting.{page_part}
use Rattle.page_json.specs.declared.fronts.Fronts.{Fronts}
use Rattle.page_json.proofs.PageLemmas.{reads_page_text}
use Rattle.page_json.proofs.WritingLemmas.{page_is}
use Rattle.page_json.proofs.page_writing.text_under.Goals as goal

pub returns-clause-text : goal.returns-clause-text
returns-clause-text c =
    let base = c.args.base.now in
    let page = c.args.page.now in
    c.in_ok-text.ensures.text ∙ ap (λ (f : Fronts). page_part f page) c.requires.fronts ∙ page_is base page c.in_ok-text.ensures.sound

pub returns-clause-read : goal.returns-clause-read
returns-clause-read c =
    (reads_page_text c.args.base.now c.args.page.now _ c.requires.valid c.in_ok-text.ensures.sound c.in_ok-text.ensures.utf8 (returns-clause-text c)).is
