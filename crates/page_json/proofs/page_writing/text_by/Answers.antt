-- What was appended is the text.
use Rattle.std.proofs.Common.{◌++◌, List, ℕ, ap, subst, sym, ◌∙◌}
use Rattle.std.specs.Str.{IsUtf8}
use Rattle.std.proofs.lemmas.Str.{IsUtf8-had}
use Rattle.page_json.specs.PageWriting.{page_part}
use Rattle.page_json.proofs.page_writing.text_by.Goals as goal

pub returns-clause-text : goal.returns-clause-text
returns-clause-text c =
    ap (λ v. v.items) c.into_bytes.ensures.value ∙ c.in_ok-append_page.ensures.text
    ∙ ap (λ (s : List ℕ). s ++ page_part c.args.fronts.now c.args.page.now) c.in_ok-out.ensures.bytes

pub returns-clause-utf8 : goal.returns-clause-utf8
returns-clause-utf8 c = subst IsUtf8 (sym (ap (λ v. v.items) c.into_bytes.ensures.value)) (IsUtf8-had _ c.append_page.new.out.ok)
