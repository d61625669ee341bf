-- The stop, and the text of the moment.
use Rattle.std.proofs.Common.{ℕ, List, ◌++◌, ap, ap₂, ◌∙◌}
use Rattle.std.specs.String.{string_bytes}
use Rattle.connection_uri.specs.Encoding.{encoded}
use Rattle.page_json.specs.MomentText.{end_text}
use Rattle.page_json.proofs.AppendLemmas.{two}
use Rattle.page_json.proofs.connection_writing.append_call.Goals as goal

pub returns : goal.returns
returns c =
    let old = string_bytes c.args.out.now in
    let said = c.as_str.ensures ∙ ap₂ end_text c.turn_to.ensures.end c.turn_to.ensures.moment in
    two old _ _ (encoded c.args.stop.now) (end_text c.args.end c.args.moment) c.in_ok-append_id.ensures
    (c.in_ok-push_str.ensures.bytes ∙ ap (λ (s : List ℕ). string_bytes c.append_id.new.out ++ s) said)
