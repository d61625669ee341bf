-- An id whose bytes are all unreserved is its own encoding.
use Rattle.std.proofs.Common.{ℕ, List, ◌++◌, ap, sym, ◌∙◌}
use Rattle.std.specs.List.{list_all}
use Rattle.std.specs.String.{string_bytes}
use Rattle.connection_uri.specs.Encoding.{is_unreserved}
use Rattle.page_json.proofs.IdLemmas.{no_escape}
use Rattle.page_json.proofs.id_writing.append_id.Goals as goal

pub returns-in_ok-push_str : goal.returns-in_ok-push_str
returns-in_ok-push_str c =
    let id = c.args.id.now in
    let plain = sym (c.if-needs_no_escape.ensures ∙ ap (list_all is_unreserved) c.bytes.ensures.value) in
    c.in_ok-push_str.ensures.bytes
    ∙ ap (λ (s : List ℕ). string_bytes c.args.out.now ++ s) (c.as_str.ensures.value ∙ sym (no_escape id plain))
