-- A base is visible.
use Rattle.std.proofs.Common.{All, subst, sym, ◌≡◌, true, ◌∙◌}
use Rattle.connection_uri.specs.Base.{is_visible}
use Rattle.page_json.proofs.BaseLemmas.{base_visible}
use Rattle.page_json.proofs.fronts.json_base.Goals as goal

pub append_visible-requires : goal.append_visible-requires
append_visible-requires c =
    subst (All (λ byte. is_visible byte ≡ true)) (sym (c.as_bytes.ensures.value ∙ c.text.ensures.value)) (base_visible c.args.base.now c.text.ensures.plain)
