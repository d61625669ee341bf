use Rattle.std.proofs.Common.{rules, sym, subst}
use Rattle.std.proofs.lemmas.Fn.{always_returns_same}
use Rattle.lc_model.specs.Text.{id_cmp}
use Rattle.lc_model.specs.declared.stop.Stop.{Stop}
use Rattle.live_calls.proofs.AddedLemmas.{IsStopSearch, stop_search}
use Rattle.live_calls.proofs.added_calls.stop_named.Goals as goal

pub returns : goal.returns
returns c =
    let at = c.binary_search_by.ensures.position (λ (s : Stop). id_cmp s.id c.args.id.now) (always_returns_same _ _ _ (λ a r g called. (search rules, search rules))) in
    let stops = c.args.stops.now in
    let id = c.args.id.now in
    let found = subst (IsStopSearch stops id) (sym c.ok.ensures.value) (stop_search stops id c.binary_search_by.result c.requires c.binary_search_by.ensures.bound at) in
    record { known = found.known; inside = found.inside; named = found.named }
