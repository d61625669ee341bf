use Rattle.std.proofs.Common.{sym, subst, Option, ℕ, rules}
use Rattle.std.specs.Option.{MatchOption}
use Rattle.std.proofs.lemmas.Fn.{always_returns_same}
use Rattle.lc_model.specs.Text.{id_cmp}
use Rattle.lc_model.specs.declared.stop.Stop.{Stop}
use Rattle.csa_scan.specs.PlaceOf.{IsPlaceOf, LacksId}
use Rattle.csa_scan.proofs.SoughtLemmas.{sought}
use Rattle.csa_scan.proofs.places.place_of.Goals as goal

pub returns : goal.returns
returns c =
    let stops = c.args.stops.now in
    let id = c.args.id.now in
    let facts = c.binary_search_by.ensures in
    let by_id = facts.position (λ (s : Stop). id_cmp s.id id) (always_returns_same _ _ _ (λ a r g k. search rules)) in
    let P : Option ℕ → Type 0 = λ o. MatchOption o (LacksId stops id) (IsPlaceOf stops id) in
    subst P (sym c.ok.ensures.value) (sought stops c.requires id c.binary_search_by.result facts.bound by_id)
