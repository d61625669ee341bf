-- The search finds the place of the id, where there is one.
use Rattle.std.proofs.Common.{◌≡◌, ◌↔◌, Some, subst, sym, rules}
use Rattle.std.proofs.lemmas.Fn.{always_returns_same}
use Rattle.lc_model.specs.Text.{id_cmp}
use Rattle.lc_model.specs.declared.stop.Stop.{Stop}
use Rattle.change_table.specs.Partners.{id_at}
use Rattle.change_table.proofs.PartnerLemmas.{place_is}
use Rattle.change_table.proofs.partners.place_of.Goals as goal

pub returns : goal.returns
returns c = λ place.
    let found = c.binary_search_by.ensures.position (λ (s : Stop). id_cmp s.id c.args.id.now) (always_returns_same _ _ _ (λ a r g called. (search rules, search rules))) in
    subst (λ o. (o ≡ Some place) ↔ (id_at c.args.stops.now place ≡ Some c.args.id.now)) (sym c.ok.ensures.value)
    (place_is c.args.stops.now c.args.id.now c.binary_search_by.result place c.requires c.binary_search_by.ensures.bound found)
