use Rattle.std.proofs.Common.{ap, subst, sym, ◌≡◌, ◌∙◌}
use Rattle.std.specs.Prelude.{nat_le}
use Rattle.std.specs.List.{filter}
use Rattle.std.specs.declared.cmp.Ordering.TheVariants.{Less}
use Rattle.std.proofs.lemmas.List.Kept.{AllPairs-filter}
use Rattle.lc_model.specs.Order.{IsStrict}
use Rattle.lc_model.specs.Versions.Pages.{is_before}
use Rattle.version_store.specs.Index.Places.{place_cmp}
use Rattle.version_store.specs.declared.index.place.Place.{Place}
use Rattle.version_store.proofs.IndexLemmas.PlaceLemmas.{filter_both}
use Rattle.version_store.proofs.index.place_set.between.Goals as goal

pub before-requires : goal.before-requires
before-requires c =
    subst (IsStrict place_cmp) (sym c.from_on.ensures) (AllPairs-filter (λ p q. place_cmp p q ≡ Less) (λ (p : Place). nat_le c.args.from p.dep) c.args.places.now c.requires)

pub returns : goal.returns
returns c =
    let leaves = λ (p : Place). is_before c.args.to p.dep in
    c.before-2.ensures ∙ ap (filter leaves) c.from_on.ensures ∙ filter_both (λ (p : Place). nat_le c.args.from p.dep) leaves c.args.places.now
