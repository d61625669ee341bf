use Rattle.std.proofs.Common.{ℕ, ◌≢◌, ◌<◌, ◌⊎◌, ◌↔◌, [], subst, sym}
use Rattle.std.specs.List.{All, Contains}
use Rattle.std.specs.declared.cmp.Ordering.TheVariants.{Equal}
use Rattle.lc_model.specs.Order.{AreApart}
use Rattle.lc_model.proofs.ListLemmas.{AllPairs-nil}
use Rattle.version_store.specs.Index.Gathered.{AreOfStates, IsOf}
use Rattle.version_store.specs.Index.Places.{place_cmp}
use Rattle.version_store.specs.declared.index.place.Place.{Place}
use Rattle.version_store.proofs.IndexLemmas.GatherLemmas.{places_all, places_below, places_more, places_none}
use Rattle.version_store.proofs.index.gather.places_of.Goals as goal

pub loop-at-init : goal.loop-at-init
loop-at-init c = record {
  has = subst (AreOfStates []) (sym c.in_ok-places.ensures.items) places_none;
  apart = subst (AreApart place_cmp) (sym c.in_ok-places.ensures.items) (AllPairs-nil (λ p q. place_cmp p q ≢ Equal));
}

pub loop-at-preserved : goal.loop-at-preserved
loop-at-preserved c =
    let old = c.loop-at.places.items in
    let new = c.push_places.new.places.items in
    let state = c.index-states-at.result in
    let states = c.args.states.now in
    let at = c.loop-at.at in
    let below = places_below states at old c.loop-at-test.true c.loop-at.invariant.has in
    record {
      has =
          places_more states at state old new c.loop-at-test.true c.index-states-at.is c.loop-at.invariant.has
          (subst (λ (n : ℕ). (p : Place) → Contains new p ↔ (Contains old p ⊎ IsOf n state p)) c.in_ok-number.ensures c.in_ok-push_places.ensures.has);
      apart = c.in_ok-push_places.ensures.apart (subst (λ (n : ℕ). All (λ (p : Place). p.state < n) old) (sym c.in_ok-number.ensures) below) c.loop-at.invariant.apart;
    }

pub returns : goal.returns
returns c = record {
  has = places_all c.args.states.now c.loop-at.at c.loop-at.places.items c.loop-at-test.false c.loop-at.invariant.has;
  apart = c.loop-at.invariant.apart;
}
