use Rattle.std.proofs.Common.{List, refl, subst, sym, ◌≡◌, ◌↔◌, ◌⊎◌, ◌++◌, ◌∙◌}
use Rattle.std.specs.List.{Contains}
use Rattle.lc_model.specs.Order.{IsStrict}
use Rattle.version_store.specs.Index.Places.{place_cmp}
use Rattle.version_store.specs.declared.index.place.Place.{Place}
use Rattle.version_store.specs.declared.index.place_set.PlaceSet.TheInside.{Inside}
use Rattle.version_store.proofs.IndexLemmas.PlaceSetLemmas.{found, has_already, has_more, not_found, once_more, set_more}
use Rattle.version_store.proofs.index.place_set.PlaceSet.insert.Goals as goal

pub invariant_of-self : goal.invariant_of-self
invariant_of-self c =
    let set = c.self.inside in
    let place = c.args.place in
    let first = c.deref.ensures.value in
    let up = subst (IsStrict place_cmp) (sym first) c.self.invariant.first in
    let lacks = not_found c.deref.result.now place c.binary_search.result up c.binary_search.ensures.position (sym c.is_err.ensures.value ∙ c.if-is_err.true) in
    let new : Inside = record { first = set.first; later = c.insert.new.self } in
    once_more set new place refl c.self.invariant (λ h. lacks (subst (λ (v : List Place). Contains v place) (sym first) h)) c.in_ok-insert.ensures.ordered
    (set_more place set.later c.insert.new.self c.in_ok-insert.ensures.updates.0)

pub invariant_of-self-in_err-insert : goal.invariant_of-self-in_err-insert
invariant_of-self-in_err-insert c =
    let set = c.self.inside in
    let new : Inside = record { first = set.first; later = c.insert.new.self } in
    let same = c.in_err-insert.ensures.err in
    let are = c.self.invariant in
    record {
      first = are.first;
      later = c.in_err-insert.ensures.ordered;
      apart = λ p h k. are.apart p h (subst (λ (v : List Place). Contains v p) same k);
    }

pub returns-in_ok-insert-clause-ok : goal.returns-in_ok-insert-clause-ok
returns-in_ok-insert-clause-ok c =
    let set = c.self.inside in
    let first = set.first.items in
    let place = c.args.place in
    let new = first ++ c.insert.new.self.keys in
    subst (λ (v : List Place). (q : Place) → Contains new q ↔ ((place ≡ q) ⊎ Contains v q)) c.self.view_is
    (has_more first set.later.keys c.insert.new.self.keys place (set_more place set.later c.insert.new.self c.in_ok-insert.ensures.updates.0))

pub returns-else-is_err-clause-ok : goal.returns-else-is_err-clause-ok
returns-else-is_err-clause-ok c =
    let set = c.self.inside in
    let place = c.args.place in
    let there = found c.deref.result.now place c.binary_search.result c.binary_search.ensures.bound c.binary_search.ensures.position (sym c.is_err.ensures.value ∙ c.if-is_err.false) in
    subst (λ (v : List Place). (q : Place) → Contains v q ↔ ((place ≡ q) ⊎ Contains v q)) c.self.view_is
    (has_already set.first.items set.later.keys place (subst (λ (v : List Place). Contains v place) c.deref.ensures.value there))
