use Rattle.std.proofs.Common.{arith, rules, ◌≡◌, ◌∙◌, ◌<◌, ◌+◌, ◌≤◌, ◌++◌, ◌∷◌, [], List, Some, ap, length, map, ℕ, subst, subst₂, sym}
use Rattle.std.specs.List.{slice_get}
use Rattle.lc_model.specs.Versions.History.{Entry, IsRising, kept_after, moments_of}
use Rattle.lc_model.specs.Versions.News.{EntitySaid}
use Rattle.version_store.specs.IndexLaws.Kept.{entities_after, news_in}
use Rattle.version_store.proofs.IndexLemmas.GatherLemmas.{get_pushed}
use Rattle.version_store.specs.Changes.{GoesOn, HasTurned}
use Rattle.version_store.specs.Dates.{date_in}
use Rattle.version_store.specs.Force.{AreInForce}
use Rattle.version_store.specs.Indexed.{AreIndexed}
use Rattle.version_store.specs.Inside.{stored_of}
use Rattle.version_store.specs.Kept.{entry_said}
use Rattle.version_store.specs.Store.{Stored, bytes_of, entry_of, newest_of}
use Rattle.version_store.specs.declared.store.Admission.{Admission}
use Rattle.version_store.proofs.ForceLemmas.{force_alike, force_stays}
use Rattle.version_store.proofs.IndexedLemmas.{indexed_appended, indexed_still}
use Rattle.version_store.proofs.SpotsLemmas.{force_appended}
use Rattle.version_store.proofs.StoreLemmas.{kept_more, said_more}
use Rattle.version_store.proofs.store.Store.append.Goals as goal

pub turn_to-turned-requires-clause-trips : goal.turn_to-turned-requires-clause-trips
turn_to-turned-requires-clause-trips c = c.self.invariant.trips

pub invariant_of-self-in-Ok : goal.invariant_of-self-in-Ok
invariant_of-self-in-Ok c =
    let inside = c.self.inside in
    let inv = c.self.invariant in
    let old = stored_of inside in
    let a : Admission = record { update = c.args.update; bytes = c.args.bytes } in
    let entry = entry_of c.args.update c.args.bytes in
    let admitted = c.push_message.new.admitted.items in
    let date_of = date_in inside.zone in
    let entities = entities_after date_of old.history in
    let pushed : admitted ≡ inside.admitted.items ++ a ∷ [] = c.in_ok-push_message.ensures.message in
    let newer = subst (λ (s : Stored). newest_of s < c.args.update.moment) (sym c.self.view_is) c.requires.newer in
    let room = subst (λ (s : Stored). bytes_of s.history + c.args.bytes ≤ 268_435_456) (sym c.self.view_is) c.requires.room.for_bytes in
    let kept = kept_more inside.base inside.versions.items c.push_message.new.versions.items inside.admitted.items admitted a inside.bytes (record { versions_are = inv.versions; rising = inv.rising; bytes_are = inv.bytes; within = inv.within }) newer room c.in_ok-push_message.ensures.version pushed in
    let said : map entry_said admitted ≡ old.history ++ entry ∷ [] = said_more inside.admitted.items admitted a pushed in
    let list : c.as_slice.result.now ≡ inside.admitted.items ++ a ∷ [] = c.as_slice.ensures.value ∙ pushed in
    let before : AreInForce c.as_slice.result.now inside.force entities =
    subst (λ (v : List Admission). AreInForce v inside.force entities) (sym list) (force_stays inside.admitted.items (a ∷ []) inside.force entities inv.force) in
    let long : c.len-message.result ≡ length inside.admitted.items = first_of (omega arith, search rules) in
    let there : slice_get c.as_slice.result.now c.len-message.result ≡ Some a =
    subst₂ (λ (v : List Admission) (n : ℕ). slice_get v n ≡ Some a) (sym list) (sym long) (get_pushed inside.admitted.items a) in
    let new_force = c.turn_to-turned.new.force in
    let goes : GoesOn inside.runs inside.stops c.as_slice.result.now entities (kept_after date_of entities c.args.update) new_force inside.index c.turn_to-turned.new.index = c.in-Ok.ensures.ok entities a before there in
    let after : kept_after date_of entities c.args.update ≡ entities_after date_of (old.history ++ entry ∷ []) = force_appended date_of old.history entry in
    let force = subst₂ (λ (v : List Admission) (w : List EntitySaid). AreInForce v new_force w) c.as_slice.ensures.value after goes.force in
    let turned = subst (λ (w : List EntitySaid). HasTurned inside.runs inside.stops (news_in entities) (news_in w) inside.index c.turn_to-turned.new.index) after goes.turned in
    record {
      trips = inv.trips;
      versions = kept.versions_are;
      rising = kept.rising;
      bytes = kept.bytes_are;
      within = kept.within;
      force = subst (λ (h : List Entry). AreInForce admitted new_force (entities_after date_of h)) (sym said) force;
      indexed = subst (λ (h : List Entry). AreIndexed (record old { history = h }) c.turn_to-turned.new.index) (sym said)
          (indexed_appended old entry inside.index c.turn_to-turned.new.index c.in_order.ensures inv.indexed turned);
    }

pub invariant_of-self-in-Err : goal.invariant_of-self-in-Err
invariant_of-self-in-Err c =
    let inside = c.self.inside in
    let inv = c.self.invariant in
    let old = stored_of inside in
    let versions = c.pop_message.ensures.versions _ _ c.in_ok-push_message.ensures.version in
    let messages : c.pop_message.new.admitted.items ≡ inside.admitted.items = c.pop_message.ensures.messages _ _ c.in_ok-push_message.ensures.message in
    let history : map entry_said c.pop_message.new.admitted.items ≡ old.history = ap (map entry_said) messages in
    record {
      trips = inv.trips;
      versions = versions ∙ inv.versions ∙ ap (λ (h : List Entry). inside.base ∷ moments_of h) (sym history);
      rising = subst (λ (h : List Entry). IsRising inside.base (moments_of h)) (sym history) inv.rising;
      bytes = inv.bytes ∙ ap bytes_of (sym history);
      within = inv.within;
      force = subst (λ (v : List Admission). AreInForce v c.turn_to-turned.new.force (entities_after (date_in inside.zone) (map entry_said v))) (sym messages)
          (force_alike inside.admitted.items inside.force c.turn_to-turned.new.force (entities_after (date_in inside.zone) old.history) c.in-Err.ensures.alike inv.force);
      indexed = subst (λ (h : List Entry). AreIndexed (record old { history = h }) c.turn_to-turned.new.index) (sym history) (indexed_still old inside.index c.turn_to-turned.new.index inv.indexed c.in-Err.ensures.err);
    }
