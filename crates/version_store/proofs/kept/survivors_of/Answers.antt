use Rattle.std.proofs.Common.{◌≡◌, ◌∙◌, ◌-◌, ◌∷◌, ◌++◌, ap, arith, drop, inl, inr, map, subst, sym}
use Rattle.std.specs.Prelude.{◌&&◌, ◌||◌}
use Rattle.std.specs.List.{Contains}
use Rattle.std.proofs.lemmas.List.Elements.{Contains-get_or}
use Rattle.lc_model.specs.Change.{is_same_id}
use Rattle.version_store.specs.Kept.{entity_said, is_replaced, kept_of, survivors}
use Rattle.version_store.proofs.KeptLemmas.{dropped_one, map_reverse, reversed_in, survivors_more}
use Rattle.version_store.proofs.kept.survivors_of.Goals as goal

pub marks-preserved : goal.marks-preserved
marks-preserved c =
    let marks = c.args.marks.now in
    let place = c.marks.place in
    let marked = c.index-marks-place.result in
    let later = drop place marks in
    let dropped : drop (place - 1) marks ≡ marked ∷ later = dropped_one marks place marked (omega arith) (omega arith) c.index-marks-place.is in
    let replaced : c.has_id-replaced.result ≡ is_replaced marked.entity.now.id later =
    c.has_id-replaced.ensures ∙ c.marks.invariant.later c.id.result ∙ ap (λ i. is_replaced i later) c.id.ensures in
    record {
      later = λ id.
          c.in_ok-put_later.ensures id ∙ ap (λ b. (marked.replaces && is_same_id id.now marked.entity.now.id) || b) (c.marks.invariant.later id) ∙ ap (is_replaced id.now) (sym dropped);
      kept =
          survivors_more (map entity_said c.marks.kept.items) (map entity_said c.push_kept.new.kept.items) c.has_id-replaced.result (entity_said marked) (survivors later) c.in_ok-push_kept.ensures.said c.marks.invariant.kept
          ∙ ap (λ b. kept_of b (entity_said marked) ++ survivors later) replaced
          ∙ ap survivors (sym dropped);
      of = λ m there. elim (c.in_ok-push_kept.ensures.of m there) [
        | inl earlier ↦ c.marks.invariant.of m earlier
        | inr is ↦ subst (Contains marks) (sym c.index-marks-place.is ∙ is) (Contains-get_or marks (place - 1) marked (omega arith))
      ];
    }

pub returns-clause-said : goal.returns-clause-said
returns-clause-said c =
    let at_end : c.marks.place ≡ 0 = omega arith in
    ap (map entity_said) c.reverse.ensures.items ∙ map_reverse entity_said c.marks.kept.items ∙ c.marks.invariant.kept ∙ ap (λ n. survivors (drop n c.args.marks.now)) at_end

pub returns-clause-of : goal.returns-clause-of
returns-clause-of c = λ m there. c.marks.invariant.of m (reversed_in c.marks.kept.items m (subst (λ v. Contains v m) c.reverse.ensures.items there))
