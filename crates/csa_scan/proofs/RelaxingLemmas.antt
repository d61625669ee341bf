-- How changes make stops ready, one after the other.
use Rattle.std.proofs.Common.{◌≡◌, ℕ, ◌+◌, ◌<◌, ◌≤◌, List, [], ◌∷◌, ◌++◌, Option, Some, None, length, get_or, take, set, refl, sym, ◌∙◌, ap, subst, inl, inr, arith}
use Rattle.std.specs.List.{slice_get}
use Rattle.std.proofs.lemmas.List.{take_more, length-set}
use Rattle.lc_model.specs.declared.change.Change.{Change}
use Rattle.lc_model.specs.declared.stop.Stop.{Stop}
use Rattle.csa_scan.specs.PlaceOf.{IsPlaceOf}
use Rattle.csa_scan.specs.Reach.{id_at}
use Rattle.csa_scan.specs.Relaxed.{IsRelaxed, Improves}
use Rattle.csa_scan.specs.declared.trace.Ready.{Ready}
use Rattle.csa_scan.proofs.SoughtLemmas.{below}
use Rattle.std.proofs.lemmas.Option.{slice_get-get_or}
use Rattle.csa_scan.proofs.ListPlacesLemmas.{slice_get-append, slice_get-last, push_cases, slice_get-set_same, slice_get-set_other, set_cases, same_place}

-- before the first change nothing is made ready
pub relaxed_none : (stops : List Stop) (after arr : ℕ) (ready : List (Option Ready)) → IsRelaxed stops [] after arr ready ready
relaxed_none stops after arr ready = record {
  same_stops = refl;
  sound = λ stop r e. inl e;
  no_later = λ stop r e. (r, e, (omega arith));
  complete = λ k c e. absurd (cc);
}

-- one change more
relaxed_push : (stops : List Stop) (changes : List Change) (c : Change) (after arr : ℕ) (old mid new : List (Option Ready)) →
    IsRelaxed stops changes after arr old mid → Improves stops c.to (arr + c.seconds) after mid new → IsRelaxed stops (changes ++ c ∷ []) after arr old new
relaxed_push stops changes c after arr old mid new h k = record {
  same_stops = k.same_stops ∙ h.same_stops;
  sound = λ stop r e. elim (k.sound stop r e) [
    | inl was ↦ elim (h.sound stop r was) [
      | inl before ↦ inl before
      | inr one ↦ inr (one.0, one.1, slice_get-append changes (c ∷ []) one.0 one.1 one.2, one.3, one.4, one.5)
    ]
    | inr now ↦ inr (length changes, c, slice_get-last changes c, now.0, now.1, now.2)
  ];
  no_later = λ stop r e.
      let s = h.no_later stop r e in
      let t = k.no_later stop s.0 s.1 in
      let u = s.2 in let v = t.2 in
      (t.0, t.1, omega arith);
  complete = λ place x e stop l at. elim (push_cases changes c place x e) [
    | inl was ↦
        let s = h.complete place x was stop l at in
        let t = k.no_later stop s.0 s.1 in
        let u = s.2 in let v = t.2 in
        (t.0, t.1, omega arith)
    | inr now ↦
        let s = k.complete stop l (at ∙ ap (λ (y : Change). y.to) now.1) in
        let u = s.2 in let v = ap (λ (y : Change). y.seconds) now.1 in
        (s.0, s.1, omega arith)
  ];
}

pub relaxed_more : (stops : List Stop) (changes : List Change) (i : ℕ) (c : Change) (after arr : ℕ) (old mid new : List (Option Ready)) →
    i < length changes → c ≡ get_or changes i c → IsRelaxed stops (take i changes) after arr old mid → Improves stops c.to (arr + c.seconds) after mid new →
    IsRelaxed stops (take (i + 1) changes) after arr old new
relaxed_more stops changes i c after arr old mid new l e h k =
    let P : List Change → Type 0 = λ cs. IsRelaxed stops cs after arr old new in
    let more = take_more changes i c l ∙ ap (λ (x : Change). take i changes ++ x ∷ []) (sym e) in
    subst P (sym more) (relaxed_push stops (take i changes) c after arr old mid new h k)

-- the stop is ready by then already
pub improves_no_more : (stops : List Stop) (to : List ℕ) (at after : ℕ) (ready : List (Option Ready)) (place : ℕ) → IsPlaceOf stops to place → (r : Ready) → slice_get ready place ≡ Some (Some r) → r.at ≤ at →
    Improves stops to at after ready ready
improves_no_more stops to at after ready place is r e by = record {
  same_stops = refl;
  sound = λ stop s f. inl f;
  no_later = λ stop s f. (s, f, (omega arith));
  complete = λ stop l f.
      let P : ℕ → Type 0 = λ k. slice_get ready k ≡ Some (Some r) in
      (r, subst P (sym (is.only stop l f)) e, by);
}

-- the stop is ready sooner than before
pub improves_to : (stops : List Stop) (to : List ℕ) (at after : ℕ) (ready : List (Option Ready)) (place : ℕ) → IsPlaceOf stops to place → place < length ready →
    (new : Ready) → new.at ≡ at → new.after ≡ after → ((r : Ready) → slice_get ready place ≡ Some (Some r) → at ≤ r.at) →
    Improves stops to at after ready (set ready place (Some new))
improves_to stops to at after ready place is within new new_at new_after sooner = record {
  same_stops = length-set ready place (Some new);
  sound = λ stop s f. elim (set_cases ready place (Some new) stop (Some s) f) [
    | inl now ↦ let same : s ≡ new = cc in
        inr (ap (id_at stops) now.0 ∙ is.is, ap (λ (x : Ready). x.after) same ∙ new_after, ap (λ (x : Ready). x.at) same ∙ new_at)
    | inr was ↦ inl was
  ];
  no_later = λ stop s f. elim (same_place stop place) [
    | inl here ↦
        let P : ℕ → Type 0 = λ k. slice_get ready k ≡ Some (Some s) in
        let Q : ℕ → Type 0 = λ k. slice_get (set ready place (Some new)) k ≡ Some (Some new) in
        let l = sooner s (subst P here f) in
        (new, subst Q (sym here) (slice_get-set_same ready place (Some new) within), omega arith)
    | inr there ↦ (s, slice_get-set_other ready place (Some new) stop there ∙ f, omega arith)
  ];
  complete = λ stop l f.
      let Q : ℕ → Type 0 = λ k. slice_get (set ready place (Some new)) k ≡ Some (Some new) in
      (new, subst Q (sym (is.only stop l f)) (slice_get-set_same ready place (Some new) within), omega arith);
}

-- the second is no sooner than before
pub improves_kept : (stops : List Stop) (to : List ℕ) (at after : ℕ) (ready : List (Option Ready)) (place : ℕ) → IsPlaceOf stops to place → place < length ready →
    (before : Option Ready) → get_or ready place None ≡ before → (((r : Ready) → before ≡ Some r → at < r.at) → ⊥) → Improves stops to at after ready ready
improves_kept stops to at after ready place is within None e late = absurd (late (λ r f. absurd (cc)))
improves_kept stops to at after ready place is within (Some r) e late = elim (below at r.at) [
  | inl sooner ↦ absurd (late (λ s f. let same : r ≡ s = cc in let g = ap (λ (x : Ready). x.at) same in omega arith))
  | inr by ↦ improves_no_more stops to at after ready place is r (slice_get-get_or ready place None within ∙ ap Some e) by
]
