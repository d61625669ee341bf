-- Steps of the search for the nearest ends, as the code makes them.
use Rattle.std.proofs.Common.{◌≡◌, ℕ, ◌<◌, List, [], ◌∷◌, ◌++◌, Option, Some, None, length, get_or, set, refl, sym, ◌∙◌, ap, subst, inl, inr, arith}
use Rattle.std.specs.List.{slice_get}
use Rattle.std.specs.Option.{MatchOption}
use Rattle.std.proofs.lemmas.Bool.{cases_lt}
use Rattle.std.proofs.lemmas.List.{length-set}
use Rattle.std.proofs.lemmas.Option.{slice_get-get_or}
use Rattle.lc_model.specs.Question.{IsEnd}
use Rattle.lc_model.specs.declared.stop.Stop.{Stop}
use Rattle.lc_model.specs.declared.walk.Walk.{Walk}
use Rattle.csa_scan.specs.Near.{ComesNear, IsWalkAt, MakesWalk, walk_of}
use Rattle.csa_scan.specs.PlaceOf.{IsPlaceOf}
use Rattle.csa_scan.specs.Reach.{id_at}
use Rattle.csa_scan.specs.declared.side.Side.{Side}
use Rattle.csa_scan.specs.declared.trace.Near.{Near}
use Rattle.csa_scan.proofs.ListPlacesLemmas.{push_cases, same_place, set_cases, slice_get-set_other, slice_get-set_same}

-- the outer stop is no end
pub comes_from_no_end : (stops : List Stop) (named outer inner : List ℕ) (seconds : ℕ) (near : List (Option Near)) →
    ((place : ℕ) → place < length stops → id_at stops place ≡ outer → IsEnd stops named outer → ⊥) → ComesNear stops named outer inner seconds near near
comes_from_no_end stops named outer inner seconds near none = record {
  same_stops = refl;
  sound = λ stop n e. inl e;
  no_farther = λ stop n e. inl e;
  complete = λ place l at is. absurd (none place l at is);
}

-- what is at the place of the inner stop
there : (near : List (Option Near)) (place stop : ℕ) → stop ≡ place → (o : Option Near) → slice_get near place ≡ Some o → slice_get near stop ≡ Some o
there near place stop same o e = let P : ℕ → Type 0 = λ k. slice_get near k ≡ Some o in subst P (sym same) e

-- there is an end no farther already
pub comes_no_nearer : (stops : List Stop) (named outer inner : List ℕ) (seconds : ℕ) (near : List (Option Near)) (place : ℕ) → IsPlaceOf stops inner place → place < length near →
    (before : Option Near) → get_or near place None ≡ before → (((n : Near) → before ≡ Some n → seconds < n.seconds) → ⊥) → ComesNear stops named outer inner seconds near near
comes_no_nearer stops named outer inner seconds near place is within None e late = absurd (late (λ n f. absurd (cc)))
comes_no_nearer stops named outer inner seconds near place is within (Some m) e late = elim (cases_lt seconds m.seconds) [
  | inl sooner ↦ absurd (late (λ n f. let same : m ≡ n = cc in let g = ap (λ (x : Near). x.seconds) same in omega arith))
  | inr by ↦ record {
    same_stops = refl;
    sound = λ stop n f. inl f;
    no_farther = λ stop n f. inl f;
    complete = λ p l at ends stop ls inner_at.
        let f = there near place stop (is.only stop ls inner_at) (Some m) (slice_get-get_or near place None within ∙ ap Some e) in
        (m, f, inl (f, by));
  }
]

-- the end is nearer than the one before
pub comes_nearer : (stops : List Stop) (named outer inner : List ℕ) (seconds : ℕ) (near : List (Option Near)) (place : ℕ) → IsPlaceOf stops inner place → place < length near →
    (end : ℕ) → IsPlaceOf stops outer end → IsEnd stops named (id_at stops end) → (new : Near) → new.place ≡ end → new.seconds ≡ seconds →
    ((m : Near) → slice_get near place ≡ Some (Some m) → seconds < m.seconds) → ComesNear stops named outer inner seconds near (set near place (Some new))
comes_nearer stops named outer inner seconds near place is within end is_outer ends new at takes nearer =
    let is_end_id = ap (id_at stops) at ∙ is_outer.is in
    let P : List ℕ → Type 0 = λ id. IsEnd stops named id in
    record {
      same_stops = length-set near place (Some new);
      sound = λ stop n f. elim (set_cases near place (Some new) stop (Some n) f) [
        | inl now ↦
            let same : new ≡ n = cc in
            let Q : Near → Type 0 = λ x. Rattle.csa_scan.specs.Near.IsNowNear stops named outer seconds near stop x in
            inr (
              ap (id_at stops) now.0 ∙ is.is,
              subst Q same (record {
                within = let w = is_outer.within in omega arith;
                is = is_end_id;
                is_end = subst P is_outer.is ends;
                takes = takes;
                nearer = λ m g. let R : ℕ → Type 0 = λ k. slice_get near k ≡ Some (Some m) in nearer m (subst R now.0 g);
              }),
            )
        | inr was ↦ inl was
      ];
      no_farther = λ stop n f. elim (same_place stop place) [
        | inl here ↦
            let R : ℕ → Type 0 = λ k. slice_get near k ≡ Some (Some n) in
            let l = nearer n (subst R here f) in
            inr (new, there (set near place (Some new)) place stop here (Some new) (slice_get-set_same near place (Some new) within), omega arith)
        | inr other ↦ inl (slice_get-set_other near place (Some new) stop other ∙ f)
      ];
      complete = λ p l p_at p_end stop ls inner_at.
          (new, there (set near place (Some new)) place stop (is.only stop ls inner_at) (Some new) (slice_get-set_same near place (Some new) within), inr (is_end_id, takes));
    }

-- the first places, each near to itself if it is an end
pub record AreAloneSoFar (stops : List Stop) (named : List ℕ) (near : List (Option Near)) : Type 0 where
  pub sound : (stop : ℕ) (n : Near) → slice_get near stop ≡ Some (Some n) → IsEnd stops named (id_at stops stop) × (n.place ≡ stop) × (n.seconds ≡ 0)
  pub complete : (stop : ℕ) → slice_get near stop ≡ Some None → IsEnd stops named (id_at stops stop) → ⊥

-- one place more
pub alone_more : (stops : List Stop) (named : List ℕ) (near pushed : List (Option Near)) (i : ℕ) (o : Option Near) → length near ≡ i → pushed ≡ near ++ o ∷ [] → AreAloneSoFar stops named near →
    MatchOption o (IsEnd stops named (id_at stops i) → ⊥) (λ n. IsEnd stops named (id_at stops i) × (n.place ≡ i) × (n.seconds ≡ 0)) → AreAloneSoFar stops named pushed
alone_more stops named near pushed i o same p h is =
    let M : Option Near → Type 0 = λ x. MatchOption x (IsEnd stops named (id_at stops i) → ⊥) (λ n. IsEnd stops named (id_at stops i) × (n.place ≡ i) × (n.seconds ≡ 0)) in
    let P : List (Option Near) → Type 0 = λ l. AreAloneSoFar stops named l in
    subst P (sym p) (record {
      sound = λ stop n e. elim (push_cases near o stop (Some n) e) [
        | inl was ↦ h.sound stop n was
        | inr now ↦
            let f = subst M (sym now.1) is in
            let Q : ℕ → Type 0 = λ k. IsEnd stops named (id_at stops k) × (n.place ≡ k) × (n.seconds ≡ 0) in
            subst Q (sym (now.0 ∙ same)) f
      ];
      complete = λ stop e. elim (push_cases near o stop None e) [
        | inl was ↦ h.complete stop was
        | inr now ↦
            let f = subst M (sym now.1) is in
            let Q : ℕ → Type 0 = λ k. IsEnd stops named (id_at stops k) → ⊥ in
            subst Q (sym (now.0 ∙ same)) f
      ];
    })

-- what is at the place of a stop, whatever place is meant
at_place : (near : List (Option Near)) (inner_at stop : ℕ) → stop ≡ inner_at → inner_at < length near → (o : Option Near) → get_or near inner_at None ≡ o → (n : Near) → slice_get near stop ≡ Some (Some n) → o ≡ Some n
at_place near inner_at stop same within o e n f =
    let g = there near inner_at stop same (get_or near inner_at None) (slice_get-get_or near inner_at None within) in
    let h : Some (get_or near inner_at None) ≡ Some (Some n) = sym g ∙ f in
    cc

-- the walk is made of the end that is near
pub makes_walk : (side : Side) (stops : List Stop) (near : List (Option Near)) (inner : List ℕ) (place : ℕ) → IsPlaceOf stops inner place → place < length near →
    (n : Near) → get_or near place None ≡ Some n → 0 < n.seconds → (outer : List ℕ) → id_at stops n.place ≡ outer → (walk : Walk) → walk ≡ walk_of side inner outer n.seconds →
    IsWalkAt side stops near inner (Some walk)
makes_walk side stops near inner place is within n e some outer at walk made = λ stop l inner_at m f.
    let g = at_place near place stop (is.only stop l inner_at) within (Some n) e m f in
    let same : n ≡ m = cc in
    let P : List ℕ → Type 0 = λ id. walk ≡ walk_of side inner id n.seconds in
    let Q : Near → Type 0 = λ x. (0 < x.seconds) × (walk ≡ walk_of side inner (id_at stops x.place) x.seconds) in
    subst Q same (some, subst P (sym at) made)

-- there is no walk where the end is the stop itself
pub makes_none : (side : Side) (stops : List Stop) (near : List (Option Near)) (inner : List ℕ) (place : ℕ) → IsPlaceOf stops inner place → place < length near →
    (o : Option Near) → get_or near place None ≡ o → ((n : Near) → o ≡ Some n → 0 < n.seconds → ⊥) → IsWalkAt side stops near inner None
makes_none side stops near inner place is within o e none = λ stop l inner_at m f.
    let g = at_place near place stop (is.only stop l inner_at) within o e m f in
    elim (cases_lt 0 m.seconds) [ inl some ↦ absurd (none m g some) | inr zero ↦ omega arith ]
