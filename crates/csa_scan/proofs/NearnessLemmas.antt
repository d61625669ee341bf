-- How changes bring ends of the question near, one after the other.
use Rattle.std.proofs.Common.{◌≡◌, ◌≢◌, ℕ, ◌+◌, ◌<◌, ◌≤◌, ◌⊎◌, List, [], ◌∷◌, ◌++◌, Option, Some, None, length, get_or, take, sym, ◌∙◌, ap, subst, inl, inr, arith}
use Rattle.std.specs.List.{slice_get}
use Rattle.std.specs.Ordering.{ordering_then}
use Rattle.std.specs.declared.cmp.Ordering.{Ordering}
use Rattle.std.specs.declared.cmp.Ordering.TheVariants.{Less, Equal, Greater}
use Rattle.std.proofs.lemmas.Bool.{cases_lt}
use Rattle.std.proofs.lemmas.Cmp.{tied_itself, nat_list_cmp_total}
use Rattle.std.proofs.lemmas.List.{get_or-take, length-take, take_more}
use Rattle.std.proofs.lemmas.Option.{get_or_from_slice_get, slice_get_within}
use Rattle.lc_model.specs.Change.{InChangeOrder, change_cmp}
use Rattle.lc_model.specs.Question.{IsEnd}
use Rattle.lc_model.specs.Text.{id_cmp}
use Rattle.lc_model.specs.Walk.{IsNearer}
use Rattle.lc_model.specs.declared.change.Change.{Change}
use Rattle.lc_model.specs.declared.doc.StopsDoc.{StopsDoc}
use Rattle.lc_model.specs.declared.stop.Stop.{Stop}
use Rattle.csa_scan.specs.Near.{AreEndsAlone, AreNear, ComesNear, IsNear, inner_of, outer_of, walk_between}
use Rattle.csa_scan.specs.Reach.{id_at}
use Rattle.csa_scan.specs.declared.side.Side.{Side}
use Rattle.csa_scan.specs.declared.side.Side.TheVariants.{Before, After}
use Rattle.csa_scan.specs.declared.trace.Near.{Near}
use Rattle.csa_scan.proofs.ChangesLemmas.{change_found, change_is, place_from_change, place_to_change}
use Rattle.csa_scan.proofs.ListPlacesLemmas.{item_within, push_cases, slice_get-append, slice_get-last}

-- the walk is by one of the changes
pub record IsByChange (side : Side) (stops : List Stop) (named : List ℕ) (changes : List Change) (stop : ℕ) (n : Near) : Type 0 where
  pub no_end : IsEnd stops named (id_at stops stop) → ⊥
  pub place : ℕ
  pub change : Change
  pub is_change : slice_get changes place ≡ Some change
  pub outer : outer_of side change ≡ id_at stops n.place
  pub inner : inner_of side change ≡ id_at stops stop
  pub takes : change.seconds ≡ n.seconds
  pub is_end : IsEnd stops named (outer_of side change)

-- what is near by the changes so far
pub record AreNearBy (side : Side) (stops : List Stop) (named : List ℕ) (changes : List Change) (near : List (Option Near)) : Type 0 where
  pub same_stops : length near ≡ length stops
  pub within : (stop : ℕ) (n : Near) → slice_get near stop ≡ Some (Some n) → n.place < length stops
  pub sound : (stop : ℕ) (n : Near) → slice_get near stop ≡ Some (Some n) →
      (IsEnd stops named (id_at stops stop) × (n.seconds ≡ 0)) ⊎ IsByChange side stops named changes stop n
  pub ends : (stop : ℕ) → stop < length stops → IsEnd stops named (id_at stops stop) → (n : Near) × (slice_get near stop ≡ Some (Some n)) × (n.seconds ≡ 0)
  pub complete : (k : ℕ) (c : Change) → slice_get changes k ≡ Some c → (place : ℕ) → place < length stops → id_at stops place ≡ outer_of side c → IsEnd stops named (outer_of side c) →
      (stop : ℕ) → stop < length stops → id_at stops stop ≡ inner_of side c →
      (n : Near) × (slice_get near stop ≡ Some (Some n)) × IsNearer (id_at stops n.place) n.seconds (outer_of side c) c.seconds

-- the earlier changes at the inner stop have outer ones no greater than this one
abbrev pub ComesBehind : Side → List Change → Change → Type 0
ComesBehind side changes c = (k : ℕ) (x : Change) → slice_get changes k ≡ Some x → inner_of side x ≡ inner_of side c → id_cmp (outer_of side x) (outer_of side c) ≢ Greater

no_farther : (a : List ℕ) (m : ℕ) (b : List ℕ) (n : ℕ) → IsNearer a m b n → m ≤ n
no_farther a m b n (inl less) = omega arith
no_farther a m b n (inr (same, first)) = omega arith

itself_not_greater : (a : List ℕ) → id_cmp a a ≢ Greater
itself_not_greater a = let e = tied_itself nat_list_cmp_total a in λ f. cc

-- of two changes in order the outer stop of the first is not greater, where they are at one inner stop
first_not_greater : (o p : Ordering) → ordering_then o p ≡ Less → o ≢ Greater
first_not_greater Less p e = λ f. cc
first_not_greater Equal p e = λ f. cc
first_not_greater Greater p e = λ f. cc

behind_tied : (o p : Ordering) → ordering_then o p ≡ Less → o ≡ Equal → p ≢ Greater
behind_tied Less p e f = absurd (cc)
behind_tied Equal p e f = λ g. let h : p ≡ Less = e in cc
behind_tied Greater p e f = absurd (cc)

in_outer_order : (side : Side) (x c : Change) → change_cmp x c ≡ Less → inner_of side x ≡ inner_of side c → id_cmp (outer_of side x) (outer_of side c) ≢ Greater
in_outer_order Before x c less inner = first_not_greater (id_cmp x.from c.from) (id_cmp x.to c.to) less
in_outer_order After x c less inner =
    let P : List ℕ → Type 0 = λ id. id_cmp x.from id ≡ Equal in
    behind_tied (id_cmp x.from c.from) (id_cmp x.to c.to) less (subst P inner (tied_itself nat_list_cmp_total x.from))

comes_behind : (side : Side) (changes : List Change) (i : ℕ) (c : Change) → InChangeOrder changes → i < length changes → c ≡ get_or changes i c → ComesBehind side (take i changes) c
comes_behind side changes i c in_order l e = λ k x at inner.
    let w = slice_get_within (take i changes) k x at in
    let short : k < i = omega (arith, length-take i changes) in
    let is_x = sym (get_or-take i changes k c short) ∙ get_or_from_slice_get (take i changes) k x c at in
    let P : Change → Type 0 = λ y. change_cmp y (get_or changes i c) ≡ Less in
    let Q : Change → Type 0 = λ y. change_cmp x y ≡ Less in
    in_outer_order side x c (subst Q (sym e) (subst P is_x (in_order k i c short l))) inner

-- no change brings an end nearer than that it is one
pub near_by_none : (side : Side) (stops : List Stop) (named : List ℕ) (near : List (Option Near)) → AreEndsAlone stops named near → AreNearBy side stops named [] near
near_by_none side stops named near h = record {
  same_stops = h.same_stops;
  within = λ stop n e. let s = h.sound stop n e in let l = slice_get_within near stop (Some n) e in let same = h.same_stops in let at = s.1 in omega arith;
  sound = λ stop n e. let s = h.sound stop n e in inl (s.0, s.2);
  ends = λ stop l is. some_there near stop (omega (arith, h.same_stops)) (λ none. h.complete stop none is) (λ n e. (h.sound stop n e).2);
  complete = λ k c e. absurd (cc);
} where
  some_there : (near : List (Option Near)) (stop : ℕ) → stop < length near → (slice_get near stop ≡ Some None → ⊥) → ((n : Near) → slice_get near stop ≡ Some (Some n) → n.seconds ≡ 0) →
      (n : Near) × (slice_get near stop ≡ Some (Some n)) × (n.seconds ≡ 0)
  some_there near stop l none zero = let x = item_within near stop l in by_item x.0 x.1 where
    by_item : (o : Option Near) → slice_get near stop ≡ Some o → (n : Near) × (slice_get near stop ≡ Some (Some n)) × (n.seconds ≡ 0)
    by_item None e = absurd (none e)
    by_item (Some n) e = (n, e, zero n e)

-- what was near by the earlier changes is by one change more
by_change_more : (side : Side) (stops : List Stop) (named : List ℕ) (changes : List Change) (c : Change) (stop : ℕ) (n : Near) → IsByChange side stops named changes stop n → IsByChange side stops named (changes ++ c ∷ []) stop n
by_change_more side stops named changes c stop n h = record {
  no_end = h.no_end;
  place = h.place;
  change = h.change;
  is_change = slice_get-append changes (c ∷ []) h.place h.change h.is_change;
  outer = h.outer;
  inner = h.inner;
  takes = h.takes;
  is_end = h.is_end;
}

-- an end stays near to itself
ends_stay : (near new : List (Option Near)) (stop : ℕ) (n : Near) → slice_get near stop ≡ Some (Some n) → n.seconds ≡ 0 →
    (slice_get new stop ≡ Some (Some n)) ⊎ ((m : Near) × (slice_get new stop ≡ Some (Some m)) × (m.seconds < n.seconds)) →
    (m : Near) × (slice_get new stop ≡ Some (Some m)) × (m.seconds ≡ 0)
ends_stay near new stop n e zero (inl was) = (n, was, zero)
ends_stay near new stop n e zero (inr now) = absurd (let l = now.2 in omega arith)

-- what was near enough is so after a change more
near_enough : (stops : List Stop) (new : List (Option Near)) (stop : ℕ) (n : Near) (other : List ℕ) (seconds : ℕ) → IsNearer (id_at stops n.place) n.seconds other seconds →
    (slice_get new stop ≡ Some (Some n)) ⊎ ((m : Near) × (slice_get new stop ≡ Some (Some m)) × (m.seconds < n.seconds)) →
    (m : Near) × (slice_get new stop ≡ Some (Some m)) × IsNearer (id_at stops m.place) m.seconds other seconds
near_enough stops new stop n other seconds nearer (inl was) = (n, was, nearer)
near_enough stops new stop n other seconds nearer (inr now) =
    let l = no_farther (id_at stops n.place) n.seconds other seconds nearer in
    let m = now.2 in
    (now.0, now.1, inl (omega arith))

-- an end that was no farther than the new one is nearer: it takes less, or it came first
before_new : (side : Side) (stops : List Stop) (named : List ℕ) (changes : List Change) (c : Change) (stop : ℕ) (n : Near) → ComesBehind side changes c → id_at stops stop ≡ inner_of side c →
    (IsEnd stops named (id_at stops stop) × (n.seconds ≡ 0)) ⊎ IsByChange side stops named changes stop n → n.seconds ≤ c.seconds → IsNearer (id_at stops n.place) n.seconds (outer_of side c) c.seconds
before_new side stops named changes c stop n behind inner (inl here) l = let z = here.1 in let t = c.takes_time in inl (omega arith)
before_new side stops named changes c stop n behind inner (inr by) l = elim (cases_lt n.seconds c.seconds) [
  | inl less ↦ inl less
  | inr more ↦
      let P : List ℕ → Type 0 = λ id. id_cmp id (outer_of side c) ≢ Greater in
      inr ((omega arith), subst P by.outer (behind by.place by.change by.is_change (by.inner ∙ inner)))
]

-- the end of the new change is near, or one that was there before
by_new : (side : Side) (stops : List Stop) (named : List ℕ) (changes : List Change) (c : Change) (old new : List (Option Near)) → AreNearBy side stops named changes old → ComesBehind side changes c →
    (stop : ℕ) → id_at stops stop ≡ inner_of side c → (n : Near) → slice_get new stop ≡ Some (Some n) →
    ((slice_get old stop ≡ Some (Some n)) × (n.seconds ≤ c.seconds)) ⊎ ((id_at stops n.place ≡ outer_of side c) × (n.seconds ≡ c.seconds)) →
    IsNearer (id_at stops n.place) n.seconds (outer_of side c) c.seconds
by_new side stops named changes c old new h behind stop inner n e (inl was) = before_new side stops named changes c stop n behind inner (h.sound stop n was.0) was.1
by_new side stops named changes c old new h behind stop inner n e (inr now) =
    let P : List ℕ → Type 0 = λ id. id_cmp id (outer_of side c) ≢ Greater in
    inr (now.1, subst P (sym now.0) (itself_not_greater (outer_of side c)))

-- one change more
near_by_push : (side : Side) (stops : List Stop) (named : List ℕ) (changes : List Change) (c : Change) (old new : List (Option Near)) → AreNearBy side stops named changes old → ComesBehind side changes c →
    ComesNear stops named (outer_of side c) (inner_of side c) c.seconds old new → AreNearBy side stops named (changes ++ c ∷ []) new
near_by_push side stops named changes c old new h behind k = record {
  same_stops = k.same_stops ∙ h.same_stops;
  within = λ stop n e. elim (k.sound stop n e) [ inl was ↦ h.within stop n was | inr now ↦ now.1.within ];
  sound = λ stop n e. elim (k.sound stop n e) [
    | inl was ↦ elim (h.sound stop n was) [ inl here ↦ inl here | inr by ↦ inr (by_change_more side stops named changes c stop n by) ]
    | inr now ↦ inr (record {
      no_end = λ is.
          let l = slice_get_within new stop (Some n) e in
          let same = k.same_stops in let each = h.same_stops in
          let m = h.ends stop (omega arith) is in
          let less = now.1.nearer m.0 m.1 in let zero = m.2 in
          absurd (omega arith);
      place = length changes;
      change = c;
      is_change = slice_get-last changes c;
      outer = sym now.1.is;
      inner = sym now.0;
      takes = sym now.1.takes;
      is_end = now.1.is_end;
    })
  ];
  ends = λ stop l is. let m = h.ends stop l is in ends_stay old new stop m.0 m.1 m.2 (k.no_farther stop m.0 m.1);
  complete = λ i x e place lp at is stop ls there. elim (push_cases changes c i x e) [
    | inl was ↦
        let m = h.complete i x was place lp at is stop ls there in
        near_enough stops new stop m.0 (outer_of side x) x.seconds m.2 (k.no_farther stop m.0 m.1)
    | inr now ↦
        let C : Change → Type 0 = λ y. (id_at stops place ≡ outer_of side y) × IsEnd stops named (outer_of side y) × (id_at stops stop ≡ inner_of side y) in
        let of_c = subst C now.1 (at, is, there) in
        let m = k.complete place lp of_c.0 of_c.1 stop ls of_c.2 in
        let Q : Change → Type 0 = λ y. (n : Near) × (slice_get new stop ≡ Some (Some n)) × IsNearer (id_at stops n.place) n.seconds (outer_of side y) y.seconds in
        subst Q (sym now.1) (m.0, m.1, by_new side stops named changes c old new h behind stop of_c.2 m.0 m.1 m.2)
  ];
}

pub near_by_more : (side : Side) (stops : List Stop) (named : List ℕ) (changes : List Change) (i : ℕ) (c : Change) (old new : List (Option Near)) → InChangeOrder changes →
    i < length changes → c ≡ get_or changes i c → AreNearBy side stops named (take i changes) old → ComesNear stops named (outer_of side c) (inner_of side c) c.seconds old new →
    AreNearBy side stops named (take (i + 1) changes) new
near_by_more side stops named changes i c old new in_order l e h k =
    let P : List Change → Type 0 = λ cs. AreNearBy side stops named cs new in
    let more = take_more changes i c l ∙ ap (λ (x : Change). take i changes ++ x ∷ []) (sym e) in
    subst P (sym more) (near_by_push side stops named (take i changes) c old new h (comes_behind side changes i c in_order l e) k)

-- a stop with a walk to an outer one has a change to it
change_of_walk : (side : Side) (doc : StopsDoc) (inner outer : List ℕ) (seconds : ℕ) → walk_between side doc.changes inner outer ≡ Some seconds →
    (k : ℕ) × (c : Change) × (slice_get doc.changes k ≡ Some c) × (outer_of side c ≡ outer) × (inner_of side c ≡ inner) × (c.seconds ≡ seconds)
change_of_walk Before doc inner outer seconds e = let r = change_found doc.changes outer inner seconds e in (r.0, r.1, r.2, r.3, r.4, r.5)
change_of_walk After doc inner outer seconds e = let r = change_found doc.changes inner outer seconds e in (r.0, r.1, r.2, r.4, r.3, r.5)

outer_place : (side : Side) (doc : StopsDoc) (inner outer : List ℕ) (seconds : ℕ) → walk_between side doc.changes inner outer ≡ Some seconds →
    (place : ℕ) × (place < length doc.stops) × (id_at doc.stops place ≡ outer)
outer_place Before doc inner outer seconds e = place_from_change doc outer inner seconds e
outer_place After doc inner outer seconds e = place_to_change doc inner outer seconds e

pub inner_place : (side : Side) (doc : StopsDoc) (inner outer : List ℕ) (seconds : ℕ) → walk_between side doc.changes inner outer ≡ Some seconds →
    (place : ℕ) × (place < length doc.stops) × (id_at doc.stops place ≡ inner)
inner_place Before doc inner outer seconds e = place_to_change doc outer inner seconds e
inner_place After doc inner outer seconds e = place_from_change doc inner outer seconds e

walk_of_change : (side : Side) (changes : List Change) → InChangeOrder changes → (k : ℕ) (c : Change) → slice_get changes k ≡ Some c → walk_between side changes (inner_of side c) (outer_of side c) ≡ Some c.seconds
walk_of_change Before changes in_order k c e = change_is changes in_order k c e
walk_of_change After changes in_order k c e = change_is changes in_order k c e

-- each walk to an end is no nearer than the end that was found
all_farther : (side : Side) (doc : StopsDoc) (named : List ℕ) (near : List (Option Near)) → AreNearBy side doc.stops named doc.changes near → (stop : ℕ) → stop < length doc.stops →
    (other : List ℕ) (longer : ℕ) → IsEnd doc.stops named other → walk_between side doc.changes (id_at doc.stops stop) other ≡ Some longer →
    (n : Near) × (slice_get near stop ≡ Some (Some n)) × IsNearer (id_at doc.stops n.place) n.seconds other longer
all_farther side doc named near h stop l other longer is e =
    let c = change_of_walk side doc (id_at doc.stops stop) other longer e in
    let p = outer_place side doc (id_at doc.stops stop) other longer e in
    let P : List ℕ → Type 0 = λ id. IsEnd doc.stops named id in
    let m = h.complete c.0 c.1 c.2 p.0 p.1 (p.2 ∙ sym c.3) (subst P (sym c.3) is) stop l (sym c.4) in
    let Q : List ℕ → Type 0 = λ id. IsNearer (id_at doc.stops m.0.place) m.0.seconds id longer in
    let R : ℕ → Type 0 = λ t. IsNearer (id_at doc.stops m.0.place) m.0.seconds (outer_of side c.1) t in
    (m.0, m.1, subst Q c.3 (subst R c.5 m.2))

is_nearest : (side : Side) (doc : StopsDoc) → InChangeOrder doc.changes → (named : List ℕ) (near : List (Option Near)) → AreNearBy side doc.stops named doc.changes near →
    (stop : ℕ) (n : Near) → stop < length doc.stops → slice_get near stop ≡ Some (Some n) →
    (IsEnd doc.stops named (id_at doc.stops stop) × (n.seconds ≡ 0)) ⊎ IsByChange side doc.stops named doc.changes stop n → IsNear side doc.stops doc.changes named (id_at doc.stops stop) n
is_nearest side doc in_order named near h stop n l e (inl here) = inl here
is_nearest side doc in_order named near h stop n l e (inr by) =
    let P : List ℕ → Type 0 = λ id. IsEnd doc.stops named id in
    let W : List ℕ → Type 0 = λ id. walk_between side doc.changes id (outer_of side by.change) ≡ Some by.change.seconds in
    let V : List ℕ → Type 0 = λ id. walk_between side doc.changes (id_at doc.stops stop) id ≡ Some by.change.seconds in
    inr (
      by.no_end,
      record {
        is_an_end = subst P by.outer by.is_end;
        takes_so_long = subst V by.outer (subst W by.inner (walk_of_change side doc.changes in_order by.place by.change by.is_change)) ∙ ap Some by.takes;
        none_is_nearer = λ other longer is walk.
            let m = all_farther side doc named near h stop l other longer is walk in
            let at = m.1 in
            let same : m.0 ≡ n = cc in
            let Q : Near → Type 0 = λ x. IsNearer (id_at doc.stops x.place) x.seconds other longer in
            subst Q same m.2;
      },
    )

-- all changes of the document
pub near_by_all : (side : Side) (doc : StopsDoc) → InChangeOrder doc.changes → (named : List ℕ) (near : List (Option Near)) → AreNearBy side doc.stops named doc.changes near →
    AreNear side doc.stops doc.changes named near
near_by_all side doc in_order named near h = record {
  same_stops = h.same_stops;
  within = λ stop n e. let l = h.within stop n e in let same = h.same_stops in omega arith;
  is_near = λ stop n e.
      let l = slice_get_within near stop (Some n) e in let same = h.same_stops in
      is_nearest side doc in_order named near h stop n (omega arith) e (h.sound stop n e);
  is_far = λ stop e. let l = slice_get_within near stop None e in let same = h.same_stops in record {
    no_end = λ is. let m = h.ends stop (omega arith) is in let f = m.1 in absurd (cc);
    no_walk = λ other seconds is walk. let m = all_farther side doc named near h stop (omega arith) other seconds is walk in let f = m.1 in absurd (cc);
  };
}
