-- What is written down points within the lists.
use Rattle.std.proofs.Common.{◌≡◌, ℕ, ◌<◌, ◌≤◌, ◌⊎◌, List, [], ◌∷◌, ◌++◌, Option, Some, None, true, length, set, sym, ◌∙◌, ap, subst, inl, inr, arith}
use Rattle.std.specs.List.{slice_get}
use Rattle.std.specs.Option.{MatchOption}
use Rattle.std.proofs.lemmas.List.{length-set, length_push}
use Rattle.lc_model.specs.declared.connection.Connection.{Connection}
use Rattle.lc_model.specs.declared.doc.StopsDoc.{StopsDoc}
use Rattle.lc_model.specs.declared.query.Query.{Query}
use Rattle.csa_scan.specs.Boards.{IsFirstBoarding, IsThere}
use Rattle.csa_scan.specs.Linked.{IsBoardingIn, IsArrivalIn, IsLinked}
use Rattle.csa_scan.specs.Relaxed.{Relaxes}
use Rattle.csa_scan.specs.Takes.{IsGoal, IsNoGoal, PicksGoal}
use Rattle.csa_scan.specs.declared.trace.Arrival.{Arrival}
use Rattle.csa_scan.specs.declared.trace.Boarding.{Boarding}
use Rattle.csa_scan.specs.declared.trace.Goal.{Goal}
use Rattle.csa_scan.specs.declared.trace.Near.{Near}
use Rattle.csa_scan.specs.declared.trace.Ready.{Ready}
use Rattle.csa_scan.proofs.ListPlacesLemmas.{push_cases, set_cases}

-- who is at a stop came by one of the arrivals
pub after_there : (query : Query) (starts : List (Option Near)) (ready : List (Option Ready)) (n stop at : ℕ) → ((stop : ℕ) (r : Ready) → slice_get ready stop ≡ Some (Some r) → r.after < n) →
    (after : Option ℕ) → IsThere query starts ready stop at after → (k : ℕ) → after ≡ Some k → k < n
after_there query starts ready n stop at h None t k e = absurd (cc)
after_there query starts ready n stop at h (Some place) t k e = let l = h stop t.0 t.1 in let m = t.2 in let same : place ≡ k = cc in omega arith

-- a boarding, before or now, points within the lists
pub boarding_in : (query : Query) (doc : StopsDoc) (starts : List (Option Near)) (boardings : List (Option Boarding)) (ready : List (Option Ready)) (reached : List (Option ℕ)) (arrivals : List Arrival) (best : Option Goal) →
    IsLinked boardings ready reached arrivals best → length ready ≡ length doc.stops → (run : ℕ) (before : Option Boarding) → slice_get boardings run ≡ Some before →
    (c : Connection) (b : Boarding) → (before ≡ Some b) ⊎ ((before ≡ None) × (c.board ≡ true) × IsFirstBoarding query doc starts ready c b) →
    IsBoardingIn (length ready) (length arrivals) b
boarding_in query doc starts boardings ready reached arrivals best h one_each run before e c b (inl was) = h.is_boarding run b (e ∙ ap Some was)
boarding_in query doc starts boardings ready reached arrivals best h one_each run before e c b (inr now) = record {
  stop = let l = now.2.within in omega arith;
  after = after_there query starts ready (length arrivals) b.stop c.dep h.is_ready b.after now.2.is_there;
}

-- the boarding is written down
pub linked-boarded : (boardings : List (Option Boarding)) (ready : List (Option Ready)) (reached : List (Option ℕ)) (arrivals : List Arrival) (best : Option Goal) →
    IsLinked boardings ready reached arrivals best → (run : ℕ) (b : Boarding) → IsBoardingIn (length ready) (length arrivals) b →
    IsLinked (set boardings run (Some b)) ready reached arrivals best
linked-boarded boardings ready reached arrivals best h run b is = record {
  same_stops = h.same_stops;
  is_boarding = λ i x e. elim (set_cases boardings run (Some b) i (Some x) e) [
    | inl now ↦ let same : b ≡ x = cc in let P : Boarding → Type 0 = λ y. IsBoardingIn (length ready) (length arrivals) y in subst P same is
    | inr was ↦ h.is_boarding i x was
  ];
  is_ready = h.is_ready;
  is_arrival = λ place a e.
      let P : ℕ → Type 0 = λ n. IsArrivalIn (length ready) n place a in
      subst P (sym (length-set boardings run (Some b))) (h.is_arrival place a e);
  is_best = h.is_best;
}

-- a boarding within a list is within a longer one
boarding_more : (stops n m : ℕ) (b : Boarding) → n ≤ m → IsBoardingIn stops n b → IsBoardingIn stops m b
boarding_more stops n m b l h = record { stop = h.stop; after = λ k e. let g = h.after k e in omega arith }

-- the arrival is written down
pub linked-arrived : (doc : StopsDoc) (boardings : List (Option Boarding)) (ready : List (Option Ready)) (reached : List (Option ℕ)) (arrivals : List Arrival) (best : Option Goal) →
    IsLinked boardings ready reached arrivals best → (a : Arrival) → IsArrivalIn (length ready) (length boardings) (length arrivals) a →
    (new_ready : List (Option Ready)) → Relaxes doc a.stop a.arr (length arrivals) ready new_ready →
    (new_best : Option Goal) → ((g : Goal) → new_best ≡ Some g → (best ≡ Some g) ⊎ (g.place ≡ length arrivals)) →
    IsLinked boardings new_ready (set reached a.stop (Some a.arr)) (arrivals ++ a ∷ []) new_best
linked-arrived doc boardings ready reached arrivals best h a is new_ready rel new_best picks =
    let n = length_push arrivals a in
    let same = rel.relaxed.same_stops in
    let P : ℕ → Type 0 = λ stops. IsBoardingIn stops (length arrivals) a.boarding in
    record {
      same_stops = length-set reached a.stop (Some a.arr) ∙ h.same_stops ∙ sym same;
      is_boarding = λ run b e.
          let Q : ℕ → Type 0 = λ stops. IsBoardingIn stops (length (arrivals ++ a ∷ [])) b in
          subst Q (sym same) (boarding_more (length ready) (length arrivals) (length (arrivals ++ a ∷ [])) b (omega arith) (h.is_boarding run b e));
      is_ready = λ stop r e. elim (rel.relaxed.sound stop r e) [
        | inl was ↦ let l = h.is_ready stop r was in omega arith
        | inr now ↦ let l = now.4 in omega arith
      ];
      is_arrival = λ place x e.
          let Q : ℕ → Type 0 = λ stops. IsArrivalIn stops (length boardings) place x in
          subst Q (sym same) (elim (push_cases arrivals a place x e) [
            | inl was ↦ h.is_arrival place x was
            | inr now ↦
                let R : Arrival → Type 0 = λ y. IsArrivalIn (length ready) (length boardings) place y in
                let S : ℕ → Type 0 = λ k. IsArrivalIn (length ready) (length boardings) k a in
                subst R (sym now.1) (subst S (sym now.0) is)
          ]);
      is_best = λ g e. elim (picks g e) [
        | inl stays ↦ let l = h.is_best g stays in omega arith
        | inr made ↦ omega arith
      ];
    }

-- a goal that was picked was the best before, or is that of the arrival
picked : (query : Query) (ends : List (Option Near)) (stop arr place : ℕ) (best goal new : Option Goal) → MatchOption goal (IsNoGoal query ends stop arr) (IsGoal query ends stop arr place) → PicksGoal best goal new →
    (g : Goal) → new ≡ Some g → (best ≡ Some g) ⊎ (g.place ≡ place)
picked query ends stop arr place best goal new is (inl stays) g e = inl (sym stays.0 ∙ e)
picked query ends stop arr place best goal new is (inr made) g e =
    let same : made.0 ≡ g = (let f = made.2 in cc) in
    let M : Option Goal → Type 0 = λ o. MatchOption o (IsNoGoal query ends stop arr) (IsGoal query ends stop arr place) in
    let P : Goal → Type 0 = λ x. x.place ≡ place in
    inr (subst P same (subst M made.1 is).is_place)

-- the arrival is written down, as the code has it
pub linked-written : (query : Query) (doc : StopsDoc) (ends : List (Option Near)) (boardings : List (Option Boarding)) (ready : List (Option Ready)) (reached : List (Option ℕ)) (arrivals : List Arrival) (best : Option Goal) →
    IsLinked boardings ready reached arrivals best → (a : Arrival) → IsArrivalIn (length ready) (length boardings) (length arrivals) a →
    (n : ℕ) → n ≡ length arrivals → (lent new_ready written : List (Option Ready)) → lent ≡ ready → Relaxes doc a.stop a.arr n lent new_ready → written ≡ new_ready →
    (goal new_best : Option Goal) → MatchOption goal (IsNoGoal query ends a.stop a.arr) (IsGoal query ends a.stop a.arr n) → PicksGoal best goal new_best →
    (pushed : List Arrival) → pushed ≡ arrivals ++ a ∷ [] → IsLinked boardings written (set reached a.stop (Some a.arr)) pushed new_best
linked-written query doc ends boardings ready reached arrivals best h a is n at lent new_ready written same rel w goal new_best is_goal picks pushed e =
    let R : ℕ → Type 0 = λ k. Relaxes doc a.stop a.arr k ready new_ready in
    let S : List (Option Ready) → Type 0 = λ l. Relaxes doc a.stop a.arr n l new_ready in
    let P : List Arrival → Type 0 = λ l. IsLinked boardings written (set reached a.stop (Some a.arr)) l new_best in
    let Q : List (Option Ready) → Type 0 = λ l. IsLinked boardings l (set reached a.stop (Some a.arr)) (arrivals ++ a ∷ []) new_best in
    subst P (sym e) (subst Q (sym w) (linked-arrived doc boardings ready reached arrivals best h a is new_ready (subst R at (subst S same rel)) new_best
    (λ g f. elim (picked query ends a.stop a.arr n best goal new_best is_goal picks g f) [ inl was ↦ inl was | inr now ↦ inr (now ∙ at) ])))
