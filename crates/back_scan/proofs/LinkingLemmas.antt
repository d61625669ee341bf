-- What is written down points within the lists, and on to later departures.
use Rattle.std.proofs.Common.{◌≡◌, ℕ, ◌<◌, ◌⊎◌, List, Option, Some, None, true, false, length, set, refl, sym, ◌∙◌, ap, subst, inl, inr, arith}
use Rattle.std.specs.List.{slice_get}
use Rattle.std.specs.Option.{MatchOption, is_some, option_map_or}
use Rattle.std.proofs.lemmas.Bool.{false≢true}
use Rattle.std.proofs.lemmas.List.{length-set}
use Rattle.std.proofs.lemmas.Option.{slice_get_within}
use Rattle.lc_model.specs.declared.connection.Connection.{Connection}
use Rattle.lc_model.specs.declared.doc.StopsDoc.{StopsDoc}
use Rattle.lc_model.specs.declared.query.Query.{Query}
use Rattle.csa_scan.specs.declared.trace.Near.{Near}
use Rattle.csa_scan.specs.Reach.{id_at}
use Rattle.csa_scan.proofs.ChangesLemmas.{change_takes_time}
use Rattle.csa_scan.proofs.ListPlacesLemmas.{set_cases, slice_get-set_same}
use Rattle.back_scan.specs.Alights.{IsFirstAlighting, IsOnWay}
use Rattle.back_scan.specs.Departs.{IsNoStart, IsStart, PicksStart}
use Rattle.back_scan.specs.Linked.{HasDeparture, IsAlightingIn, IsDepartureIn, IsLinked, departs_from, has_departure}
use Rattle.back_scan.specs.declared.trace.Alighting.{Alighting}
use Rattle.back_scan.specs.declared.trace.Departure.{Departure}
use Rattle.back_scan.specs.declared.trace.Start.{Start}
use Rattle.back_scan.proofs.GrowingLemmas.{departure-kept}
use Rattle.back_scan.proofs.RidesLemmas.{DepartsAfter, DepartsAfter-from_moment}

-- the moment and the test of a departure that is there
departs_from-is : (departures : List (Option Departure)) (k : ℕ) (d : Departure) → slice_get departures k ≡ Some (Some d) → departs_from departures k ≡ d.dep
departs_from-is departures k d e = ap (λ (o : Option (Option Departure)). option_map_or (λ (p : Option Departure). option_map_or (λ (x : Departure). x.dep) p 0) o 0) e

has_departure-is : (departures : List (Option Departure)) (k : ℕ) (d : Departure) → slice_get departures k ≡ Some (Some d) → has_departure departures k ≡ true
has_departure-is departures k d e = ap (λ (o : Option (Option Departure)). option_map_or (λ (p : Option Departure). is_some p) o false) e

found : (departures : List (Option Departure)) (k : ℕ) (o : Option (Option Departure)) → slice_get departures k ≡ o → option_map_or (λ (p : Option Departure). is_some p) o false ≡ true → HasDeparture departures k
found departures k None e h = absurd (false≢true h)
found departures k (Some None) e h = absurd (false≢true h)
found departures k (Some (Some d)) e h = record { departure = d; is = e }

-- a departure that is tested for is there
pub HasDeparture-from_test : (departures : List (Option Departure)) (k : ℕ) → has_departure departures k ≡ true → HasDeparture departures k
HasDeparture-from_test departures k h = found departures k (slice_get departures k) refl h

to_moment : (departures : List (Option Departure)) (k at : ℕ) → DepartsAfter departures k at → at < departs_from departures k
to_moment departures k at h = let e = departs_from-is departures k h.departure h.is in let l = h.after in omega arith

-- who is on the way goes on to a later departure
after_way : (query : Query) (doc : StopsDoc) (ends : List (Option Near)) (departures : List (Option Departure)) (stop at : ℕ) (next : Option ℕ) → IsOnWay query doc ends departures stop at next →
    (k : ℕ) → next ≡ Some k → DepartsAfter departures k at
after_way query doc ends departures stop at None h k e = absurd (cc)
after_way query doc ends departures stop at (Some place) h k e =
    let same : place ≡ k = cc in
    let t = change_takes_time doc.changes (id_at doc.stops stop) (id_at doc.stops place) h.seconds h.is_change in
    let u = h.in_time in
    let P : ℕ → Type 0 = λ i. DepartsAfter departures i at in
    subst P same (record { departure = h.departure; is = h.is_departure; after = omega arith })

-- an alighting, before or now, points within the lists
pub alighting_in : (query : Query) (doc : StopsDoc) (ends : List (Option Near)) (alightings : List (Option Alighting)) (departures : List (Option Departure)) (best : Option Start) →
    IsLinked alightings departures best → length departures ≡ length doc.stops → (run : ℕ) (later : Option Alighting) → slice_get alightings run ≡ Some later →
    (c : Connection) (a : Alighting) → (later ≡ Some a) ⊎ ((later ≡ None) × (c.alight ≡ true) × IsFirstAlighting query doc ends departures c a) →
    IsAlightingIn departures a
alighting_in query doc ends alightings departures best h one_each run later e c a (inl was) = h.is_alighting run a (e ∙ ap Some was)
alighting_in query doc ends alightings departures best h one_each run later e c a (inr now) = record {
  stop = let l = now.2.within in omega arith;
  next = λ k f.
      let P : ℕ → Type 0 = λ at. at < departs_from departures k in
      subst P (sym now.2.arr) (to_moment departures k c.arr (after_way query doc ends departures a.stop c.arr a.next now.2.on_way k f));
}

-- the alighting is written down
pub linked-left : (alightings : List (Option Alighting)) (departures : List (Option Departure)) (best : Option Start) →
    IsLinked alightings departures best → (run : ℕ) (a : Alighting) → IsAlightingIn departures a →
    IsLinked (set alightings run (Some a)) departures best
linked-left alightings departures best h run a is = record {
  is_alighting = λ i x e. elim (set_cases alightings run (Some a) i (Some x) e) [
    | inl now ↦ let g = now.1 in let same : a ≡ x = cc in let P : Alighting → Type 0 = λ y. IsAlightingIn departures y in subst P same is
    | inr was ↦ h.is_alighting i x was
  ];
  is_departure = λ stop d e.
      let P : ℕ → Type 0 = λ n. IsDepartureIn n departures d in
      subst P (sym (length-set alightings run (Some a))) (h.is_departure stop d e);
  is_best = h.is_best;
}

-- what points on to a departure does so when more are kept
alighting_more : (departures : List (Option Departure)) (stop : ℕ) → slice_get departures stop ≡ Some None → (d : Departure) (a : Alighting) → IsAlightingIn departures a → IsAlightingIn (set departures stop (Some d)) a
alighting_more departures stop free d a h = record {
  stop = let l = h.stop in let n = length-set departures stop (Some d) in omega arith;
  next = λ k e.
      let f = DepartsAfter-from_moment departures k a.arr (h.next k e) in
      to_moment (set departures stop (Some d)) k a.arr (record { departure = f.departure; is = departure-kept departures stop free d k f.departure f.is; after = f.after });
}

departure_more : (n : ℕ) (departures : List (Option Departure)) (stop : ℕ) → slice_get departures stop ≡ Some None → (d e : Departure) → IsDepartureIn n departures e → IsDepartureIn n (set departures stop (Some d)) e
departure_more n departures stop free d e h = record { run = h.run; is_moment = h.is_moment; forward = h.forward; alighting = alighting_more departures stop free d e.alighting h.alighting }

-- a start that was picked was the best before, or is that of the departure
picked : (query : Query) (starts : List (Option Near)) (stop dep : ℕ) (best start new : Option Start) → MatchOption start (IsNoStart query starts stop dep) (IsStart query starts stop dep) → PicksStart best start new →
    (s : Start) → new ≡ Some s → (best ≡ Some s) ⊎ (s.stop ≡ stop)
picked query starts stop dep best start new is (inl stays) s e = inl (sym stays.0 ∙ e)
picked query starts stop dep best start new is (inr made) s e =
    let same : made.0 ≡ s = (let f = made.2 in cc) in
    let M : Option Start → Type 0 = λ o. MatchOption o (IsNoStart query starts stop dep) (IsStart query starts stop dep) in
    let P : Start → Type 0 = λ x. x.stop ≡ stop in
    inr (subst P same (subst M made.1 is).is_stop)

-- the departure is written down
pub linked-departed : (query : Query) (starts : List (Option Near)) (alightings : List (Option Alighting)) (departures : List (Option Departure)) (best : Option Start) →
    IsLinked alightings departures best → (stop : ℕ) → slice_get departures stop ≡ Some None → (d : Departure) → IsDepartureIn (length alightings) departures d →
    (start new : Option Start) → MatchOption start (IsNoStart query starts stop d.dep) (IsStart query starts stop d.dep) → PicksStart best start new →
    IsLinked alightings (set departures stop (Some d)) new
linked-departed query starts alightings departures best h stop free d is start new is_start picks =
    let n = length alightings in
    let there = slice_get-set_same departures stop (Some d) (slice_get_within departures stop None free) in
    record {
      is_alighting = λ run a e. alighting_more departures stop free d a (h.is_alighting run a e);
      is_departure = λ k e at. elim (set_cases departures stop (Some d) k (Some e) at) [
        | inl now ↦
            let g = now.1 in
            let same : d ≡ e = cc in
            let P : Departure → Type 0 = λ y. IsDepartureIn n (set departures stop (Some d)) y in
            subst P same (departure_more n departures stop free d d is)
        | inr was ↦ departure_more n departures stop free d e (h.is_departure k e was)
      ];
      is_best = λ s e. elim (picked query starts stop d.dep best start new is_start picks s e) [
        | inl stays ↦
            let f = HasDeparture-from_test departures s.stop (h.is_best s stays) in
            has_departure-is (set departures stop (Some d)) s.stop f.departure (departure-kept departures stop free d s.stop f.departure f.is)
        | inr made ↦ let P : ℕ → Type 0 = λ k. has_departure (set departures stop (Some d)) k ≡ true in subst P (sym made) (has_departure-is (set departures stop (Some d)) stop d there)
      ];
    }
