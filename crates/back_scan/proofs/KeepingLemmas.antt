-- One connection more: what the progress keeps stands for the longer list, where no departure is kept.
use Rattle.std.proofs.Common.{◌≡◌, ℕ, ◌<◌, ◌≤◌, List, ◌∷◌, Option, Some, None, true, length, set, refl, sym, ◌∙◌, ap, subst, inl, inr, arith}
use Rattle.std.specs.List.{slice_get}
use Rattle.std.proofs.lemmas.Option.{slice_get_within}
use Rattle.lc_model.specs.Stop.{HasStop}
use Rattle.lc_model.specs.Walk.{IsWalkAfter}
use Rattle.lc_model.specs.declared.connection.Connection.{Connection}
use Rattle.lc_model.specs.declared.doc.StopsDoc.{StopsDoc}
use Rattle.lc_model.specs.declared.key.RunKey.{RunKey}
use Rattle.lc_model.specs.declared.query.Query.{Query}
use Rattle.lc_model.specs.declared.ride.Ride.{Ride}
use Rattle.csa_scan.specs.Near.{AreNear}
use Rattle.csa_scan.specs.Reach.{id_at}
use Rattle.csa_scan.specs.Stands.{IsAsked}
use Rattle.csa_scan.specs.declared.side.Side.TheVariants.{After}
use Rattle.csa_scan.specs.declared.trace.Near.{Near}
use Rattle.csa_scan.proofs.ChangesLemmas.{place_from_change, place_from_HasStop}
use Rattle.csa_scan.proofs.ListPlacesLemmas.{same_place, set_cases, slice_get-set_other, slice_get-set_same}
use Rattle.csa_scan.proofs.NearWalksLemmas.{end_found, end_walk, place_of_end}
use Rattle.back_scan.specs.Alights.{CannotAlight, GetsOff, IsOnWay, StaysOn}
use Rattle.back_scan.specs.Before.{IsBefore}
use Rattle.back_scan.specs.Departs.{IsNoBoarding}
use Rattle.back_scan.specs.Kept.{Kept}
use Rattle.back_scan.specs.Onward.{IsAlightingOf, IsInTime, IsLeft, MayGoOn}
use Rattle.back_scan.specs.Stands.{Follows, Stands}
use Rattle.back_scan.specs.declared.trace.Alighting.{Alighting}
use Rattle.back_scan.specs.declared.trace.Departure.{Departure}
use Rattle.back_scan.proofs.GrowingLemmas.{BeginsWith, alighting-taken, front_cases, leg_begin-taken, leg_cases}

-- who is on the way at a stop may go on from there
pub may_go_on_there : (query : Query) (doc : StopsDoc) (ends : List (Option Near)) → AreNear After doc.stops doc.changes query.to ends → (departures : List (Option Departure)) →
    (stop at : ℕ) (next : Option ℕ) (id : List ℕ) → id_at doc.stops stop ≡ id → IsOnWay query doc ends departures stop at next → MayGoOn query doc departures next id at
may_go_on_there query doc ends near departures stop at None id e t =
    let w = end_walk query doc ends near stop t.0 t.1 in
    let l = t.2 in let same = w.2 in
    let P : List ℕ → Type 0 = λ x. IsWalkAfter query doc x w.0 in
    (w.0, subst P e w.1, omega arith)
may_go_on_there query doc ends near departures stop at (Some place) id e t =
    let P : List ℕ → Type 0 = λ x. IsInTime doc departures x at place in subst P e t

-- where the connection cannot be left, one does not go on after it
pub may_not_go_on : (query : Query) (doc : StopsDoc) → IsAsked query doc → (ends : List (Option Near)) → AreNear After doc.stops doc.changes query.to ends → (departures : List (Option Departure)) →
    (c : Connection) → CannotAlight query doc ends departures c → (next : Option ℕ) → MayGoOn query doc departures next c.arr_stop c.arr → ⊥
may_not_go_on query doc asked ends near departures c cannot None m =
    let p = place_of_end query doc asked c.arr_stop m.0 m.1 in
    let n = end_found query doc ends near p.0 p.1 c.arr_stop p.2 m.0 m.1 in
    let l = m.2 in let same = n.2 in
    (cannot p.0 p.1 p.2).no_end n.0 n.1 (omega arith)
may_not_go_on query doc asked ends near departures c cannot (Some place) m =
    let p = place_from_change doc c.arr_stop (id_at doc.stops place) m.seconds m.is_change in
    let P : List ℕ → Type 0 = λ x. IsInTime doc departures x c.arr place in
    (cannot p.0 p.1 p.2).no_change place (subst P (sym p.2) m)

-- a run that is left stays so when the alighting of one is written down
pub left-set : (runs : List RunKey) (alightings : List (Option Alighting)) (run : ℕ) (a : Alighting) → run < length alightings → (key : RunKey) →
    IsLeft runs alightings key → IsLeft runs (set alightings run (Some a)) key
left-set runs alightings run a l key h = elim (same_place h.run run) [
  | inl e ↦ let P : ℕ → Type 0 = λ k. slice_get runs k ≡ Some key in
      record { run = run; alighting = a; is_run = subst P e h.is_run; is_alighting = slice_get-set_same alightings run (Some a) l }
  | inr n ↦ record { run = h.run; alighting = h.alighting; is_run = h.is_run; is_alighting = slice_get-set_other alightings run (Some a) h.run n ∙ h.is_alighting }
]

-- the new alighting is one of the longer list
pub gets_off : (query : Query) (doc : StopsDoc) (ends : List (Option Near)) → AreNear After doc.stops doc.changes query.to ends → (runs : List RunKey) (kept : Kept) (list : List Connection) → Follows query doc runs kept list →
    (run : ℕ) (c : Connection) → IsBefore runs list run c → (a : Alighting) → GetsOff query doc ends kept run c a →
    (run < length kept.alightings) × IsAlightingOf query doc kept.departures (c ∷ list) c.key a
gets_off query doc ends near runs kept list f run c before a (inl old) =
    (slice_get_within kept.alightings run (Some a) old, alighting-taken query doc kept.departures c list c.key a (f.alighting_sound run a c.key old before.is_run))
gets_off query doc ends near runs kept list f run c before a (inr new) = (
  slice_get_within kept.alightings run None new.0,
  record {
    place = 0;
    last = c;
    is_last = refl;
    of_run = refl;
    allowed = new.1;
    seq = new.2.seq;
    stop = new.2.stop;
    arr = new.2.arr;
    may_go_on = may_go_on_there query doc ends near kept.departures a.stop c.arr a.next c.arr_stop new.2.stop new.2.on_way;
  },
)

-- after the alighting is written down, each is one of the longer list
sound_after : (query : Query) (doc : StopsDoc) (runs : List RunKey) (kept : Kept) (list : List Connection) → Follows query doc runs kept list →
    (run : ℕ) (c : Connection) → IsBefore runs list run c → (a : Alighting) → IsAlightingOf query doc kept.departures (c ∷ list) c.key a →
    (i : ℕ) (x : Alighting) (key : RunKey) → slice_get (set kept.alightings run (Some a)) i ≡ Some (Some x) → slice_get runs i ≡ Some key →
    IsAlightingOf query doc kept.departures (c ∷ list) key x
sound_after query doc runs kept list f run c before a off i x key e is_run = elim (set_cases kept.alightings run (Some a) i (Some x) e) [
  | inl new ↦
      let g = new.1 in
      let same : a ≡ x = cc in
      let P : ℕ → Type 0 = λ k. slice_get runs k ≡ Some key in
      let r = subst P new.0 is_run in
      let n = before.is_run in
      let same_key : c.key ≡ key = cc in
      let Q : RunKey → Type 0 = λ k. IsAlightingOf query doc kept.departures (c ∷ list) k a in
      let R : Alighting → Type 0 = λ y. IsAlightingOf query doc kept.departures (c ∷ list) key y in
      subst R same (subst Q same_key off)
  | inr old ↦ alighting-taken query doc kept.departures c list key x (f.alighting_sound i x key old is_run)
]

-- a connection of a run that is left: the alighting is written down
pub follows-left : (query : Query) (doc : StopsDoc) (ends : List (Option Near)) → AreNear After doc.stops doc.changes query.to ends → (runs : List RunKey) (kept : Kept) (list : List Connection) → Follows query doc runs kept list →
    (run : ℕ) (c : Connection) → IsBefore runs list run c → (a : Alighting) → GetsOff query doc ends kept run c a →
    Follows query doc runs (record kept { alightings = set kept.alightings run (Some a) }) (c ∷ list)
follows-left query doc ends near runs kept list f run c before a g =
    let off = gets_off query doc ends near runs kept list f run c before a g in
    record {
      departure_sound = λ stop d e. leg_begin-taken query doc runs kept.departures c list stop d (f.departure_sound stop d e);
      alighting_sound = λ i x key e is_run. sound_after query doc runs kept list f run c before a off.1 i x key e is_run;
      alighting_complete = λ place x e allowed next m. elim (front_cases c list place x e) [
        | inl new ↦ let P : Connection → Type 0 = λ y. IsLeft runs (set kept.alightings run (Some a)) y.key in
            subst P (sym new.1) (record { run = run; alighting = a; is_run = before.is_run; is_alighting = slice_get-set_same kept.alightings run (Some a) off.0 })
        | inr old ↦ left-set runs kept.alightings run a off.0 x.key (f.alighting_complete old.0 x old.2 allowed next m)
      ];
      best = f.best;
    }

-- none of the longer list arrives early
pub forward-taken : (query : Query) (doc : StopsDoc) (runs : List RunKey) (kept : Kept) (list : List Connection) → Stands query doc runs kept list → (run : ℕ) (c : Connection) → IsBefore runs list run c →
    (place : ℕ) (x : Connection) → slice_get (c ∷ list) place ≡ Some x → x.dep ≤ x.arr
forward-taken query doc runs kept list s run c before place x e = elim (front_cases c list place x e) [
  | inl new ↦ let P : Connection → Type 0 = λ y. y.dep ≤ y.arr in subst P (sym new.1) before.forward
  | inr old ↦ s.forward old.0 x old.2
]

-- none of the longer list arrives before the new connection departs
pub arrives_after : (query : Query) (doc : StopsDoc) (runs : List RunKey) (kept : Kept) (list : List Connection) → Stands query doc runs kept list → (run : ℕ) (c : Connection) → IsBefore runs list run c →
    (place : ℕ) (x : Connection) → slice_get (c ∷ list) place ≡ Some x → c.dep ≤ x.arr
arrives_after query doc runs kept list s run c before place x e = elim (front_cases c list place x e) [
  | inl new ↦ let P : Connection → Type 0 = λ y. c.dep ≤ y.arr in subst P (sym new.1) before.forward
  | inr old ↦ let f = s.forward old.0 x old.2 in let a = before.ahead old.0 x old.2 in omega arith
]

-- a connection that cannot be left is not
never : (query : Query) (doc : StopsDoc) → IsAsked query doc → (ends : List (Option Near)) → AreNear After doc.stops doc.changes query.to ends → (kept : Kept) → (run : ℕ) (c : Connection) → StaysOn query doc ends kept run c →
    (x : Connection) → x ≡ c → x.alight ≡ true → (next : Option ℕ) → MayGoOn query doc kept.departures next x.arr_stop x.arr → ⊥
never query doc asked ends near kept run c on x e allowed next m =
    let P : Connection → Type 0 = λ y. MayGoOn query doc kept.departures next y.arr_stop y.arr in
    may_not_go_on query doc asked ends near kept.departures c (on.cannot (sym (ap (λ (y : Connection). y.alight) e) ∙ allowed)) next (subst P e m)

-- after no leg of a run that is not left, and that begins with the new connection, one goes on
no_begin : (query : Query) (doc : StopsDoc) → IsAsked query doc → (ends : List (Option Near)) → AreNear After doc.stops doc.changes query.to ends → (runs : List RunKey) (kept : Kept) (list : List Connection) → Stands query doc runs kept list →
    (run : ℕ) (c : Connection) → IsBefore runs list run c → StaysOn query doc ends kept run c →
    (ride : Ride) → BeginsWith c list ride → (next : Option ℕ) → MayGoOn query doc kept.departures next ride.alight ride.arr → ⊥
no_begin query doc asked ends near runs kept list s run c before on ride begins next m =
    let P : List ℕ → Type 0 = λ id. MayGoOn query doc kept.departures next id ride.arr in
    let Q : ℕ → Type 0 = λ at. MayGoOn query doc kept.departures next begins.last.arr_stop at in
    let may = subst Q begins.arr (subst P begins.alight m) in
    elim (front_cases c list begins.place begins.last begins.is_last) [
      | inl new ↦ never query doc asked ends near kept run c on begins.last new.1 begins.may_alight next may
      | inr old ↦
          let b = s.follows.alighting_complete old.0 begins.last old.2 begins.may_alight next may in
          let R : RunKey → Type 0 = λ k. slice_get runs b.run ≡ Some k in
          let same = before.unique b.run run c.key (subst R (sym begins.same_run) b.is_run) before.is_run in
          let S : ℕ → Type 0 = λ k. slice_get kept.alightings k ≡ Some (Some b.alighting) in
          let off = subst S same b.is_alighting in
          let not_off = on.not_left in
          absurd (cc)
    ]

-- a connection of a run that is not left
pub stands-passed : (query : Query) (doc : StopsDoc) → IsAsked query doc → (ends : List (Option Near)) → AreNear After doc.stops doc.changes query.to ends → (runs : List RunKey) (kept : Kept) (list : List Connection) → Stands query doc runs kept list →
    (run : ℕ) (c : Connection) → IsBefore runs list run c → StaysOn query doc ends kept run c → Stands query doc runs kept (c ∷ list)
stands-passed query doc asked ends near runs kept list s run c before on = record {
  follows = let f = s.follows in record {
    departure_sound = λ stop d e. leg_begin-taken query doc runs kept.departures c list stop d (f.departure_sound stop d e);
    alighting_sound = λ i x key e is_run. alighting-taken query doc kept.departures c list key x (f.alighting_sound i x key e is_run);
    alighting_complete = λ place x e allowed next m. elim (front_cases c list place x e) [
      | inl new ↦ absurd (never query doc asked ends near kept run c on x new.1 allowed next m)
      | inr old ↦ f.alighting_complete old.0 x old.2 allowed next m
    ];
    best = f.best;
  };
  complete = λ ride leg next m known. elim (leg_cases c list ride leg) [
    | inl old ↦ s.complete ride old next m known
    | inr begins ↦ absurd (no_begin query doc asked ends near runs kept list s run c before on ride begins next m)
  ];
  forward = forward-taken query doc runs kept list s run c before;
}

-- a departure that is kept is no earlier than the new connection
no_earlier : (query : Query) (doc : StopsDoc) (runs : List RunKey) (kept : Kept) (list : List Connection) → Stands query doc runs kept list → (run : ℕ) (c : Connection) → IsBefore runs list run c →
    (stop : ℕ) (d : Departure) → slice_get kept.departures stop ≡ Some (Some d) → c.dep ≤ d.dep
no_earlier query doc runs kept list s run c before stop d e =
    let h = s.follows.departure_sound stop d e in
    let a = before.ahead h.is_leg.boards_at h.is_leg.boards h.is_leg.is_boards in
    let r = ap (λ (x : Ride). x.dep) h.is_leg.is_ride in
    let t = h.is_shown.dep in
    omega arith

-- a connection of a run that is left, from whose stop a departure is kept, or that may not be boarded
pub stands-left : (query : Query) (doc : StopsDoc) (ends : List (Option Near)) → AreNear After doc.stops doc.changes query.to ends → (runs : List RunKey) (kept : Kept) (list : List Connection) → Stands query doc runs kept list →
    (run : ℕ) (c : Connection) → IsBefore runs list run c → (a : Alighting) → GetsOff query doc ends kept run c a → IsNoBoarding doc kept.departures c a →
    Stands query doc runs (record kept { alightings = set kept.alightings run (Some a) }) (c ∷ list)
stands-left query doc ends near runs kept list s run c before a g none =
    let off = gets_off query doc ends near runs kept list s.follows run c before a g in
    record {
      follows = follows-left query doc ends near runs kept list s.follows run c before a g;
      complete = λ ride leg next m known. elim (leg_cases c list ride leg) [
        | inl old ↦ s.complete ride old next m known
        | inr begins ↦
            let P : List ℕ → Type 0 = λ id. HasStop doc.stops id in
            let p = place_from_HasStop doc.stops c.dep_stop (subst P begins.board known) in
            let arr = off.1.arr in
            let after = arrives_after query doc runs kept list s run c before off.1.place off.1.last off.1.is_last in
            let h = none begins.may_board (omega arith) p.0 p.1 p.2 in
            let by = no_earlier query doc runs kept list s run c before p.0 h.departure h.is in
            let dep = begins.dep in
            record { place = p.0; departure = h.departure; is_departure = h.is; from = p.2 ∙ sym begins.board; no_earlier = omega arith }
      ];
      forward = forward-taken query doc runs kept list s run c before;
    }
