-- What one connection more before a list, and one departure more, change and leave.
use Rattle.std.proofs.Common.{◌≡◌, ℕ, ◌≤◌, ◌⊎◌, suc, zero, List, ◌∷◌, Option, Some, None, true, set, refl, sym, ◌∙◌, ap, subst, inl, inr, arith}
use Rattle.std.specs.List.{slice_get}
use Rattle.lc_model.specs.Leg.{IsLegOf}
use Rattle.lc_model.specs.declared.connection.Connection.{Connection}
use Rattle.lc_model.specs.declared.doc.StopsDoc.{StopsDoc}
use Rattle.lc_model.specs.declared.key.RunKey.{RunKey}
use Rattle.lc_model.specs.declared.query.Query.{Query}
use Rattle.lc_model.specs.declared.ride.Ride.{Ride}
use Rattle.lc_model.specs.declared.stop.Stop.{Stop}
use Rattle.csa_scan.specs.Reach.{id_at}
use Rattle.csa_scan.proofs.ChangesLemmas.{change_takes_time}
use Rattle.csa_scan.proofs.ListPlacesLemmas.{same_place, set_cases, slice_get-set_other}
use Rattle.back_scan.specs.Onward.{IsAlightingOf, IsLeftFrom, IsLegBegin, MayGoOn}
use Rattle.back_scan.specs.declared.trace.Alighting.{Alighting}
use Rattle.back_scan.specs.declared.trace.Departure.{Departure}

-- an item of the longer list is the new one or an old one
pub front_cases : {X : Type 0} (y : X) (xs : List X) (i : ℕ) (x : X) → slice_get (y ∷ xs) i ≡ Some x → ((i ≡ 0) × (x ≡ y)) ⊎ ((j : ℕ) × (i ≡ suc j) × (slice_get xs j ≡ Some x))
front_cases y xs zero x e = inl (refl, cc)
front_cases y xs (suc i) x e = inr (i, refl, e)

-- the leg begins with the connection before the list
pub record BeginsWith (c : Connection) (list : List Connection) (ride : Ride) : Type 0 where
  pub place : ℕ
  pub last : Connection
  pub is_last : slice_get (c ∷ list) place ≡ Some last
  pub same_run : c.key ≡ last.key
  pub may_board : c.board ≡ true
  pub may_alight : last.alight ≡ true
  pub board : ride.board ≡ c.dep_stop
  pub dep : ride.dep ≡ c.dep
  pub alight : ride.alight ≡ last.arr_stop
  pub arr : ride.arr ≡ last.arr

-- a leg stays one
pub leg-grown : (c : Connection) (list : List Connection) (ride : Ride) → IsLegOf list ride → IsLegOf (c ∷ list) ride
leg-grown c list ride h = record {
  boards_at = suc h.boards_at;
  last_at = suc h.last_at;
  in_order = let o = h.in_order in omega arith;
  boards = h.boards;
  last = h.last;
  is_boards = h.is_boards;
  is_last = h.is_last;
  same_run = h.same_run;
  may_board = h.may_board;
  may_alight = h.may_alight;
  is_ride = h.is_ride;
}

-- a leg whose first connection is the new one begins with it
begins_with : (c : Connection) (list : List Connection) (ride : Ride) (h : IsLegOf (c ∷ list) ride) → h.boards ≡ c → BeginsWith c list ride
begins_with c list ride h e = record {
  place = h.last_at;
  last = h.last;
  is_last = h.is_last;
  same_run = sym (ap (λ (x : Connection). x.key) e) ∙ h.same_run;
  may_board = sym (ap (λ (x : Connection). x.board) e) ∙ h.may_board;
  may_alight = h.may_alight;
  board = ap (λ (r : Ride). r.board) h.is_ride ∙ ap (λ (x : Connection). x.dep_stop) e;
  dep = ap (λ (r : Ride). r.dep) h.is_ride ∙ ap (λ (x : Connection). x.dep) e;
  alight = ap (λ (r : Ride). r.alight) h.is_ride;
  arr = ap (λ (r : Ride). r.arr) h.is_ride;
}

-- a leg of the longer list is an old one, or begins with the new connection
pub leg_cases : (c : Connection) (list : List Connection) (ride : Ride) → IsLegOf (c ∷ list) ride → IsLegOf list ride ⊎ BeginsWith c list ride
leg_cases c list ride h =
    elim (front_cases c list h.boards_at h.boards h.is_boards) [
      | inl new ↦ inr (begins_with c list ride h new.1)
      | inr old ↦ elim (front_cases c list h.last_at h.last h.is_last) [
        | inl new ↦ let o = h.in_order in let z = new.0 in let s = old.1 in absurd (omega arith)
        | inr last ↦ inl (record {
          boards_at = old.0;
          last_at = last.0;
          in_order = let o = h.in_order in let s = old.1 in let t = last.1 in omega arith;
          boards = h.boards;
          last = h.last;
          is_boards = old.2;
          is_last = last.2;
          same_run = h.same_run;
          may_board = h.may_board;
          may_alight = h.may_alight;
          is_ride = h.is_ride;
        })
      ]
    ]

-- a departure stays where one from another stop is kept
pub departure-kept : (departures : List (Option Departure)) (stop : ℕ) → slice_get departures stop ≡ Some None → (d : Departure) →
    (k : ℕ) (e : Departure) → slice_get departures k ≡ Some (Some e) → slice_get (set departures stop (Some d)) k ≡ Some (Some e)
departure-kept departures stop free d k e at = elim (same_place k stop) [
  | inl same ↦ let P : ℕ → Type 0 = λ i. slice_get departures i ≡ Some (Some e) in let there = subst P same at in absurd (cc)
  | inr other ↦ slice_get-set_other departures stop (Some d) k other ∙ at
]

-- where one could go on, one can when more departures are kept
pub may_go_on-grown : (query : Query) (doc : StopsDoc) (departures : List (Option Departure)) (stop : ℕ) → slice_get departures stop ≡ Some None → (d : Departure) →
    (next : Option ℕ) (id : List ℕ) (at : ℕ) → MayGoOn query doc departures next id at → MayGoOn query doc (set departures stop (Some d)) next id at
may_go_on-grown query doc departures stop free d None id at h = h
may_go_on-grown query doc departures stop free d (Some place) id at h = record {
  departure = h.departure;
  is_departure = departure-kept departures stop free d place h.departure h.is_departure;
  seconds = h.seconds;
  is_change = h.is_change;
  in_time = h.in_time;
}

-- who arrives no earlier than the new departure goes on without it: a change takes time
pub may_go_on_without : (query : Query) (doc : StopsDoc) (departures : List (Option Departure)) (stop : ℕ) (d : Departure) →
    (next : Option ℕ) (id : List ℕ) (at : ℕ) → d.dep ≤ at → MayGoOn query doc (set departures stop (Some d)) next id at → MayGoOn query doc departures next id at
may_go_on_without query doc departures stop d None id at l h = h
may_go_on_without query doc departures stop d (Some place) id at l h = elim (set_cases departures stop (Some d) place (Some h.departure) h.is_departure) [
  | inl new ↦
      let f = new.1 in
      let same : h.departure ≡ d = cc in
      let dep = ap (λ (x : Departure). x.dep) same in
      let t = change_takes_time doc.changes id (id_at doc.stops place) h.seconds h.is_change in
      let u = h.in_time in
      absurd (omega arith)
  | inr old ↦ record { departure = h.departure; is_departure = old; seconds = h.seconds; is_change = h.is_change; in_time = h.in_time }
]

-- the begin of a leg stays one, whatever is kept and taken besides
pub leg_begin-grown : (query : Query) (doc : StopsDoc) (runs : List RunKey) (departures : List (Option Departure)) (list : List Connection) (stop : ℕ) → slice_get departures stop ≡ Some None → (d : Departure) →
    (k : ℕ) (e : Departure) → IsLegBegin query doc runs departures list k e → IsLegBegin query doc runs (set departures stop (Some d)) list k e
leg_begin-grown query doc runs departures list stop free d k e h = record {
  ride = h.ride;
  is_leg = h.is_leg;
  is_shown = h.is_shown;
  may_go_on = may_go_on-grown query doc departures stop free d e.alighting.next h.ride.alight h.ride.arr h.may_go_on;
}

pub leg_begin-taken : (query : Query) (doc : StopsDoc) (runs : List RunKey) (departures : List (Option Departure)) (c : Connection) (list : List Connection) (k : ℕ) (e : Departure) →
    IsLegBegin query doc runs departures list k e → IsLegBegin query doc runs departures (c ∷ list) k e
leg_begin-taken query doc runs departures c list k e h = record {
  ride = h.ride;
  is_leg = leg-grown c list h.ride h.is_leg;
  is_shown = h.is_shown;
  may_go_on = h.may_go_on;
}

-- an alighting stays one, whatever is kept and taken besides
pub alighting-grown : (query : Query) (doc : StopsDoc) (departures : List (Option Departure)) (list : List Connection) (stop : ℕ) → slice_get departures stop ≡ Some None → (d : Departure) →
    (key : RunKey) (a : Alighting) → IsAlightingOf query doc departures list key a → IsAlightingOf query doc (set departures stop (Some d)) list key a
alighting-grown query doc departures list stop free d key a h = record {
  place = h.place;
  last = h.last;
  is_last = h.is_last;
  of_run = h.of_run;
  allowed = h.allowed;
  seq = h.seq;
  stop = h.stop;
  arr = h.arr;
  may_go_on = may_go_on-grown query doc departures stop free d a.next h.last.arr_stop h.last.arr h.may_go_on;
}

pub alighting-taken : (query : Query) (doc : StopsDoc) (departures : List (Option Departure)) (c : Connection) (list : List Connection) (key : RunKey) (a : Alighting) →
    IsAlightingOf query doc departures list key a → IsAlightingOf query doc departures (c ∷ list) key a
alighting-taken query doc departures c list key a h = record {
  place = suc h.place;
  last = h.last;
  is_last = h.is_last;
  of_run = h.of_run;
  allowed = h.allowed;
  seq = h.seq;
  stop = h.stop;
  arr = h.arr;
  may_go_on = h.may_go_on;
}

-- a stop that was left is left still
pub left_from-grown : (stops : List Stop) (departures : List (Option Departure)) (stop : ℕ) → slice_get departures stop ≡ Some None → (d : Departure) →
    (id : List ℕ) (at : ℕ) → IsLeftFrom stops departures id at → IsLeftFrom stops (set departures stop (Some d)) id at
left_from-grown stops departures stop free d id at h = record {
  place = h.place;
  departure = h.departure;
  is_departure = departure-kept departures stop free d h.place h.departure h.is_departure;
  from = h.from;
  no_earlier = h.no_earlier;
}
