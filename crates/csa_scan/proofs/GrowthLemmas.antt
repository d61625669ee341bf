-- What one more arrival and one more connection change, and what they leave.
use Rattle.std.proofs.Common.{◌≡◌, ℕ, ◌≤◌, ◌⊎◌, List, [], ◌∷◌, ◌++◌, Option, Some, None, true, sym, ◌∙◌, ap, subst, inl, inr, arith}
use Rattle.std.specs.List.{slice_get}
use Rattle.std.proofs.lemmas.Option.{slice_get_within}
use Rattle.lc_model.specs.Leg.{IsLegOf}
use Rattle.lc_model.specs.declared.connection.Connection.{Connection}
use Rattle.lc_model.specs.declared.doc.StopsDoc.{StopsDoc}
use Rattle.lc_model.specs.declared.key.RunKey.{RunKey}
use Rattle.lc_model.specs.declared.query.Query.{Query}
use Rattle.lc_model.specs.declared.ride.Ride.{Ride}
use Rattle.lc_model.specs.declared.stop.Stop.{Stop}
use Rattle.csa_scan.specs.Reach.{id_at, LeadsTo, MayBoard, IsLegEnd, IsBoardingOf, IsReachedBy}
use Rattle.csa_scan.specs.declared.trace.Arrival.{Arrival}
use Rattle.csa_scan.specs.declared.trace.Boarding.{Boarding}
use Rattle.csa_scan.proofs.ChangesLemmas.{change_takes_time}
use Rattle.csa_scan.proofs.ListPlacesLemmas.{slice_get-append, push_cases}

-- the leg ends with the connection after the list
pub record EndsWith (list : List Connection) (c : Connection) (ride : Ride) : Type 0 where
  pub place : ℕ
  pub boards : Connection
  pub is_boards : slice_get (list ++ c ∷ []) place ≡ Some boards
  pub same_run : boards.key ≡ c.key
  pub may_board : boards.board ≡ true
  pub may_alight : c.alight ≡ true
  pub board : ride.board ≡ boards.dep_stop
  pub dep : ride.dep ≡ boards.dep
  pub alight : ride.alight ≡ c.arr_stop
  pub arr : ride.arr ≡ c.arr

-- a leg stays one
pub leg-grown : (list : List Connection) (c : Connection) (ride : Ride) → IsLegOf list ride → IsLegOf (list ++ c ∷ []) ride
leg-grown list c ride h = record {
  boards_at = h.boards_at;
  last_at = h.last_at;
  in_order = h.in_order;
  boards = h.boards;
  last = h.last;
  is_boards = slice_get-append list (c ∷ []) h.boards_at h.boards h.is_boards;
  is_last = slice_get-append list (c ∷ []) h.last_at h.last h.is_last;
  same_run = h.same_run;
  may_board = h.may_board;
  may_alight = h.may_alight;
  is_ride = h.is_ride;
}

-- a leg whose last connection is the new one ends with it
ends_with : (list : List Connection) (c : Connection) (ride : Ride) (h : IsLegOf (list ++ c ∷ []) ride) → h.last ≡ c → EndsWith list c ride
ends_with list c ride h e = record {
  place = h.boards_at;
  boards = h.boards;
  is_boards = h.is_boards;
  same_run = h.same_run ∙ ap (λ (x : Connection). x.key) e;
  may_board = h.may_board;
  may_alight = sym (ap (λ (x : Connection). x.alight) e) ∙ h.may_alight;
  board = ap (λ (r : Ride). r.board) h.is_ride;
  dep = ap (λ (r : Ride). r.dep) h.is_ride;
  alight = ap (λ (r : Ride). r.alight) h.is_ride ∙ ap (λ (x : Connection). x.arr_stop) e;
  arr = ap (λ (r : Ride). r.arr) h.is_ride ∙ ap (λ (x : Connection). x.arr) e;
}

-- a leg of the longer list is an old one, or ends with the new connection
pub leg_cases : (list : List Connection) (c : Connection) (ride : Ride) → IsLegOf (list ++ c ∷ []) ride → IsLegOf list ride ⊎ EndsWith list c ride
leg_cases list c ride h =
    elim (push_cases list c h.last_at h.last h.is_last) [
      | inl old ↦ elim (push_cases list c h.boards_at h.boards h.is_boards) [
        | inl old_boards ↦ inl (record {
          boards_at = h.boards_at;
          last_at = h.last_at;
          in_order = h.in_order;
          boards = h.boards;
          last = h.last;
          is_boards = old_boards;
          is_last = old;
          same_run = h.same_run;
          may_board = h.may_board;
          may_alight = h.may_alight;
          is_ride = h.is_ride;
        })
        | inr new ↦ let l = slice_get_within list h.last_at h.last old in let o = h.in_order in let n = new.0 in absurd (omega arith)
      ]
      | inr new ↦ inr (ends_with list c ride h new.1)
    ]

-- where one could board, one can when more was reached
pub may_board-grown : (query : Query) (doc : StopsDoc) (arrivals : List Arrival) (a : Arrival) (after : Option ℕ) (stop : List ℕ) (at : ℕ) →
    MayBoard query doc arrivals after stop at → MayBoard query doc (arrivals ++ a ∷ []) after stop at
may_board-grown query doc arrivals a None stop at h = h
may_board-grown query doc arrivals a (Some place) stop at h = (h.0, slice_get-append arrivals (a ∷ []) place h.0 h.1, h.2)

-- after an arrival one boards only later departures: a change takes time
pub later : (doc : StopsDoc) (a : Arrival) (stop : List ℕ) (by : ℕ) → LeadsTo doc a stop by → by ≤ a.arr → ⊥
later doc a stop by h e = let t = change_takes_time doc.changes (id_at doc.stops a.stop) stop h.seconds h.is_change in let u = h.in_time in omega arith

-- what departs by the new arrival was boarded without it
pub may_board_before : (query : Query) (doc : StopsDoc) (arrivals : List Arrival) (a : Arrival) (after : Option ℕ) (stop : List ℕ) (at : ℕ) → at ≤ a.arr →
    MayBoard query doc (arrivals ++ a ∷ []) after stop at → MayBoard query doc arrivals after stop at
may_board_before query doc arrivals a None stop at e h = h
may_board_before query doc arrivals a (Some place) stop at e h =
    elim (push_cases arrivals a place h.0 h.1) [
      | inl old ↦ (h.0, old, h.2)
      | inr new ↦ let P : Arrival → Type 0 = λ x. LeadsTo doc x stop at in absurd (later doc a stop at (subst P new.1 h.2) e)
    ]

-- the end of a leg stays one, whatever is reached and taken after it
pub leg_end-grown : (query : Query) (doc : StopsDoc) (runs : List RunKey) (arrivals : List Arrival) (list : List Connection) (a : Arrival) (x : Arrival) →
    IsLegEnd query doc runs arrivals list x → IsLegEnd query doc runs (arrivals ++ a ∷ []) list x
leg_end-grown query doc runs arrivals list a x h = record {
  ride = h.ride;
  is_leg = h.is_leg;
  is_shown = h.is_shown;
  may_board = may_board-grown query doc arrivals a x.boarding.after h.ride.board h.ride.dep h.may_board;
}

pub leg_end-taken : (query : Query) (doc : StopsDoc) (runs : List RunKey) (arrivals : List Arrival) (list : List Connection) (c : Connection) (x : Arrival) →
    IsLegEnd query doc runs arrivals list x → IsLegEnd query doc runs arrivals (list ++ c ∷ []) x
leg_end-taken query doc runs arrivals list c x h = record {
  ride = h.ride;
  is_leg = leg-grown list c h.ride h.is_leg;
  is_shown = h.is_shown;
  may_board = h.may_board;
}

-- a boarding stays one, whatever is reached and taken after it
pub boarding-grown : (query : Query) (doc : StopsDoc) (arrivals : List Arrival) (list : List Connection) (key : RunKey) (b : Boarding) (a : Arrival) →
    IsBoardingOf query doc arrivals list key b → IsBoardingOf query doc (arrivals ++ a ∷ []) list key b
boarding-grown query doc arrivals list key b a h = record {
  place = h.place;
  boards = h.boards;
  is_boards = h.is_boards;
  of_run = h.of_run;
  allowed = h.allowed;
  seq = h.seq;
  stop = h.stop;
  dep = h.dep;
  may_board = may_board-grown query doc arrivals a b.after h.boards.dep_stop h.boards.dep h.may_board;
}

pub boarding-taken : (query : Query) (doc : StopsDoc) (arrivals : List Arrival) (list : List Connection) (key : RunKey) (b : Boarding) (c : Connection) →
    IsBoardingOf query doc arrivals list key b → IsBoardingOf query doc arrivals (list ++ c ∷ []) key b
boarding-taken query doc arrivals list key b c h = record {
  place = h.place;
  boards = h.boards;
  is_boards = slice_get-append list (c ∷ []) h.place h.boards h.is_boards;
  of_run = h.of_run;
  allowed = h.allowed;
  seq = h.seq;
  stop = h.stop;
  dep = h.dep;
  may_board = h.may_board;
}

-- a stop that was reached stays reached
pub reached-grown : (stops : List Stop) (arrivals : List Arrival) (a : Arrival) (stop : List ℕ) (by : ℕ) →
    IsReachedBy stops arrivals stop by → IsReachedBy stops (arrivals ++ a ∷ []) stop by
reached-grown stops arrivals a stop by h = record {
  place = h.place;
  arrival = h.arrival;
  is_arrival = slice_get-append arrivals (a ∷ []) h.place h.arrival h.is_arrival;
  at = h.at;
  in_time = h.in_time;
}
