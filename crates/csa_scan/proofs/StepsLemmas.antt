-- One connection more: what the progress keeps stands for the longer list.
use Rattle.std.proofs.Common.{◌≡◌, ℕ, ◌<◌, ◌≤◌, List, [], ◌∷◌, ◌++◌, Option, Some, None, true, length, set, refl, sym, ◌∙◌, ap, subst, inl, inr, arith}
use Rattle.std.specs.List.{slice_get}
use Rattle.std.proofs.lemmas.Option.{slice_get_within}
use Rattle.lc_model.specs.Change.{change_between}
use Rattle.lc_model.specs.Stop.{HasStop}
use Rattle.lc_model.specs.declared.connection.Connection.{Connection}
use Rattle.lc_model.specs.declared.doc.StopsDoc.{StopsDoc}
use Rattle.lc_model.specs.declared.key.RunKey.{RunKey}
use Rattle.lc_model.specs.declared.query.Query.{Query}
use Rattle.lc_model.specs.declared.ride.Ride.{Ride}
use Rattle.csa_scan.specs.Near.{AreNear}
use Rattle.csa_scan.specs.declared.side.Side.TheVariants.{Before}
use Rattle.csa_scan.specs.declared.trace.Near.{Near}
use Rattle.csa_scan.specs.Boards.{IsThere, CannotBoard, StaysOff, GetsOn}
use Rattle.csa_scan.specs.Kept.{Kept}
use Rattle.csa_scan.specs.Next.{IsNext}
use Rattle.csa_scan.specs.Reach.{id_at, LeadsTo, MayBoard, IsBoardingOf, IsBoarded, IsReachedBy}
use Rattle.csa_scan.specs.Stands.{IsAsked, IsReady, Follows, IsComplete, Stands}
use Rattle.csa_scan.specs.declared.trace.Arrival.{Arrival}
use Rattle.csa_scan.specs.declared.trace.Boarding.{Boarding}
use Rattle.csa_scan.specs.declared.trace.Ready.{Ready}
use Rattle.csa_scan.proofs.ChangesLemmas.{place_to_change}
use Rattle.csa_scan.proofs.GrowthLemmas.{EndsWith, leg_cases, leg_end-taken, boarding-taken}
use Rattle.csa_scan.proofs.ListPlacesLemmas.{slice_get-last, push_cases, slice_get-set_same, slice_get-set_other, set_cases, same_place}
use Rattle.csa_scan.proofs.NearWalksLemmas.{place_of_start, start_found, start_walk}

-- what leads to a stop by one moment leads there by a later one
sooner : (doc : StopsDoc) (a : Arrival) (stop by at : ℕ) (id : List ℕ) → id_at doc.stops stop ≡ id → LeadsTo doc a (id_at doc.stops stop) by → by ≤ at → LeadsTo doc a id at
sooner doc a stop by at id e h l =
    let P : List ℕ → Type 0 = λ x. change_between doc.changes (id_at doc.stops a.stop) x ≡ Some h.seconds in
    record { seconds = h.seconds; is_change = subst P e h.is_change; in_time = let t = h.in_time in omega arith }

-- who is at a stop may board there
pub may_board_there : (query : Query) (doc : StopsDoc) (starts : List (Option Near)) → AreNear Before doc.stops doc.changes query.from starts → (arrivals : List Arrival) (ready : List (Option Ready)) → IsReady doc arrivals ready →
    (stop at : ℕ) (after : Option ℕ) (id : List ℕ) → id_at doc.stops stop ≡ id → IsThere query starts ready stop at after → MayBoard query doc arrivals after id at
may_board_there query doc starts near arrivals ready h stop at None id e t =
    let w = start_walk query doc starts near stop id e t.0 t.1 in
    let l = t.2 in let same = w.2 in
    (w.0, w.1, omega arith)
may_board_there query doc starts near arrivals ready h stop at (Some place) id e t =
    let s = h.sound stop t.0 t.1 in
    let P : ℕ → Type 0 = λ k. slice_get arrivals k ≡ Some s.0 in
    (s.0, subst P t.2 s.1, sooner doc s.0 stop t.0.at at id e s.2 t.3)

-- where one cannot board, no arrival leads there
pub may_not_board : (query : Query) (doc : StopsDoc) → IsAsked query doc → (starts : List (Option Near)) → AreNear Before doc.stops doc.changes query.from starts → (arrivals : List Arrival) (ready : List (Option Ready)) → IsReady doc arrivals ready →
    (c : Connection) → CannotBoard query doc starts ready c → (after : Option ℕ) → MayBoard query doc arrivals after c.dep_stop c.dep → ⊥
may_not_board query doc asked starts near arrivals ready h c cannot None m =
    let p = place_of_start query doc asked c.dep_stop m.0 m.1 in
    let n = start_found query doc starts near p.0 p.1 c.dep_stop p.2 m.0 m.1 in
    let l = m.2 in let same = n.2 in
    (cannot p.0 p.1 p.2).not_from n.0 n.1 (omega arith)
may_not_board query doc asked starts near arrivals ready h c cannot (Some place) m =
    let l = m.2 in
    let p = place_to_change doc (id_at doc.stops m.0.stop) c.dep_stop l.seconds l.is_change in
    let P : List ℕ → Type 0 = λ x. change_between doc.changes (id_at doc.stops m.0.stop) x ≡ Some l.seconds in
    let r = h.complete place m.0 m.1 p.0 l.seconds p.1 (subst P (sym p.2) l.is_change) in
    let t = l.in_time in let u = r.2 in
    (cannot p.0 p.1 p.2).not_ready r.0 r.1 (omega arith)

-- a boarding stays when the run that is boarded is written down
pub boarded-set : (runs : List RunKey) (boardings : List (Option Boarding)) (run : ℕ) (b : Boarding) → run < length boardings → (key : RunKey) →
    IsBoarded runs boardings key → IsBoarded runs (set boardings run (Some b)) key
boarded-set runs boardings run b l key h = elim (same_place h.run run) [
  | inl e ↦ let P : ℕ → Type 0 = λ k. slice_get runs k ≡ Some key in
      record { run = run; boarding = b; is_run = subst P e h.is_run; is_boarding = slice_get-set_same boardings run (Some b) l }
  | inr n ↦ record { run = h.run; boarding = h.boarding; is_run = h.is_run; is_boarding = slice_get-set_other boardings run (Some b) h.run n ∙ h.is_boarding }
]

-- the new boarding is one of the longer list
pub gets_on : (query : Query) (doc : StopsDoc) (starts : List (Option Near)) → AreNear Before doc.stops doc.changes query.from starts → (runs : List RunKey) (kept : Kept) (list : List Connection) → Follows query doc runs kept list →
    (run : ℕ) (c : Connection) → IsNext runs list run c → (b : Boarding) → GetsOn query doc starts kept run c b →
    (run < length kept.boardings) × IsBoardingOf query doc kept.arrivals (list ++ c ∷ []) c.key b
gets_on query doc starts near runs kept list f run c next b (inl old) =
    (slice_get_within kept.boardings run (Some b) old, boarding-taken query doc kept.arrivals list c.key b c (f.boarding_sound run b c.key old next.is_run))
gets_on query doc starts near runs kept list f run c next b (inr new) = (
  slice_get_within kept.boardings run None new.0,
  record {
    place = length list;
    boards = c;
    is_boards = slice_get-last list c;
    of_run = refl;
    allowed = new.1;
    seq = new.2.seq;
    stop = new.2.stop;
    dep = new.2.dep;
    may_board = may_board_there query doc starts near kept.arrivals kept.ready f.ready b.stop c.dep b.after c.dep_stop new.2.stop new.2.is_there;
  },
)

-- after the boarding is written down, each boarding is one of the longer list
sound_after : (query : Query) (doc : StopsDoc) (runs : List RunKey) (kept : Kept) (list : List Connection) → Follows query doc runs kept list →
    (run : ℕ) (c : Connection) → IsNext runs list run c → (b : Boarding) → IsBoardingOf query doc kept.arrivals (list ++ c ∷ []) c.key b →
    (i : ℕ) (x : Boarding) (key : RunKey) → slice_get (set kept.boardings run (Some b)) i ≡ Some (Some x) → slice_get runs i ≡ Some key →
    IsBoardingOf query doc kept.arrivals (list ++ c ∷ []) key x
sound_after query doc runs kept list f run c next b on i x key e is_run = elim (set_cases kept.boardings run (Some b) i (Some x) e) [
  | inl new ↦
      let same : b ≡ x = cc in
      let P : ℕ → Type 0 = λ k. slice_get runs k ≡ Some key in
      let r = subst P new.0 is_run in
      let n = next.is_run in
      let same_key : c.key ≡ key = cc in
      let Q : RunKey → Type 0 = λ k. IsBoardingOf query doc kept.arrivals (list ++ c ∷ []) k b in
      let R : Boarding → Type 0 = λ y. IsBoardingOf query doc kept.arrivals (list ++ c ∷ []) key y in
      subst R same (subst Q same_key on)
  | inr old ↦ boarding-taken query doc kept.arrivals list key x c (f.boarding_sound i x key old is_run)
]

-- a connection of a boarded run: the boarding is written down
pub follows-boarded : (query : Query) (doc : StopsDoc) (starts : List (Option Near)) → AreNear Before doc.stops doc.changes query.from starts → (runs : List RunKey) (kept : Kept) (list : List Connection) → Follows query doc runs kept list →
    (run : ℕ) (c : Connection) → IsNext runs list run c → (b : Boarding) → GetsOn query doc starts kept run c b →
    Follows query doc runs (record kept { boardings = set kept.boardings run (Some b) }) (list ++ c ∷ [])
follows-boarded query doc starts near runs kept list f run c next b g =
    let on = gets_on query doc starts near runs kept list f run c next b g in
    record {
      arrival_sound = λ place a e. leg_end-taken query doc runs kept.arrivals list c a (f.arrival_sound place a e);
      boarding_sound = λ i x key e is_run. sound_after query doc runs kept list f run c next b on.1 i x key e is_run;
      boarding_complete = λ place x e allowed after m. elim (push_cases list c place x e) [
        | inl old ↦ boarded-set runs kept.boardings run b on.0 x.key (f.boarding_complete place x old allowed after m)
        | inr new ↦ let P : Connection → Type 0 = λ y. IsBoarded runs (set kept.boardings run (Some b)) y.key in
            subst P (sym new.1) (record { run = run; boarding = b; is_run = next.is_run; is_boarding = slice_get-set_same kept.boardings run (Some b) on.0 })
      ];
      ready = f.ready;
      reached = f.reached;
      best = f.best;
    }

-- a connection that cannot be boarded is not
never : (query : Query) (doc : StopsDoc) → IsAsked query doc → (starts : List (Option Near)) → AreNear Before doc.stops doc.changes query.from starts → (runs : List RunKey) (kept : Kept) (list : List Connection) → Stands query doc runs kept list →
    (run : ℕ) (c : Connection) → IsNext runs list run c → StaysOff query doc starts kept run c →
    (x : Connection) → x ≡ c → x.board ≡ true → (after : Option ℕ) → MayBoard query doc kept.arrivals after x.dep_stop x.dep → ⊥
never query doc asked starts near runs kept list s run c next off x e allowed after m =
    let P : Connection → Type 0 = λ y. MayBoard query doc kept.arrivals after y.dep_stop y.dep in
    may_not_board query doc asked starts near kept.arrivals kept.ready s.follows.ready c (off.cannot (sym (ap (λ (y : Connection). y.board) e) ∙ allowed)) after (subst P e m)

-- no leg of a run that stays unboarded ends with the new connection
no_end : (query : Query) (doc : StopsDoc) → IsAsked query doc → (starts : List (Option Near)) → AreNear Before doc.stops doc.changes query.from starts → (runs : List RunKey) (kept : Kept) (list : List Connection) → Stands query doc runs kept list →
    (run : ℕ) (c : Connection) → IsNext runs list run c → StaysOff query doc starts kept run c →
    (ride : Ride) → EndsWith list c ride → (after : Option ℕ) → MayBoard query doc kept.arrivals after ride.board ride.dep → ⊥
no_end query doc asked starts near runs kept list s run c next off ride ends after m =
    let P : List ℕ → Type 0 = λ id. MayBoard query doc kept.arrivals after id ride.dep in
    let Q : ℕ → Type 0 = λ at. MayBoard query doc kept.arrivals after ends.boards.dep_stop at in
    let may = subst Q ends.dep (subst P ends.board m) in
    elim (push_cases list c ends.place ends.boards ends.is_boards) [
      | inl old ↦
          let b = s.follows.boarding_complete ends.place ends.boards old ends.may_board after may in
          let R : RunKey → Type 0 = λ k. slice_get runs b.run ≡ Some k in
          let same = next.unique b.run run c.key (subst R ends.same_run b.is_run) next.is_run in
          let S : ℕ → Type 0 = λ k. slice_get kept.boardings k ≡ Some (Some b.boarding) in
          let on = subst S same b.is_boarding in
          let not_on = off.not_boarded in
          absurd (cc)
      | inr new ↦ never query doc asked starts near runs kept list s run c next off ends.boards new.1 ends.may_board after may
    ]

-- a connection of a run that stays unboarded
pub stands-passed : (query : Query) (doc : StopsDoc) → IsAsked query doc → (starts : List (Option Near)) → AreNear Before doc.stops doc.changes query.from starts → (runs : List RunKey) (kept : Kept) (list : List Connection) → Stands query doc runs kept list →
    (run : ℕ) (c : Connection) → IsNext runs list run c → StaysOff query doc starts kept run c → Stands query doc runs kept (list ++ c ∷ [])
stands-passed query doc asked starts near runs kept list s run c next off = record {
  follows = let f = s.follows in record {
    arrival_sound = λ place a e. leg_end-taken query doc runs kept.arrivals list c a (f.arrival_sound place a e);
    boarding_sound = λ i x key e is_run. boarding-taken query doc kept.arrivals list key x c (f.boarding_sound i x key e is_run);
    boarding_complete = λ place x e allowed after m. elim (push_cases list c place x e) [
      | inl old ↦ f.boarding_complete place x old allowed after m
      | inr new ↦ absurd (never query doc asked starts near runs kept list s run c next off x new.1 allowed after m)
    ];
    ready = f.ready;
    reached = f.reached;
    best = f.best;
  };
  complete = λ ride leg after m known. elim (leg_cases list c ride leg) [
    | inl old ↦ s.complete ride old after m known
    | inr ends ↦ absurd (no_end query doc asked starts near runs kept list s run c next off ride ends after m)
  ];
}

-- a leg that ends with the new connection is reached where this one is
pub complete-boarded : (query : Query) (doc : StopsDoc) (arrivals : List Arrival) (list : List Connection) → IsComplete query doc arrivals list → (c : Connection) →
    (c.alight ≡ true → HasStop doc.stops c.arr_stop → IsReachedBy doc.stops arrivals c.arr_stop c.arr) → IsComplete query doc arrivals (list ++ c ∷ [])
complete-boarded query doc arrivals list h c reached = λ ride leg after m known. elim (leg_cases list c ride leg) [
  | inl old ↦ h ride old after m known
  | inr ends ↦ let P : List ℕ → Type 0 = λ x. HasStop doc.stops x in
      let r = reached ends.may_alight (subst P ends.alight known) in
      record { place = r.place; arrival = r.arrival; is_arrival = r.is_arrival; at = r.at ∙ sym ends.alight; in_time = let t = r.in_time in let u = ends.arr in omega arith }
]
