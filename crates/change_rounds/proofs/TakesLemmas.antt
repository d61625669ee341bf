-- One connection taken in a round: of a run that stays unboarded, of a boarded run, or with a new arrival.
use Rattle.std.proofs.Common.{◌≡◌, ℕ, ◌<◌, ◌≤◌, ◌⊎◌, List, [], ◌∷◌, ◌++◌, Option, Some, None, true, length, set, refl, sym, ◌∙◌, ap, subst, inl, inr, arith}
use Rattle.std.specs.List.{slice_get}
use Rattle.std.proofs.lemmas.Option.{slice_get_within}
use Rattle.lc_model.specs.Change.{changes_from}
use Rattle.lc_model.specs.Leg.{in_time}
use Rattle.lc_model.specs.Question.{latest_of}
use Rattle.lc_model.specs.Stop.{HasStop}
use Rattle.lc_model.specs.declared.connection.Connection.{Connection}
use Rattle.lc_model.specs.declared.doc.StopsDoc.{StopsDoc}
use Rattle.lc_model.specs.declared.key.RunKey.{RunKey}
use Rattle.lc_model.specs.declared.query.Query.{Query}
use Rattle.lc_model.specs.declared.ride.Ride.{Ride}
use Rattle.csa_scan.specs.Boards.{CannotBoard, IsFirstBoarding}
use Rattle.csa_scan.specs.Kept.{Kept}
use Rattle.csa_scan.specs.Near.{AreNear}
use Rattle.csa_scan.specs.Numbers.{AreDistinct}
use Rattle.csa_scan.specs.Reach.{id_at, MayBoard, IsLegEnd, IsBoardingOf, IsBoarded, IsReachedBy}
use Rattle.csa_scan.specs.Stands.{IsAsked, IsReady}
use Rattle.csa_scan.specs.Takes.{Arrives, IsArrivalOf, IsReachedAlready}
use Rattle.csa_scan.specs.declared.side.Side.TheVariants.{After, Before}
use Rattle.csa_scan.specs.declared.trace.Arrival.{Arrival}
use Rattle.csa_scan.specs.declared.trace.Boarding.{Boarding}
use Rattle.csa_scan.specs.declared.trace.Near.{Near}
use Rattle.csa_scan.specs.declared.trace.Ready.{Ready}
use Rattle.csa_scan.proofs.ArrivingLemmas.{best-grown, leg_end, reached_after, ready-grown, same_kept}
use Rattle.csa_scan.proofs.ChangesFromLemmas.{are_changes_from}
use Rattle.csa_scan.proofs.ChangesLemmas.{place_from_HasStop}
use Rattle.csa_scan.proofs.GrowthLemmas.{EndsWith, boarding-taken, leg_cases, leg_end-taken, reached-grown}
use Rattle.csa_scan.proofs.ListPlacesLemmas.{push_cases, set_cases, slice_get-append, slice_get-last, slice_get-set_same}
use Rattle.csa_scan.proofs.StepsLemmas.{boarded-set, may_board_there, may_not_board}
use Rattle.csa_scan.proofs.TakingLemmas.{in_time-taken}
use Rattle.change_rounds.specs.InRound.{FollowsRound, ReachesLegs, StandsInRound}

-- how the run is boarded: as before, or now
abbrev pub GetsOn : Query → StopsDoc → List (Option Near) → List (Option Ready) → Option Boarding → Connection → Boarding → Type 0
GetsOn query doc starts ready before c b = (before ≡ Some b) ⊎ ((before ≡ None) × (c.board ≡ true) × IsFirstBoarding query doc starts ready c b)

-- the boarding is one of the longer list
gets_on : (query : Query) (doc : StopsDoc) (starts : List (Option Near)) → AreNear Before doc.stops doc.changes query.from starts → (runs : List RunKey) (behind : List Arrival) (ready : List (Option Ready)) → IsReady doc behind ready →
    (kept : Kept) (list : List Connection) → FollowsRound query doc runs behind kept list → (run : ℕ) (c : Connection) → slice_get runs run ≡ Some c.key →
    (before : Option Boarding) → slice_get kept.boardings run ≡ Some before → (b : Boarding) → GetsOn query doc starts ready before c b →
    IsBoardingOf query doc behind (list ++ c ∷ []) c.key b
gets_on query doc starts near runs behind ready is_ready kept list f run c is_run before e b (inl was) =
    boarding-taken query doc behind list c.key b c (f.boarding_sound run b c.key (e ∙ ap Some was) is_run)
gets_on query doc starts near runs behind ready is_ready kept list f run c is_run before e b (inr now) = record {
  place = length list;
  boards = c;
  is_boards = slice_get-last list c;
  of_run = refl;
  allowed = now.1;
  seq = now.2.seq;
  stop = now.2.stop;
  dep = now.2.dep;
  may_board = may_board_there query doc starts near behind ready is_ready b.stop c.dep b.after c.dep_stop now.2.stop now.2.is_there;
}

-- after the boarding is written down, each boarding is one of the longer list
sound_after : (query : Query) (doc : StopsDoc) (runs : List RunKey) (behind : List Arrival) (kept : Kept) (list : List Connection) → FollowsRound query doc runs behind kept list →
    (run : ℕ) (c : Connection) → slice_get runs run ≡ Some c.key → (b : Boarding) → IsBoardingOf query doc behind (list ++ c ∷ []) c.key b →
    (i : ℕ) (x : Boarding) (key : RunKey) → slice_get (set kept.boardings run (Some b)) i ≡ Some (Some x) → slice_get runs i ≡ Some key →
    IsBoardingOf query doc behind (list ++ c ∷ []) key x
sound_after query doc runs behind kept list f run c at b on i x key e is_run = elim (set_cases kept.boardings run (Some b) i (Some x) e) [
  | inl new ↦
      let same : b ≡ x = cc in
      let P : ℕ → Type 0 = λ k. slice_get runs k ≡ Some key in
      let r = subst P new.0 is_run in
      let same_key : c.key ≡ key = cc in
      let Q : RunKey → Type 0 = λ k. IsBoardingOf query doc behind (list ++ c ∷ []) k b in
      let R : Boarding → Type 0 = λ y. IsBoardingOf query doc behind (list ++ c ∷ []) key y in
      subst R same (subst Q same_key on)
  | inr old ↦ boarding-taken query doc behind list key x c (f.boarding_sound i x key old is_run)
]

-- the boarding is written down
follows-boarded : (query : Query) (doc : StopsDoc) (runs : List RunKey) (behind : List Arrival) (kept : Kept) (list : List Connection) → FollowsRound query doc runs behind kept list →
    (run : ℕ) (c : Connection) → slice_get runs run ≡ Some c.key → run < length kept.boardings → (b : Boarding) → IsBoardingOf query doc behind (list ++ c ∷ []) c.key b →
    FollowsRound query doc runs behind (record kept { boardings = set kept.boardings run (Some b) }) (list ++ c ∷ [])
follows-boarded query doc runs behind kept list f run c is_run within b on = record {
  grows = f.grows;
  arrival_sound = λ place a e. elim (f.arrival_sound place a e) [
    | inl was ↦ inl was
    | inr end ↦ inr (leg_end-taken query doc runs behind list c a end)
  ];
  boarding_sound = λ i x key e at. sound_after query doc runs behind kept list f run c is_run b on i x key e at;
  boarding_complete = λ place x e allowed after m. elim (push_cases list c place x e) [
    | inl old ↦ boarded-set runs kept.boardings run b within x.key (f.boarding_complete place x old allowed after m)
    | inr new ↦ let P : Connection → Type 0 = λ y. IsBoarded runs (set kept.boardings run (Some b)) y.key in
        subst P (sym new.1) (record { run = run; boarding = b; is_run = is_run; is_boarding = slice_get-set_same kept.boardings run (Some b) within })
  ];
  ready = f.ready;
  reached = f.reached;
  best = f.best;
}

-- a connection that cannot be boarded is not
never : (query : Query) (doc : StopsDoc) → IsAsked query doc → (starts : List (Option Near)) → AreNear Before doc.stops doc.changes query.from starts → (behind : List Arrival) (ready : List (Option Ready)) → IsReady doc behind ready →
    (c : Connection) → (c.board ≡ true → CannotBoard query doc starts ready c) →
    (x : Connection) → x ≡ c → x.board ≡ true → (after : Option ℕ) → MayBoard query doc behind after x.dep_stop x.dep → ⊥
never query doc asked starts near behind ready is_ready c cannot x e allowed after m =
    let P : Connection → Type 0 = λ y. MayBoard query doc behind after y.dep_stop y.dep in
    may_not_board query doc asked starts near behind ready is_ready c (cannot (sym (ap (λ (y : Connection). y.board) e) ∙ allowed)) after (subst P e m)

-- no leg of a run that stays unboarded ends with the new connection
no_end : (query : Query) (doc : StopsDoc) → IsAsked query doc → (starts : List (Option Near)) → AreNear Before doc.stops doc.changes query.from starts → (runs : List RunKey) → AreDistinct runs →
    (behind : List Arrival) (ready : List (Option Ready)) → IsReady doc behind ready → (kept : Kept) (list : List Connection) → FollowsRound query doc runs behind kept list →
    (run : ℕ) (c : Connection) → slice_get runs run ≡ Some c.key → slice_get kept.boardings run ≡ Some None → (c.board ≡ true → CannotBoard query doc starts ready c) →
    (ride : Ride) → EndsWith list c ride → (after : Option ℕ) → MayBoard query doc behind after ride.board ride.dep → ⊥
no_end query doc asked starts near runs distinct behind ready is_ready kept list f run c is_run off cannot ride ends after m =
    let P : List ℕ → Type 0 = λ id. MayBoard query doc behind after id ride.dep in
    let Q : ℕ → Type 0 = λ at. MayBoard query doc behind after ends.boards.dep_stop at in
    let may = subst Q ends.dep (subst P ends.board m) in
    elim (push_cases list c ends.place ends.boards ends.is_boards) [
      | inl old ↦
          let b = f.boarding_complete ends.place ends.boards old ends.may_board after may in
          let R : RunKey → Type 0 = λ k. slice_get runs b.run ≡ Some k in
          let same = distinct b.run run c.key (subst R ends.same_run b.is_run) is_run in
          let S : ℕ → Type 0 = λ k. slice_get kept.boardings k ≡ Some (Some b.boarding) in
          let on = subst S same b.is_boarding in
          absurd (cc)
      | inr new ↦ never query doc asked starts near behind ready is_ready c cannot ends.boards new.1 ends.may_board after may
    ]

-- a connection of a run that stays unboarded
stands-passed : (query : Query) (doc : StopsDoc) → IsAsked query doc → (starts : List (Option Near)) → AreNear Before doc.stops doc.changes query.from starts → (runs : List RunKey) → AreDistinct runs →
    (behind : List Arrival) (ready : List (Option Ready)) → IsReady doc behind ready → (kept : Kept) (list : List Connection) → StandsInRound query doc runs behind kept list →
    (run : ℕ) (c : Connection) → slice_get runs run ≡ Some c.key → slice_get kept.boardings run ≡ Some None → (c.board ≡ true → CannotBoard query doc starts ready c) →
    StandsInRound query doc runs behind kept (list ++ c ∷ [])
stands-passed query doc asked starts near runs distinct behind ready is_ready kept list s run c is_run off cannot = record {
  follows = let f = s.follows in record {
    grows = f.grows;
    arrival_sound = λ place a e. elim (f.arrival_sound place a e) [
      | inl was ↦ inl was
      | inr end ↦ inr (leg_end-taken query doc runs behind list c a end)
    ];
    boarding_sound = λ i x key e at. boarding-taken query doc behind list key x c (f.boarding_sound i x key e at);
    boarding_complete = λ place x e allowed after m. elim (push_cases list c place x e) [
      | inl old ↦ f.boarding_complete place x old allowed after m
      | inr new ↦ absurd (never query doc asked starts near behind ready is_ready c cannot x new.1 allowed after m)
    ];
    ready = f.ready;
    reached = f.reached;
    best = f.best;
  };
  reaches = λ ride leg after m known. elim (leg_cases list c ride leg) [
    | inl old ↦ s.reaches ride old after m known
    | inr ends ↦ absurd (no_end query doc asked starts near runs distinct behind ready is_ready kept list s.follows run c is_run off cannot ride ends after m)
  ];
}

-- where the stop was reached already, it was reached by an arrival
by_arrival : (query : Query) (doc : StopsDoc) (runs : List RunKey) (behind : List Arrival) (kept : Kept) (list : List Connection) → FollowsRound query doc runs behind kept list → (c : Connection) →
    IsReachedAlready doc kept.reached c → HasStop doc.stops c.arr_stop → IsReachedBy doc.stops kept.arrivals c.arr_stop c.arr
by_arrival query doc runs behind kept list f c already known =
    let p = place_from_HasStop doc.stops c.arr_stop known in
    let b = already p.0 p.1 p.2 in
    let r = f.reached p.0 b.0 b.1 in
    let t = r.in_time in let u = b.2 in
    record { place = r.place; arrival = r.arrival; is_arrival = r.is_arrival; at = r.at ∙ p.2; in_time = omega arith }

-- a leg that ends with the new connection is reached where this one is
reaches-boarded : (query : Query) (doc : StopsDoc) (behind arrivals : List Arrival) (list : List Connection) → ReachesLegs query doc behind arrivals list → (c : Connection) →
    (c.alight ≡ true → HasStop doc.stops c.arr_stop → IsReachedBy doc.stops arrivals c.arr_stop c.arr) → ReachesLegs query doc behind arrivals (list ++ c ∷ [])
reaches-boarded query doc behind arrivals list h c reached = λ ride leg after m known. elim (leg_cases list c ride leg) [
  | inl old ↦ h ride old after m known
  | inr ends ↦ let P : List ℕ → Type 0 = λ x. HasStop doc.stops x in
      let r = reached ends.may_alight (subst P ends.alight known) in
      record { place = r.place; arrival = r.arrival; is_arrival = r.is_arrival; at = r.at ∙ sym ends.alight; in_time = let t = r.in_time in let u = ends.arr in omega arith }
]

-- each leg of the longer list is reached, where the arrival is that of the new connection
reaches-arrived : (query : Query) (doc : StopsDoc) (behind arrivals : List Arrival) (list : List Connection) → ReachesLegs query doc behind arrivals list →
    (c : Connection) (a : Arrival) → id_at doc.stops a.stop ≡ c.arr_stop → a.arr ≡ c.arr → ReachesLegs query doc behind (arrivals ++ a ∷ []) (list ++ c ∷ [])
reaches-arrived query doc behind arrivals list h c a at arr = λ ride leg after m known. elim (leg_cases list c ride leg) [
  | inl old ↦ reached-grown doc.stops arrivals a ride.alight ride.arr (h ride old after m known)
  | inr ends ↦ let e = ends.arr in record {
    place = length arrivals;
    arrival = a;
    is_arrival = slice_get-last arrivals a;
    at = at ∙ sym ends.alight;
    in_time = omega arith;
  }
]

-- the arrival is written down
follows-arrived : (query : Query) (doc : StopsDoc) (ends : List (Option Near)) → AreNear After doc.stops doc.changes query.to ends → (runs : List RunKey) (behind : List Arrival) (old new : Kept) (list : List Connection) → FollowsRound query doc runs behind old list →
    (a : Arrival) → a.stop < length doc.stops → IsLegEnd query doc runs behind list a → Arrives query doc ends a old new → FollowsRound query doc runs behind new list
follows-arrived query doc ends far runs behind old new list f a inside end s =
    let P : Kept → Type 0 = λ k. FollowsRound query doc runs behind k list in
    let made : Kept = record { boardings = old.boardings; ready = new.ready; reached = set old.reached a.stop (Some a.arr); arrivals = old.arrivals ++ a ∷ []; best = new.best } in
    let is : FollowsRound query doc runs behind made list = record {
      grows = λ place x e. slice_get-append old.arrivals (a ∷ []) place x (f.grows place x e);
      arrival_sound = λ place x e. elim (push_cases old.arrivals a place x e) [
        | inl was ↦ f.arrival_sound place x was
        | inr now ↦ let Q : Arrival → Type 0 = λ y. IsLegEnd query doc runs behind list y in inr (subst Q (sym now.1) end)
      ];
      boarding_sound = f.boarding_sound;
      boarding_complete = f.boarding_complete;
      ready = ready-grown doc s.ready.in_order old.arrivals old.ready new.ready f.ready a (changes_from doc.changes (id_at doc.stops a.stop)) (are_changes_from doc.changes (id_at doc.stops a.stop)) s.ready.relaxed;
      reached = reached_after doc.stops old.arrivals a old.reached f.reached;
      best = best-grown query doc ends far old.arrivals a inside old.best new.best f.best s.best;
    } in
    subst P (sym (same_kept new made s.boardings refl s.reached s.arrivals refl)) is

-- what is not late and stays unboarded
pub take_off : (query : Query) (doc : StopsDoc) → IsAsked query doc → (starts : List (Option Near)) → AreNear Before doc.stops doc.changes query.from starts → (runs : List RunKey) → AreDistinct runs →
    (behind : List Arrival) (ready : List (Option Ready)) → IsReady doc behind ready → (kept : Kept) (list : List Connection) (run : ℕ) (c : Connection) → c.arr ≤ latest_of query →
    slice_get runs run ≡ Some c.key → (before : Option Boarding) → slice_get kept.boardings run ≡ Some before → (before ≡ None) × (c.board ≡ true → CannotBoard query doc starts ready c) →
    StandsInRound query doc runs behind kept (in_time query list) → StandsInRound query doc runs behind kept (in_time query (list ++ c ∷ []))
take_off query doc asked starts near runs distinct behind ready is_ready kept list run c early is_run before e off s =
    let P : List Connection → Type 0 = λ l. StandsInRound query doc runs behind kept l in
    subst P (sym (in_time-taken query list c early))
    (stands-passed query doc asked starts near runs distinct behind ready is_ready kept (in_time query list) s run c is_run (e ∙ ap Some off.0) off.1)

-- what is boarded, where the stop was reached by then or one may not alight
pub take_on : (query : Query) (doc : StopsDoc) (starts : List (Option Near)) → AreNear Before doc.stops doc.changes query.from starts → (runs : List RunKey)
    (behind : List Arrival) (ready : List (Option Ready)) → IsReady doc behind ready → (kept : Kept) (list : List Connection) (run : ℕ) (c : Connection) → c.arr ≤ latest_of query →
    slice_get runs run ≡ Some c.key → (before : Option Boarding) → slice_get kept.boardings run ≡ Some before → (b : Boarding) → GetsOn query doc starts ready before c b →
    (c.alight ≡ true → IsReachedAlready doc kept.reached c) → StandsInRound query doc runs behind kept (in_time query list) →
    StandsInRound query doc runs behind (record kept { boardings = set kept.boardings run (Some b) }) (in_time query (list ++ c ∷ []))
take_on query doc starts near runs behind ready is_ready kept list run c early is_run before e b gets already s =
    let old = in_time query list in
    let new = record kept { boardings = set kept.boardings run (Some b) } in
    let P : List Connection → Type 0 = λ l. StandsInRound query doc runs behind new l in
    let on = gets_on query doc starts near runs behind ready is_ready kept old s.follows run c is_run before e b gets in
    subst P (sym (in_time-taken query list c early)) (record {
      follows = follows-boarded query doc runs behind kept old s.follows run c is_run (slice_get_within kept.boardings run before e) b on;
      reaches = reaches-boarded query doc behind kept.arrivals old s.reaches c (λ may known. by_arrival query doc runs behind kept old s.follows c (already may) known);
    })

-- what is boarded and arrives
pub take_arrived : (query : Query) (doc : StopsDoc) (starts : List (Option Near)) → AreNear Before doc.stops doc.changes query.from starts → (ends : List (Option Near)) → AreNear After doc.stops doc.changes query.to ends →
    (runs : List RunKey) (behind : List Arrival) (ready : List (Option Ready)) → IsReady doc behind ready → (kept new : Kept) (list : List Connection) (run : ℕ) (c : Connection) → c.arr ≤ latest_of query →
    slice_get runs run ≡ Some c.key → (before : Option Boarding) → slice_get kept.boardings run ≡ Some before → (b : Boarding) → GetsOn query doc starts ready before c b →
    (a : Arrival) → IsArrivalOf doc c run b a → Arrives query doc ends a (record kept { boardings = set kept.boardings run (Some b) }) new →
    StandsInRound query doc runs behind kept (in_time query list) → StandsInRound query doc runs behind new (in_time query (list ++ c ∷ []))
take_arrived query doc starts near ends far runs behind ready is_ready kept new list run c early is_run before e b gets a is arrives s =
    let old = in_time query list in
    let mid = record kept { boardings = set kept.boardings run (Some b) } in
    let on = gets_on query doc starts near runs behind ready is_ready kept old s.follows run c is_run before e b gets in
    let K : ℕ → Type 0 = λ k. slice_get runs k ≡ Some c.key in
    let end = leg_end query doc runs behind old c b on is.may_alight a (subst K (sym is.by_run) is_run) is.boarding is.last_seq is.stop is.arr in
    let P : List Connection → Type 0 = λ l. StandsInRound query doc runs behind new l in
    let Q : List Arrival → Type 0 = λ l. ReachesLegs query doc behind l (old ++ c ∷ []) in
    subst P (sym (in_time-taken query list c early)) (record {
      follows = follows-arrived query doc ends far runs behind mid new (old ++ c ∷ []) (follows-boarded query doc runs behind kept old s.follows run c is_run (slice_get_within kept.boardings run before e) b on) a is.within end arrives;
      reaches = subst Q (sym arrives.arrivals) (reaches-arrived query doc behind kept.arrivals old s.reaches c a is.stop is.arr);
    })
