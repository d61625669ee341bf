-- One arrival more: what the progress keeps still follows the list.
use Rattle.std.proofs.Common.{◌≡◌, ℕ, ◌+◌, ◌≤◌, List, [], ◌∷◌, ◌++◌, ◌<◌, Option, Some, None, true, length, set, refl, sym, ◌∙◌, ap, subst, inl, inr, arith}
use Rattle.std.specs.List.{slice_get}
use Rattle.std.specs.Option.{MatchOption}
use Rattle.std.proofs.lemmas.Option.{slice_get_within}
use Rattle.std.proofs.lemmas.List.{length_push}
use Rattle.lc_model.specs.Change.{InChangeOrder, change_between, changes_from}
use Rattle.lc_model.specs.declared.change.Change.{Change}
use Rattle.lc_model.specs.declared.connection.Connection.{Connection}
use Rattle.lc_model.specs.declared.doc.StopsDoc.{StopsDoc}
use Rattle.lc_model.specs.declared.key.RunKey.{RunKey}
use Rattle.lc_model.specs.declared.query.Query.{Query}
use Rattle.lc_model.specs.declared.ride.Ride.{Ride}
use Rattle.lc_model.specs.declared.stop.Stop.{Stop}
use Rattle.csa_scan.specs.Kept.{Kept}
use Rattle.csa_scan.specs.Reach.{id_at, LeadsTo, MayBoard, IsLegEnd, IsBoardingOf, IsReachedBy}
use Rattle.csa_scan.specs.Relaxed.{IsRelaxed}
use Rattle.csa_scan.specs.Near.{AreNear}
use Rattle.csa_scan.specs.Stands.{IsReady, IsBestGoal, Follows, IsComplete, LeadsToEnd}
use Rattle.csa_scan.specs.Takes.{Arrives, IsGoal, IsNoGoal, PicksBest, PicksGoal}
use Rattle.csa_scan.specs.declared.side.Side.TheVariants.{After}
use Rattle.csa_scan.specs.declared.trace.Arrival.{Arrival}
use Rattle.csa_scan.specs.declared.trace.Boarding.{Boarding}
use Rattle.csa_scan.specs.declared.trace.Goal.{Goal}
use Rattle.csa_scan.specs.declared.trace.Near.{Near}
use Rattle.csa_scan.specs.declared.trace.Ready.{Ready}
use Rattle.csa_scan.proofs.ChangesFromLemmas.{AreChangesFrom, are_changes_from}
use Rattle.csa_scan.proofs.ChangesLemmas.{change_found, change_is}
use Rattle.csa_scan.proofs.GrowthLemmas.{leg_cases, may_board_before, leg_end-grown, boarding-grown, reached-grown}
use Rattle.csa_scan.proofs.NearWalksLemmas.{end_found, end_walk}
use Rattle.csa_scan.proofs.ListPlacesLemmas.{slice_get-append, slice_get-last, push_cases, set_cases}

-- a stop that became ready by a change is ready after the arrival
newly_ready : (doc : StopsDoc) → InChangeOrder doc.changes → (arrivals : List Arrival) (a : Arrival) (changes : List Change) → AreChangesFrom doc.changes (id_at doc.stops a.stop) changes →
    (stop : ℕ) (r : Ready) (k : ℕ) (c : Change) → slice_get changes k ≡ Some c → id_at doc.stops stop ≡ c.to → r.after ≡ length arrivals → r.at ≡ a.arr + c.seconds →
    (x : Arrival) × (slice_get (arrivals ++ a ∷ []) r.after ≡ Some x) × LeadsTo doc x (id_at doc.stops stop) r.at
newly_ready doc in_order arrivals a changes are stop r k c e to after at =
    let s = are.sound k c e in
    let found = change_is doc.changes in_order s.0.0 c s.0.1 in
    let P : ℕ → Type 0 = λ n. slice_get (arrivals ++ a ∷ []) n ≡ Some a in
    let Q : List ℕ → Type 0 = λ id. change_between doc.changes id c.to ≡ Some c.seconds in
    let R : List ℕ → Type 0 = λ id. change_between doc.changes (id_at doc.stops a.stop) id ≡ Some c.seconds in
    (a, subst P (sym after) (slice_get-last arrivals a), record { seconds = c.seconds; is_change = subst R (sym to) (subst Q s.1 found); in_time = omega arith })

-- what is ready after one arrival more
pub ready-grown : (doc : StopsDoc) → InChangeOrder doc.changes → (arrivals : List Arrival) (old new : List (Option Ready)) → IsReady doc arrivals old →
    (a : Arrival) (changes : List Change) → AreChangesFrom doc.changes (id_at doc.stops a.stop) changes → IsRelaxed doc.stops changes (length arrivals) a.arr old new →
    IsReady doc (arrivals ++ a ∷ []) new
ready-grown doc in_order arrivals old new h a changes are rel = record {
  sound = λ stop r e. elim (rel.sound stop r e) [
    | inl was ↦ let s = h.sound stop r was in (s.0, slice_get-append arrivals (a ∷ []) r.after s.0 s.1, s.2)
    | inr now ↦ newly_ready doc in_order arrivals a changes are stop r now.0 now.1 now.2 now.3 now.4 now.5
  ];
  complete = λ place x e stop seconds l found. elim (push_cases arrivals a place x e) [
    | inl was ↦
        let r = h.complete place x was stop seconds l found in
        let s = rel.no_later stop r.0 r.1 in
        let t = r.2 in let u = s.2 in
        (s.0, s.1, omega arith)
    | inr now ↦
        let P : Arrival → Type 0 = λ y. change_between doc.changes (id_at doc.stops y.stop) (id_at doc.stops stop) ≡ Some seconds in
        let c = change_found doc.changes (id_at doc.stops a.stop) (id_at doc.stops stop) seconds (subst P now.1 found) in
        let k = are.complete c.0 c.1 c.2 c.3 in
        let s = rel.complete k.0 c.1 k.1 stop l (sym c.4) in
        let t = s.2 in let u = c.5 in let v = ap (λ (y : Arrival). y.arr) now.1 in
        (s.0, s.1, omega arith)
  ];
}

-- an arrival that leads to an end is a goal by then, or sooner
goal_by : (query : Query) (doc : StopsDoc) (ends : List (Option Near)) → AreNear After doc.stops doc.changes query.to ends → (place : ℕ) (a : Arrival) → a.stop < length doc.stops →
    (at : ℕ) → LeadsToEnd query doc a at → (goal : Option Goal) → MatchOption goal (IsNoGoal query ends a.stop a.arr) (IsGoal query ends a.stop a.arr place) →
    (g : Goal) × (goal ≡ Some g) × (g.arr ≤ at)
goal_by query doc ends near place a l at h None none =
    let n = end_found query doc ends near a.stop l (id_at doc.stops a.stop) refl h.walk h.is_walk in
    let late = none n.0 n.1 in let same = n.2 in let then = h.is_then in let by = h.in_time in
    absurd (omega arith)
goal_by query doc ends near place a l at h (Some g) is =
    let n = end_found query doc ends near a.stop l (id_at doc.stops a.stop) refl h.walk h.is_walk in
    let found = n.1 in let there = is.is_near in
    let one : is.near ≡ n.0 = cc in
    let seconds = ap (λ (x : Near). x.seconds) one in
    let same = n.2 in let then = h.is_then in let arr = is.is_then in
    (g, refl, omega arith)

-- a goal leads to an end
goal_leads : (query : Query) (doc : StopsDoc) (ends : List (Option Near)) → AreNear After doc.stops doc.changes query.to ends → (place : ℕ) (a : Arrival) (g : Goal) → IsGoal query ends a.stop a.arr place g →
    LeadsToEnd query doc a g.arr
goal_leads query doc ends near place a g h =
    let w = end_walk query doc ends near a.stop h.near h.is_near in
    let same = w.2 in let arr = h.is_then in
    record { walk = w.0; is_walk = w.1; is_then = omega arith; in_time = h.in_time }

-- the goal of the arrival, as one of the options
goal_is : (query : Query) (ends : List (Option Near)) (place : ℕ) (a : Arrival) (goal : Option Goal) → MatchOption goal (IsNoGoal query ends a.stop a.arr) (IsGoal query ends a.stop a.arr place) →
    (g : Goal) → goal ≡ Some g → IsGoal query ends a.stop a.arr place g
goal_is query ends place a goal h g e =
    let M : Option Goal → Type 0 = λ o. MatchOption o (IsNoGoal query ends a.stop a.arr) (IsGoal query ends a.stop a.arr place) in
    subst M e h

-- the new goal of the arrival is the best
best_is_new : (query : Query) (doc : StopsDoc) (arrivals : List Arrival) (a : Arrival) (old : Option Goal) → IsBestGoal query doc arrivals old →
    (goal : Goal) → goal.place ≡ length arrivals → LeadsToEnd query doc a goal.arr → ((at : ℕ) → LeadsToEnd query doc a at → goal.arr ≤ at) → ((g : Goal) → old ≡ Some g → goal.arr ≤ g.arr) →
    IsBestGoal query doc (arrivals ++ a ∷ []) (Some goal)
best_is_new query doc arrivals a old h goal at_end leads least better = record {
  sound = λ g e.
      let f : goal ≡ g = cc in
      let P : ℕ → Type 0 = λ k. slice_get (arrivals ++ a ∷ []) k ≡ Some a in
      let Q : Goal → Type 0 = λ k. (x : Arrival) × (slice_get (arrivals ++ a ∷ []) k.place ≡ Some x) × LeadsToEnd query doc x k.arr in
      subst Q f (a, subst P (sym at_end) (slice_get-last arrivals a), leads);
  complete = λ place x e at to. elim (push_cases arrivals a place x e) [
    | inl was ↦ let g = h.complete place x was at to in let l = better g.0 g.1 in let m = g.2 in (goal, refl, omega arith)
    | inr now ↦ let L : Arrival → Type 0 = λ y. LeadsToEnd query doc y at in (goal, refl, least at (subst L now.1 to))
  ];
}

-- the best goal stays
best_stays : (query : Query) (doc : StopsDoc) (arrivals : List Arrival) (a : Arrival) (old : Option Goal) → IsBestGoal query doc arrivals old →
    ((at : ℕ) → LeadsToEnd query doc a at → (g : Goal) × (old ≡ Some g) × (g.arr ≤ at)) → IsBestGoal query doc (arrivals ++ a ∷ []) old
best_stays query doc arrivals a old h no_better = record {
  sound = λ g e. let s = h.sound g e in (s.0, slice_get-append arrivals (a ∷ []) g.place s.0 s.1, s.2);
  complete = λ place x e at to. elim (push_cases arrivals a place x e) [
    | inl was ↦ h.complete place x was at to
    | inr now ↦ let L : Arrival → Type 0 = λ y. LeadsToEnd query doc y at in no_better at (subst L now.1 to)
  ];
}

-- the best goal after one arrival more
best_picked : (query : Query) (doc : StopsDoc) (ends : List (Option Near)) → AreNear After doc.stops doc.changes query.to ends → (arrivals : List Arrival) (a : Arrival) → a.stop < length doc.stops →
    (old new goal : Option Goal) → IsBestGoal query doc arrivals old → MatchOption goal (IsNoGoal query ends a.stop a.arr) (IsGoal query ends a.stop a.arr (length arrivals)) → PicksGoal old goal new →
    IsBestGoal query doc (arrivals ++ a ∷ []) new
best_picked query doc ends near arrivals a l old new goal h is (inl stays) =
    let P : Option Goal → Type 0 = λ o. IsBestGoal query doc (arrivals ++ a ∷ []) o in
    subst P (sym stays.0) (best_stays query doc arrivals a old h (λ at to.
    let g = goal_by query doc ends near (length arrivals) a l at to goal is in
    let s = stays.1 g.0 g.1 in
    let by = g.2 in let no_later = s.2 in
    (s.0, s.1, omega arith)))
best_picked query doc ends near arrivals a l old new goal h is (inr picks) =
    let P : Option Goal → Type 0 = λ o. IsBestGoal query doc (arrivals ++ a ∷ []) o in
    let g = goal_is query ends (length arrivals) a goal is picks.0 picks.1 in
    subst P (sym picks.2) (best_is_new query doc arrivals a old h picks.0 g.is_place (goal_leads query doc ends near (length arrivals) a picks.0 g) (λ at to.
    let k = goal_by query doc ends near (length arrivals) a l at to goal is in
    let e = k.1 in let f = picks.1 in
    let same : k.0 ≡ picks.0 = cc in
    let by = k.2 in let arr = ap (λ (x : Goal). x.arr) same in
    omega arith) picks.3)

pub best-grown : (query : Query) (doc : StopsDoc) (ends : List (Option Near)) → AreNear After doc.stops doc.changes query.to ends → (arrivals : List Arrival) (a : Arrival) → a.stop < length doc.stops →
    (old new : Option Goal) → IsBestGoal query doc arrivals old → PicksBest query ends (length arrivals) a old new → IsBestGoal query doc (arrivals ++ a ∷ []) new
best-grown query doc ends near arrivals a l old new h picks = best_picked query doc ends near arrivals a l old new picks.goal h picks.is_goal picks.picks

-- what was reached after one arrival more
pub reached_after : (stops : List Stop) (arrivals : List Arrival) (a : Arrival) (reached : List (Option ℕ)) →
    ((stop by : ℕ) → slice_get reached stop ≡ Some (Some by) → IsReachedBy stops arrivals (id_at stops stop) by) →
    (stop by : ℕ) → slice_get (set reached a.stop (Some a.arr)) stop ≡ Some (Some by) → IsReachedBy stops (arrivals ++ a ∷ []) (id_at stops stop) by
reached_after stops arrivals a reached h stop by e = elim (set_cases reached a.stop (Some a.arr) stop (Some by) e) [
  | inl now ↦ let l : a.arr ≡ by = cc in record {
    place = length arrivals;
    arrival = a;
    is_arrival = slice_get-last arrivals a;
    at = sym (ap (id_at stops) now.0);
    in_time = omega arith;
  }
  | inr was ↦ reached-grown stops arrivals a (id_at stops stop) by (h stop by was)
]

-- the progress after an arrival that is the end of a leg, where no connection of the list departs after it
follows_lists : (query : Query) (doc : StopsDoc) (ends : List (Option Near)) → AreNear After doc.stops doc.changes query.to ends → InChangeOrder doc.changes → (runs : List RunKey) (kept : Kept) (list : List Connection) → Follows query doc runs kept list →
    (a : Arrival) → a.stop < length doc.stops → IsLegEnd query doc runs kept.arrivals list a → ((place : ℕ) (x : Connection) → slice_get list place ≡ Some x → x.dep ≤ a.arr) →
    (changes : List Change) → AreChangesFrom doc.changes (id_at doc.stops a.stop) changes →
    (ready : List (Option Ready)) → IsRelaxed doc.stops changes (length kept.arrivals) a.arr kept.ready ready →
    (best : Option Goal) → PicksBest query ends (length kept.arrivals) a kept.best best →
    Follows query doc runs (record { boardings = kept.boardings; ready = ready; reached = set kept.reached a.stop (Some a.arr); arrivals = kept.arrivals ++ a ∷ []; best = best }) list
follows_lists query doc ends far in_order runs kept list f a inside end early changes are ready rel best picks = record {
  arrival_sound = λ place x e. elim (push_cases kept.arrivals a place x e) [
    | inl was ↦ leg_end-grown query doc runs kept.arrivals list a x (f.arrival_sound place x was)
    | inr now ↦
        let P : Arrival → Type 0 = λ y. IsLegEnd query doc runs (kept.arrivals ++ a ∷ []) list y in
        subst P (sym now.1) (leg_end-grown query doc runs kept.arrivals list a a end)
  ];
  boarding_sound = λ run b key e is_run. boarding-grown query doc kept.arrivals list key b a (f.boarding_sound run b key e is_run);
  boarding_complete = λ place x e allowed after m.
      f.boarding_complete place x e allowed after (may_board_before query doc kept.arrivals a after x.dep_stop x.dep (early place x e) m);
  ready = ready-grown doc in_order kept.arrivals kept.ready ready f.ready a changes are rel;
  reached = reached_after doc.stops kept.arrivals a kept.reached f.reached;
  best = best-grown query doc ends far kept.arrivals a inside kept.best best f.best picks;
}

-- what is kept is known by its parts
pub same_kept : (x y : Kept) → x.boardings ≡ y.boardings → x.ready ≡ y.ready → x.reached ≡ y.reached → x.arrivals ≡ y.arrivals → x.best ≡ y.best → x ≡ y
same_kept x y b r s a g =
    ap (λ (l : List (Option Boarding)). let k : Kept = record { boardings = l; ready = x.ready; reached = x.reached; arrivals = x.arrivals; best = x.best } in k) b
    ∙ ap (λ (l : List (Option Ready)). let k : Kept = record { boardings = y.boardings; ready = l; reached = x.reached; arrivals = x.arrivals; best = x.best } in k) r
    ∙ ap (λ (l : List (Option ℕ)). let k : Kept = record { boardings = y.boardings; ready = y.ready; reached = l; arrivals = x.arrivals; best = x.best } in k) s
    ∙ ap (λ (l : List Arrival). let k : Kept = record { boardings = y.boardings; ready = y.ready; reached = y.reached; arrivals = l; best = x.best } in k) a
    ∙ ap (λ (l : Option Goal). let k : Kept = record { boardings = y.boardings; ready = y.ready; reached = y.reached; arrivals = y.arrivals; best = l } in k) g

pub follows-arrived : (query : Query) (doc : StopsDoc) (ends : List (Option Near)) → AreNear After doc.stops doc.changes query.to ends → InChangeOrder doc.changes → (runs : List RunKey) (old new : Kept) (list : List Connection) → Follows query doc runs old list →
    (a : Arrival) → a.stop < length doc.stops → IsLegEnd query doc runs old.arrivals list a → ((place : ℕ) (x : Connection) → slice_get list place ≡ Some x → x.dep ≤ a.arr) →
    Arrives query doc ends a old new → Follows query doc runs new list
follows-arrived query doc ends far in_order runs old new list f a inside end early s =
    let P : Kept → Type 0 = λ k. Follows query doc runs k list in
    let made : Kept = record { boardings = old.boardings; ready = new.ready; reached = set old.reached a.stop (Some a.arr); arrivals = old.arrivals ++ a ∷ []; best = new.best } in
    subst P (sym (same_kept new made s.boardings refl s.reached s.arrivals refl))
    (follows_lists query doc ends far in_order runs old list f a inside end early (changes_from doc.changes (id_at doc.stops a.stop)) (are_changes_from doc.changes (id_at doc.stops a.stop)) new.ready s.ready.relaxed new.best s.best)

-- each leg of the longer list is reached, where the arrival is that of the new connection
pub complete-arrived : (query : Query) (doc : StopsDoc) (arrivals : List Arrival) (list : List Connection) → IsComplete query doc arrivals list →
    (c : Connection) → ((place : ℕ) (x : Connection) → slice_get (list ++ c ∷ []) place ≡ Some x → x.dep ≤ c.arr) →
    (a : Arrival) → id_at doc.stops a.stop ≡ c.arr_stop → a.arr ≡ c.arr → IsComplete query doc (arrivals ++ a ∷ []) (list ++ c ∷ [])
complete-arrived query doc arrivals list h c early a at arr = λ ride leg after m known. elim (leg_cases list c ride leg) [
  | inl old ↦
      let e = early old.boards_at old.boards (slice_get-append list (c ∷ []) old.boards_at old.boards old.is_boards) in
      let d = ap (λ (r : Ride). r.dep) old.is_ride in
      reached-grown doc.stops arrivals a ride.alight ride.arr (h ride old after (may_board_before query doc arrivals a after ride.board ride.dep (omega arith) m) known)
  | inr ends ↦ let e = ends.arr in record {
    place = length arrivals;
    arrival = a;
    is_arrival = slice_get-last arrivals a;
    at = at ∙ sym ends.alight;
    in_time = omega arith;
  }
]

-- the boarding and the new connection of its run make a leg
pub leg_end : (query : Query) (doc : StopsDoc) (runs : List RunKey) (arrivals : List Arrival) (list : List Connection) (c : Connection) (b : Boarding) →
    IsBoardingOf query doc arrivals (list ++ c ∷ []) c.key b → c.alight ≡ true →
    (a : Arrival) → slice_get runs a.run ≡ Some c.key → a.boarding ≡ b → a.last_seq ≡ c.seq → id_at doc.stops a.stop ≡ c.arr_stop → a.arr ≡ c.arr →
    IsLegEnd query doc runs arrivals (list ++ c ∷ []) a
leg_end query doc runs arrivals list c b on may_alight a is_run boarding last_seq stop arr =
    let l = slice_get_within (list ++ c ∷ []) on.place on.boards on.is_boards in
    let n = length_push list c in
    let P : Boarding → Type 0 = λ x. MayBoard query doc arrivals x.after on.boards.dep_stop on.boards.dep in
    let Q : RunKey → Type 0 = λ k. slice_get runs a.run ≡ Some k in
    record {
      ride = record { key = on.boards.key; first_seq = on.boards.seq; last_seq = c.seq; board = on.boards.dep_stop; dep = on.boards.dep; alight = c.arr_stop; arr = c.arr };
      is_leg = record {
        boards_at = on.place;
        last_at = length list;
        in_order = omega arith;
        boards = on.boards;
        last = c;
        is_boards = on.is_boards;
        is_last = slice_get-last list c;
        same_run = on.of_run;
        may_board = on.allowed;
        may_alight = may_alight;
        is_ride = refl;
      };
      is_shown = record {
        key = subst Q (sym on.of_run) is_run;
        first_seq = ap (λ (x : Boarding). x.seq) boarding ∙ on.seq;
        last_seq = last_seq;
        board = ap (λ (x : Boarding). id_at doc.stops x.stop) boarding ∙ on.stop;
        dep = ap (λ (x : Boarding). x.dep) boarding ∙ on.dep;
        alight = stop;
        arr = arr;
      };
      may_board = subst P (sym boarding) on.may_board;
    }
