-- One departure more: what the progress keeps stands for the list still.
use Rattle.std.proofs.Common.{◌≡◌, ℕ, ◌+◌, ◌<◌, ◌≤◌, List, [], ◌∷◌, Option, Some, None, true, length, set, refl, sym, ◌∙◌, ap, subst, inl, inr, arith}
use Rattle.std.specs.List.{slice_get}
use Rattle.std.specs.Option.{MatchOption}
use Rattle.std.proofs.lemmas.Option.{slice_get_within}
use Rattle.lc_model.specs.declared.connection.Connection.{Connection}
use Rattle.lc_model.specs.declared.doc.StopsDoc.{StopsDoc}
use Rattle.lc_model.specs.declared.key.RunKey.{RunKey}
use Rattle.lc_model.specs.declared.query.Query.{Query}
use Rattle.lc_model.specs.declared.ride.Ride.{Ride}
use Rattle.csa_scan.specs.Near.{AreNear}
use Rattle.csa_scan.specs.Reach.{id_at}
use Rattle.csa_scan.specs.declared.side.Side.TheVariants.{Before}
use Rattle.csa_scan.specs.declared.trace.Near.{Near}
use Rattle.csa_scan.proofs.ListPlacesLemmas.{set_cases, slice_get-set_same}
use Rattle.csa_scan.proofs.NearWalksLemmas.{start_found, start_walk}
use Rattle.back_scan.specs.Departs.{Departs, IsNoStart, IsStart, PicksBest, PicksStart}
use Rattle.back_scan.specs.Kept.{Kept}
use Rattle.back_scan.specs.Onward.{IsAlightingOf, IsLegBegin, MayGoOn}
use Rattle.back_scan.specs.Stands.{Follows, IsBestStart, IsComplete, LeavesFor}
use Rattle.back_scan.specs.declared.trace.Alighting.{Alighting}
use Rattle.back_scan.specs.declared.trace.Departure.{Departure}
use Rattle.back_scan.specs.declared.trace.Start.{Start}
use Rattle.back_scan.proofs.GrowingLemmas.{alighting-grown, departure-kept, left_from-grown, leg_begin-grown, leg_cases, may_go_on_without}

-- who leaves for a departure has a start then, or later
start_by : (query : Query) (doc : StopsDoc) (starts : List (Option Near)) → AreNear Before doc.stops doc.changes query.from starts → (stop dep : ℕ) → stop < length doc.stops →
    (at : ℕ) → LeavesFor query doc (id_at doc.stops stop) dep at → (start : Option Start) → MatchOption start (IsNoStart query starts stop dep) (IsStart query starts stop dep) →
    (s : Start) × (start ≡ Some s) × (at ≤ s.leaves)
start_by query doc starts near stop dep l at h None none =
    let n = start_found query doc starts near stop l (id_at doc.stops stop) refl h.walk h.is_walk in
    let early = none n.0 n.1 in let same = n.2 in let then = h.is_then in let by = h.not_early in
    absurd (omega arith)
start_by query doc starts near stop dep l at h (Some s) is =
    let n = start_found query doc starts near stop l (id_at doc.stops stop) refl h.walk h.is_walk in
    let found = n.1 in let there = is.is_near in
    let one : is.near ≡ n.0 = cc in
    let seconds = ap (λ (x : Near). x.seconds) one in
    let same = n.2 in let then = h.is_then in let leaves = is.is_then in
    (s, refl, omega arith)

-- a start leaves for its departure
start_leaves : (query : Query) (doc : StopsDoc) (starts : List (Option Near)) → AreNear Before doc.stops doc.changes query.from starts → (stop dep : ℕ) (s : Start) → IsStart query starts stop dep s →
    LeavesFor query doc (id_at doc.stops stop) dep s.leaves
start_leaves query doc starts near stop dep s h =
    let w = start_walk query doc starts near stop (id_at doc.stops stop) refl h.near h.is_near in
    let same = w.2 in let leaves = h.is_then in
    record { walk = w.0; is_walk = w.1; is_then = omega arith; not_early = h.not_early }

start_is : (query : Query) (starts : List (Option Near)) (stop dep : ℕ) (start : Option Start) → MatchOption start (IsNoStart query starts stop dep) (IsStart query starts stop dep) →
    (s : Start) → start ≡ Some s → IsStart query starts stop dep s
start_is query starts stop dep start h s e =
    let M : Option Start → Type 0 = λ o. MatchOption o (IsNoStart query starts stop dep) (IsStart query starts stop dep) in
    subst M e h

-- the start of the new departure is the best
best_is_new : (query : Query) (doc : StopsDoc) (departures : List (Option Departure)) (stop : ℕ) → slice_get departures stop ≡ Some None → (d : Departure) (old : Option Start) → IsBestStart query doc departures old →
    (start : Start) → start.stop ≡ stop → LeavesFor query doc (id_at doc.stops stop) d.dep start.leaves → ((at : ℕ) → LeavesFor query doc (id_at doc.stops stop) d.dep at → at ≤ start.leaves) →
    ((s : Start) → old ≡ Some s → s.leaves ≤ start.leaves) → IsBestStart query doc (set departures stop (Some d)) (Some start)
best_is_new query doc departures stop free d old h start at leaves latest better =
    let new = set departures stop (Some d) in
    let there = slice_get-set_same departures stop (Some d) (slice_get_within departures stop None free) in
    record {
      sound = λ s e.
          let f : start ≡ s = cc in
          let P : ℕ → Type 0 = λ k. (x : Departure) × (slice_get new k ≡ Some (Some x)) × LeavesFor query doc (id_at doc.stops k) x.dep start.leaves in
          let Q : Start → Type 0 = λ t. (x : Departure) × (slice_get new t.stop ≡ Some (Some x)) × LeavesFor query doc (id_at doc.stops t.stop) x.dep t.leaves in
          subst Q f (subst P (sym at) (d, there, leaves));
      complete = λ k x e when to. elim (set_cases departures stop (Some d) k (Some x) e) [
        | inl now ↦
            let g = now.1 in
            let same : x ≡ d = cc in
            let L : Departure → Type 0 = λ y. LeavesFor query doc (id_at doc.stops k) y.dep when in
            let S : ℕ → Type 0 = λ i. LeavesFor query doc (id_at doc.stops i) d.dep when in
            (start, refl, latest when (subst S now.0 (subst L same to)))
        | inr was ↦ let s = h.complete k x was when to in let l = better s.0 s.1 in let m = s.2 in (start, refl, omega arith)
      ];
    }

-- the best start stays
best_stays : (query : Query) (doc : StopsDoc) (departures : List (Option Departure)) (stop : ℕ) → slice_get departures stop ≡ Some None → (d : Departure) (old : Option Start) → IsBestStart query doc departures old →
    ((at : ℕ) → LeavesFor query doc (id_at doc.stops stop) d.dep at → (s : Start) × (old ≡ Some s) × (at ≤ s.leaves)) → IsBestStart query doc (set departures stop (Some d)) old
best_stays query doc departures stop free d old h no_better = record {
  sound = λ s e. let r = h.sound s e in (r.0, departure-kept departures stop free d s.stop r.0 r.1, r.2);
  complete = λ k x e when to. elim (set_cases departures stop (Some d) k (Some x) e) [
    | inl now ↦
        let g = now.1 in
        let same : x ≡ d = cc in
        let L : Departure → Type 0 = λ y. LeavesFor query doc (id_at doc.stops k) y.dep when in
        let S : ℕ → Type 0 = λ i. LeavesFor query doc (id_at doc.stops i) d.dep when in
        no_better when (subst S now.0 (subst L same to))
    | inr was ↦ h.complete k x was when to
  ];
}

-- the best start after one departure more
best_picked : (query : Query) (doc : StopsDoc) (starts : List (Option Near)) → AreNear Before doc.stops doc.changes query.from starts → (departures : List (Option Departure)) (stop : ℕ) → stop < length doc.stops → slice_get departures stop ≡ Some None →
    (d : Departure) (old new start : Option Start) → IsBestStart query doc departures old → MatchOption start (IsNoStart query starts stop d.dep) (IsStart query starts stop d.dep) → PicksStart old start new →
    IsBestStart query doc (set departures stop (Some d)) new
best_picked query doc starts near departures stop l free d old new start h is (inl stays) =
    let P : Option Start → Type 0 = λ o. IsBestStart query doc (set departures stop (Some d)) o in
    subst P (sym stays.0) (best_stays query doc departures stop free d old h (λ at to.
    let t = start_by query doc starts near stop d.dep l at to start is in
    let s = stays.1 t.0 t.1 in
    let by = t.2 in let no_earlier = s.2 in
    (s.0, s.1, omega arith)))
best_picked query doc starts near departures stop l free d old new start h is (inr picks) =
    let P : Option Start → Type 0 = λ o. IsBestStart query doc (set departures stop (Some d)) o in
    let s = start_is query starts stop d.dep start is picks.0 picks.1 in
    subst P (sym picks.2) (best_is_new query doc departures stop free d old h picks.0 s.is_stop (start_leaves query doc starts near stop d.dep picks.0 s) (λ at to.
    let k = start_by query doc starts near stop d.dep l at to start is in
    let e = k.1 in let f = picks.1 in
    let same : k.0 ≡ picks.0 = cc in
    let by = k.2 in let leaves = ap (λ (x : Start). x.leaves) same in
    omega arith) picks.3)

pub best-grown : (query : Query) (doc : StopsDoc) (starts : List (Option Near)) → AreNear Before doc.stops doc.changes query.from starts → (departures : List (Option Departure)) (stop : ℕ) → stop < length doc.stops → slice_get departures stop ≡ Some None →
    (d : Departure) (old new : Option Start) → IsBestStart query doc departures old → PicksBest query starts stop d old new → IsBestStart query doc (set departures stop (Some d)) new
best-grown query doc starts near departures stop l free d old new h picks = best_picked query doc starts near departures stop l free d old new picks.start h picks.is_start picks.picks

-- the progress after a departure that is the begin of a leg, before which nothing of the list arrives
follows_lists : (query : Query) (doc : StopsDoc) (starts : List (Option Near)) → AreNear Before doc.stops doc.changes query.from starts → (runs : List RunKey) (kept : Kept) (list : List Connection) → Follows query doc runs kept list →
    (stop : ℕ) → stop < length doc.stops → slice_get kept.departures stop ≡ Some None → (d : Departure) → IsLegBegin query doc runs kept.departures list stop d →
    ((place : ℕ) (x : Connection) → slice_get list place ≡ Some x → d.dep ≤ x.arr) →
    (best : Option Start) → PicksBest query starts stop d kept.best best →
    Follows query doc runs (record { alightings = kept.alightings; departures = set kept.departures stop (Some d); best = best }) list
follows_lists query doc starts near runs kept list f stop inside free d begin late best picks = record {
  departure_sound = λ k e at. elim (set_cases kept.departures stop (Some d) k (Some e) at) [
    | inl now ↦
        let g = now.1 in
        let same : d ≡ e = cc in
        let P : Departure → Type 0 = λ y. IsLegBegin query doc runs (set kept.departures stop (Some d)) list k y in
        let Q : ℕ → Type 0 = λ i. IsLegBegin query doc runs (set kept.departures stop (Some d)) list i d in
        subst P same (subst Q (sym now.0) (leg_begin-grown query doc runs kept.departures list stop free d stop d begin))
    | inr was ↦ leg_begin-grown query doc runs kept.departures list stop free d k e (f.departure_sound k e was)
  ];
  alighting_sound = λ run a key e is_run. alighting-grown query doc kept.departures list stop free d key a (f.alighting_sound run a key e is_run);
  alighting_complete = λ place x e allowed next m.
      f.alighting_complete place x e allowed next (may_go_on_without query doc kept.departures stop d next x.arr_stop x.arr (late place x e) m);
  best = best-grown query doc starts near kept.departures stop inside free d kept.best best f.best picks;
}

-- what is kept is known by its parts
pub same_kept : (x y : Kept) → x.alightings ≡ y.alightings → x.departures ≡ y.departures → x.best ≡ y.best → x ≡ y
same_kept x y a d s =
    ap (λ (l : List (Option Alighting)). let k : Kept = record { alightings = l; departures = x.departures; best = x.best } in k) a
    ∙ ap (λ (l : List (Option Departure)). let k : Kept = record { alightings = y.alightings; departures = l; best = x.best } in k) d
    ∙ ap (λ (l : Option Start). let k : Kept = record { alightings = y.alightings; departures = y.departures; best = l } in k) s

pub follows-departed : (query : Query) (doc : StopsDoc) (starts : List (Option Near)) → AreNear Before doc.stops doc.changes query.from starts → (runs : List RunKey) (old new : Kept) (list : List Connection) → Follows query doc runs old list →
    (stop : ℕ) → stop < length doc.stops → slice_get old.departures stop ≡ Some None → (d : Departure) → IsLegBegin query doc runs old.departures list stop d →
    ((place : ℕ) (x : Connection) → slice_get list place ≡ Some x → d.dep ≤ x.arr) →
    Departs query starts stop d old new → Follows query doc runs new list
follows-departed query doc starts near runs old new list f stop inside free d begin late h =
    let P : Kept → Type 0 = λ k. Follows query doc runs k list in
    let made : Kept = record { alightings = old.alightings; departures = set old.departures stop (Some d); best = new.best } in
    subst P (sym (same_kept new made h.alightings h.departures refl))
    (follows_lists query doc starts near runs old list f stop inside free d begin late new.best h.best)

-- each leg of the longer list is met, where the departure is that of the new connection
pub complete-departed : (query : Query) (doc : StopsDoc) (departures : List (Option Departure)) (c : Connection) (list : List Connection) → IsComplete query doc departures list →
    ((place : ℕ) (x : Connection) → slice_get (c ∷ list) place ≡ Some x → c.dep ≤ x.arr) →
    (stop : ℕ) → slice_get departures stop ≡ Some None → (d : Departure) → id_at doc.stops stop ≡ c.dep_stop → d.dep ≡ c.dep → IsComplete query doc (set departures stop (Some d)) (c ∷ list)
complete-departed query doc departures c list h late stop free d at dep = λ ride leg next m known. elim (leg_cases c list ride leg) [
  | inl old ↦
      let e = late (Rattle.std.proofs.Common.suc old.last_at) old.last old.is_last in
      let a = ap (λ (r : Ride). r.arr) old.is_ride in
      left_from-grown doc.stops departures stop free d ride.board ride.dep (h ride old next (may_go_on_without query doc departures stop d next ride.alight ride.arr (omega arith) m) known)
  | inr begins ↦ let e = begins.dep in record {
    place = stop;
    departure = d;
    is_departure = slice_get-set_same departures stop (Some d) (slice_get_within departures stop None free);
    from = at ∙ sym begins.board;
    no_earlier = omega arith;
  }
]

-- the new connection and the alighting of its run make a leg
pub leg_begin : (query : Query) (doc : StopsDoc) (runs : List RunKey) (departures : List (Option Departure)) (c : Connection) (list : List Connection) (a : Alighting) →
    IsAlightingOf query doc departures (c ∷ list) c.key a → c.board ≡ true → (stop : ℕ) → id_at doc.stops stop ≡ c.dep_stop →
    (d : Departure) → slice_get runs d.run ≡ Some c.key → d.alighting ≡ a → d.seq ≡ c.seq → d.dep ≡ c.dep →
    IsLegBegin query doc runs departures (c ∷ list) stop d
leg_begin query doc runs departures c list a off may_board stop at d is_run alighting seq dep =
    let P : Alighting → Type 0 = λ x. MayGoOn query doc departures x.next off.last.arr_stop off.last.arr in
    record {
      ride = record { key = c.key; first_seq = c.seq; last_seq = off.last.seq; board = c.dep_stop; dep = c.dep; alight = off.last.arr_stop; arr = off.last.arr };
      is_leg = record {
        boards_at = 0;
        last_at = off.place;
        in_order = omega arith;
        boards = c;
        last = off.last;
        is_boards = refl;
        is_last = off.is_last;
        same_run = sym off.of_run;
        may_board = may_board;
        may_alight = off.allowed;
        is_ride = refl;
      };
      is_shown = record {
        key = is_run;
        first_seq = seq;
        last_seq = ap (λ (x : Alighting). x.seq) alighting ∙ off.seq;
        board = at;
        dep = dep;
        alight = ap (λ (x : Alighting). id_at doc.stops x.stop) alighting ∙ off.stop;
        arr = ap (λ (x : Alighting). x.arr) alighting ∙ off.arr;
      };
      may_go_on = subst P (sym alighting) off.may_go_on;
    }
