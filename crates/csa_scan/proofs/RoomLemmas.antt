-- More runs, none of them boarded, change nothing.
use Rattle.std.proofs.Common.{◌≡◌, ℕ, ◌≤◌, suc, zero, List, [], ◌∷◌, ◌++◌, Option, Some, None, length, replicate, sym, subst, arith}
use Rattle.std.specs.List.{slice_get}
use Rattle.std.proofs.lemmas.Option.{slice_get_within}
use Rattle.lc_model.specs.declared.connection.Connection.{Connection}
use Rattle.lc_model.specs.declared.doc.StopsDoc.{StopsDoc}
use Rattle.lc_model.specs.declared.key.RunKey.{RunKey}
use Rattle.lc_model.specs.declared.query.Query.{Query}
use Rattle.csa_scan.specs.Kept.{AddsRuns, Kept}
use Rattle.csa_scan.specs.Numbers.{Extends}
use Rattle.csa_scan.specs.Reach.{IsBoarded, IsLegEnd, IsShown}
use Rattle.csa_scan.specs.Stands.{Stands}
use Rattle.csa_scan.proofs.ListPlacesLemmas.{item_within, slice_get-append}

pub none_there : {X : Type 0} (n i : ℕ) (x : X) → slice_get (replicate n None) i ≡ Some (Some x) → ⊥
none_there zero i x e = cc
none_there (suc n) zero x e = cc
none_there (suc n) (suc i) x e = none_there n i x e

-- a boarding is among the old runs
was_there : {X : Type 0} (xs : List (Option X)) (n i : ℕ) (x : X) → slice_get (xs ++ replicate n None) i ≡ Some (Some x) → slice_get xs i ≡ Some (Some x)
was_there [] n i x e = absurd (none_there n i x e)
was_there (y ∷ xs) n zero x e = e
was_there (y ∷ xs) n (suc i) x e = was_there xs n i x e

-- more runs have numbers, and more of them room
pub stands-room : (query : Query) (doc : StopsDoc) (old_runs runs : List RunKey) (kept : Kept) (list : List Connection) → Extends old_runs runs → length kept.boardings ≤ length old_runs → (n : ℕ) →
    Stands query doc old_runs kept list → Stands query doc runs (record kept { boardings = kept.boardings ++ replicate n None }) list
stands-room query doc old_runs runs kept list extends fits n s = record {
  follows = let f = s.follows in record {
    arrival_sound = λ place a e. let r = f.arrival_sound place a e in let h = r.is_shown in record {
      ride = r.ride;
      is_leg = r.is_leg;
      may_board = r.may_board;
      is_shown = record { key = extends a.run r.ride.key h.key; first_seq = h.first_seq; last_seq = h.last_seq; board = h.board; dep = h.dep; alight = h.alight; arr = h.arr };
    };
    boarding_sound = λ run b key e is_run.
        let was = was_there kept.boardings n run b e in
        let l = slice_get_within kept.boardings run (Some b) was in
        let k = item_within old_runs run (omega arith) in
        let same : k.0 ≡ key = let g = extends run k.0 k.1 in cc in
        let P : RunKey → Type 0 = λ x. Rattle.csa_scan.specs.Reach.IsBoardingOf query doc kept.arrivals list x b in
        subst P same (f.boarding_sound run b k.0 was k.1);
    boarding_complete = λ place x e allowed after m. let r = f.boarding_complete place x e allowed after m in record {
      run = r.run;
      boarding = r.boarding;
      is_run = extends r.run x.key r.is_run;
      is_boarding = slice_get-append kept.boardings (replicate n None) r.run (Some r.boarding) r.is_boarding;
    };
    ready = f.ready;
    reached = f.reached;
    best = f.best;
  };
  complete = s.complete;
}

pub stands-added : (query : Query) (doc : StopsDoc) (old_runs runs : List RunKey) (old new : Kept) (list : List Connection) → Extends old_runs runs → length old.boardings ≤ length old_runs → AddsRuns old new →
    Stands query doc old_runs old list → Stands query doc runs new list
stands-added query doc old_runs runs old new list extends fits adds s =
    let P : Kept → Type 0 = λ k. Stands query doc runs k list in
    subst P (sym adds.is) (stands-room query doc old_runs runs old list extends fits adds.more s)
