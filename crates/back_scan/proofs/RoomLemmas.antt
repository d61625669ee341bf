-- More runs, none of them left, change nothing.
use Rattle.std.proofs.Common.{◌≡◌, ℕ, ◌≤◌, List, [], ◌∷◌, ◌++◌, Option, Some, None, length, replicate, sym, subst, ap, arith}
use Rattle.std.specs.List.{slice_get}
use Rattle.std.proofs.lemmas.List.{append-nil}
use Rattle.std.proofs.lemmas.Option.{slice_get_within}
use Rattle.lc_model.specs.declared.connection.Connection.{Connection}
use Rattle.lc_model.specs.declared.doc.StopsDoc.{StopsDoc}
use Rattle.lc_model.specs.declared.key.RunKey.{RunKey}
use Rattle.lc_model.specs.declared.query.Query.{Query}
use Rattle.csa_scan.specs.Numbers.{Extends}
use Rattle.csa_scan.proofs.ListPlacesLemmas.{item_within, slice_get-append}
use Rattle.csa_scan.proofs.RoomLemmas.{none_there}
use Rattle.back_scan.specs.Kept.{AddsRuns, Kept, nothing_of}
use Rattle.back_scan.specs.Onward.{IsAlightingOf}
use Rattle.back_scan.specs.Stands.{Stands}
use Rattle.back_scan.specs.declared.trace.Alighting.{Alighting}

-- an alighting is among the old runs
pub was_there : {X : Type 0} (xs : List (Option X)) (n i : ℕ) (x : X) → slice_get (xs ++ replicate n None) i ≡ Some (Some x) → slice_get xs i ≡ Some (Some x)
was_there [] n i x e = absurd (none_there n i x e)
was_there (y ∷ xs) n Rattle.std.proofs.Common.zero x e = e
was_there (y ∷ xs) n (Rattle.std.proofs.Common.suc i) x e = was_there xs n i x e

stands-room : (query : Query) (doc : StopsDoc) (old_runs runs : List RunKey) (kept : Kept) (list : List Connection) → Extends old_runs runs → length kept.alightings ≤ length old_runs → (n : ℕ) →
    Stands query doc old_runs kept list → Stands query doc runs (record kept { alightings = kept.alightings ++ replicate n None }) list
stands-room query doc old_runs runs kept list extends fits n s = record {
  follows = let f = s.follows in record {
    departure_sound = λ stop d e. let r = f.departure_sound stop d e in let h = r.is_shown in record {
      ride = r.ride;
      is_leg = r.is_leg;
      may_go_on = r.may_go_on;
      is_shown = record { key = extends d.run r.ride.key h.key; first_seq = h.first_seq; last_seq = h.last_seq; board = h.board; dep = h.dep; alight = h.alight; arr = h.arr };
    };
    alighting_sound = λ run a key e is_run.
        let was = was_there kept.alightings n run a e in
        let l = slice_get_within kept.alightings run (Some a) was in
        let k = item_within old_runs run (omega arith) in
        let same : k.0 ≡ key = let g = extends run k.0 k.1 in cc in
        let P : RunKey → Type 0 = λ x. IsAlightingOf query doc kept.departures list x a in
        subst P same (f.alighting_sound run a k.0 was k.1);
    alighting_complete = λ place x e allowed next m. let r = f.alighting_complete place x e allowed next m in record {
      run = r.run;
      alighting = r.alighting;
      is_run = extends r.run x.key r.is_run;
      is_alighting = slice_get-append kept.alightings (replicate n None) r.run (Some r.alighting) r.is_alighting;
    };
    best = f.best;
  };
  complete = s.complete;
  forward = s.forward;
}

-- more runs have numbers, and more of them room
pub stands-added : (query : Query) (doc : StopsDoc) (old_runs runs : List RunKey) (old new : Kept) (list : List Connection) → Extends old_runs runs → length old.alightings ≤ length old_runs → AddsRuns old new →
    Stands query doc old_runs old list → Stands query doc runs new list
stands-added query doc old_runs runs old new list extends fits adds s =
    let P : Kept → Type 0 = λ k. Stands query doc runs k list in
    subst P (sym adds.is) (stands-room query doc old_runs runs old list extends fits adds.more s)

-- no run more
pub adds_nothing : (kept : Kept) → AddsRuns kept kept
adds_nothing kept = record { more = 0; is = let k = append-nil kept.alightings in ap (λ (l : List (Option Alighting)). record kept { alightings = l }) (sym k) }

-- nothing is kept of nothing
pub stands_nothing : (query : Query) (doc : StopsDoc) (runs : List RunKey) (n : ℕ) → Stands query doc runs (nothing_of n) []
stands_nothing query doc runs n = record {
  follows = record {
    departure_sound = λ stop d e. absurd (none_there n stop d e);
    alighting_sound = λ run a key e is_run. absurd (cc);
    alighting_complete = λ place x e allowed next m. absurd (cc);
    best = record { sound = λ s e. absurd (cc); complete = λ stop d e at to. absurd (none_there n stop d e) };
  };
  complete = λ ride leg next m known. let e = leg.is_boards in absurd (cc);
  forward = λ place c e. absurd (cc);
}
