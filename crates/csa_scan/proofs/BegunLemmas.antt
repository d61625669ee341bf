-- A scan that took nothing, and what its answers are.
use Rattle.std.proofs.Common.{◌≡◌, ℕ, ◌<◌, List, [], Option, Some, None, true, length, replicate, sym, ap, subst, arith}
use Rattle.std.specs.List.{All}
use Rattle.std.specs.Option.{MatchOption, is_some}
use Rattle.std.proofs.lemmas.List.{append-nil}
use Rattle.std.proofs.lemmas.Option.{slice_get_within, get_or_from_slice_get}
use Rattle.lc_model.specs.Stop.{HasStop}
use Rattle.lc_model.specs.declared.connection.Connection.{Connection}
use Rattle.lc_model.specs.declared.doc.StopsDoc.{StopsDoc}
use Rattle.lc_model.specs.declared.key.RunKey.{RunKey}
use Rattle.lc_model.specs.declared.query.Query.{Query}
use Rattle.lc_model.specs.declared.stop.Stop.{Stop}
use Rattle.csa_scan.specs.Kept.{AddsRuns, Kept}
use Rattle.csa_scan.specs.Numbers.{AreNumbersOf}
use Rattle.csa_scan.specs.PlaceOf.{IsPlaceOf, LacksId}
use Rattle.csa_scan.specs.Stands.{Stands}
use Rattle.csa_scan.proofs.ChangesLemmas.{HasStop-from_place}
use Rattle.csa_scan.proofs.ListPlacesLemmas.{item_within}
use Rattle.csa_scan.proofs.RoomLemmas.{none_there}

-- nothing is kept of nothing
pub stands_nothing : (query : Query) (doc : StopsDoc) (runs : List RunKey) (n : ℕ) → Stands query doc runs (record { boardings = []; ready = replicate n None; reached = replicate n None; arrivals = []; best = None }) []
stands_nothing query doc runs n = record {
  follows = record {
    arrival_sound = λ place a e. absurd (cc);
    boarding_sound = λ run b key e is_run. absurd (cc);
    boarding_complete = λ place x e allowed after m. absurd (cc);
    ready = record { sound = λ stop r e. absurd (none_there n stop r e); complete = λ place a e stop seconds l f. absurd (cc) };
    reached = λ stop by e. absurd (none_there n stop by e);
    best = record { sound = λ g e. absurd (cc); complete = λ place a e at to. absurd (cc) };
  };
  complete = λ ride leg after m known. let e = leg.is_boards in absurd (cc);
}

-- a stop that has a place is known
pub known : (stops : List Stop) (id : List ℕ) (o : Option ℕ) → MatchOption o (LacksId stops id) (IsPlaceOf stops id) → is_some o ≡ true → HasStop stops id
known stops id None h e = absurd (cc)
known stops id (Some place) h e = let P : List ℕ → Type 0 = λ x. HasStop stops x in subst P h.is (HasStop-from_place stops place h.within)

-- no run more
pub adds_nothing : (kept : Kept) → AddsRuns kept kept
adds_nothing kept = record { more = 0; is = let k = append-nil kept.boardings in ap (λ (l : List (Option Rattle.csa_scan.specs.declared.trace.Boarding.Boarding)). record kept { boardings = l }) (sym k) }

-- the numbers of runs are within the runs
pub numbers_known : (runs : List RunKey) (list : List Connection) (numbers : List ℕ) (n : ℕ) → AreNumbersOf runs list numbers → n ≡ length runs → All (λ k. k < n) numbers
numbers_known runs list numbers n h e = λ k d l.
    let c = item_within list k (let s = h.same_length in omega arith) in
    let r = h.is_number k c.0 c.1 in
    let w = slice_get_within runs r.0 c.0.key r.2 in
    let g = get_or_from_slice_get numbers k r.0 d r.1 in
    omega arith

-- what holds of one question and document holds of the same
pub carried : (P : Query → StopsDoc → Type 0) (q query : Query) (d doc : StopsDoc) → q ≡ query → d ≡ doc → P q d → P query doc
carried P q query d doc e f h = let Q : Query → Type 0 = λ x. P x d in let D : StopsDoc → Type 0 = λ x. P query x in subst D f (subst Q e h)
