-- How a connection is boarded, by what the progress keeps.
use Rattle.std.specs.Prelude.{◌≡◌, ℕ, ◌+◌, ◌<◌, ◌≤◌, ◌⊎◌, List, Option, Some, None, true, length}
use Rattle.std.specs.List.{slice_get}
use Rattle.lc_model.specs.declared.connection.Connection.{Connection}
use Rattle.lc_model.specs.declared.doc.StopsDoc.{StopsDoc}
use Rattle.lc_model.specs.declared.query.Query.{Query}
use Rattle.csa_scan.specs.Kept.{Kept}
use Rattle.csa_scan.specs.Reach.{id_at}
use Rattle.csa_scan.specs.declared.trace.Boarding.{Boarding}
use Rattle.csa_scan.specs.declared.trace.Near.{Near}
use Rattle.csa_scan.specs.declared.trace.Ready.{Ready}

-- one is at the stop then: from the begin of the question that is nearest to it, or it is ready after an arrival
abbrev pub IsThere : Query → List (Option Near) → List (Option Ready) → ℕ → ℕ → Option ℕ → Type 0
IsThere query starts ready stop at None = (n : Near) × (slice_get starts stop ≡ Some (Some n)) × (query.leave + n.seconds ≤ at)
IsThere query starts ready stop at (Some place) = (r : Ready) × (slice_get ready stop ≡ Some (Some r)) × (r.after ≡ place) × (r.at ≤ at)

-- one is not at the stop then
pub record IsNotThere (query : Query) (starts : List (Option Near)) (ready : List (Option Ready)) (stop at : ℕ) : Type 0 where
  pub not_from : (n : Near) → slice_get starts stop ≡ Some (Some n) → query.leave + n.seconds ≤ at → ⊥
  pub not_ready : (r : Ready) → slice_get ready stop ≡ Some (Some r) → r.at ≤ at → ⊥

-- the connection can be boarded, so
pub record IsFirstBoarding (query : Query) (doc : StopsDoc) (starts : List (Option Near)) (ready : List (Option Ready)) (c : Connection) (b : Boarding) : Type 0 where
  pub within : b.stop < length doc.stops
  pub seq : b.seq ≡ c.seq
  pub stop : id_at doc.stops b.stop ≡ c.dep_stop
  pub dep : b.dep ≡ c.dep
  pub is_there : IsThere query starts ready b.stop c.dep b.after

-- the connection cannot be boarded
abbrev pub CannotBoard : Query → StopsDoc → List (Option Near) → List (Option Ready) → Connection → Type 0
CannotBoard query doc starts ready c = (stop : ℕ) → stop < length doc.stops → id_at doc.stops stop ≡ c.dep_stop → IsNotThere query starts ready stop c.dep

-- the run is not boarded, and cannot be at this connection
pub record StaysOff (query : Query) (doc : StopsDoc) (starts : List (Option Near)) (kept : Kept) (run : ℕ) (c : Connection) : Type 0 where
  pub not_boarded : slice_get kept.boardings run ≡ Some None
  pub cannot : c.board ≡ true → CannotBoard query doc starts kept.ready c

-- the run is boarded so already, or is now at this connection
abbrev pub GetsOn : Query → StopsDoc → List (Option Near) → Kept → ℕ → Connection → Boarding → Type 0
GetsOn query doc starts kept run c b =
    (slice_get kept.boardings run ≡ Some (Some b))
    ⊎ ((slice_get kept.boardings run ≡ Some None) × (c.board ≡ true) × IsFirstBoarding query doc starts kept.ready c b)
