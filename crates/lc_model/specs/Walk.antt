-- Walks at the ends of a journey: from a stop where the question may begin to the first ride, or from the last ride.
-- The latter leads to a stop where the question may end. Each is by a change between the two stops.
use Rattle.std.specs.Prelude.{◌≡◌, ◌≢◌, ℕ, ◌<◌, ◌⊎◌, List, Option, Some, None}
use Rattle.std.specs.declared.cmp.Ordering.TheVariants.{Greater}
use Rattle.lc_model.specs.Change.{change_between}
use Rattle.lc_model.specs.Question.{IsFrom, IsTo}
use Rattle.lc_model.specs.Text.{id_cmp}
use Rattle.lc_model.specs.declared.doc.StopsDoc.{StopsDoc}
use Rattle.lc_model.specs.declared.query.Query.{Query}
use Rattle.lc_model.specs.declared.walk.Walk.{Walk}

-- the stop comes before another one that takes so long: it takes less, or as long and its bytes are no greater
abbrev pub IsNearer : List ℕ → ℕ → List ℕ → ℕ → Type 0
IsNearer stop seconds other longer = (seconds < longer) ⊎ ((seconds ≡ longer) × (id_cmp stop other ≢ Greater))

-- Of the ends of a question, each of which takes some seconds where there is a change, this stop takes least. Of several
-- it is the first by bytes.
pub record IsNearest (IsAnEnd : List ℕ → Type 0) (takes : List ℕ → Option ℕ) (stop : List ℕ) (seconds : ℕ) : Type 0 where
  pub is_an_end : IsAnEnd stop
  pub takes_so_long : takes stop ≡ Some seconds
  pub none_is_nearer : (other : List ℕ) (longer : ℕ) → IsAnEnd other → takes other ≡ Some longer → IsNearer stop seconds other longer

-- The walk to the stop where the first ride boards. There is none where the question may begin there, else the one from the
-- nearest stop where it may.
abbrev pub IsWalkBefore : Query → StopsDoc → List ℕ → Option Walk → Type 0
IsWalkBefore query doc board None = IsFrom doc.stops query board
IsWalkBefore query doc board (Some walk) =
    (IsFrom doc.stops query board → ⊥) × (walk.to ≡ board)
    × IsNearest (IsFrom doc.stops query) (λ stop. change_between doc.changes stop board) walk.from walk.seconds

-- The walk from the stop where the last ride alights. There is none where the question may end there, else the one to the nearest
-- stop where it may.
abbrev pub IsWalkAfter : Query → StopsDoc → List ℕ → Option Walk → Type 0
IsWalkAfter query doc alight None = IsTo doc.stops query alight
IsWalkAfter query doc alight (Some walk) =
    (IsTo doc.stops query alight → ⊥) × (walk.from ≡ alight)
    × IsNearest (IsTo doc.stops query) (λ stop. change_between doc.changes alight stop) walk.to walk.seconds

-- the seconds of a walk, none for no walk
abbrev pub seconds_of : Option Walk → ℕ
seconds_of None = 0
seconds_of (Some walk) = walk.seconds
