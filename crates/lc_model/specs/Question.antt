-- What a question asks for: where a journey may begin and end, and when.
use Rattle.std.specs.Prelude.{◌≡◌, ℕ, List, ◌+◌, ◌⊎◌}
use Rattle.lc_model.specs.Stop.{IsChildOf}
use Rattle.lc_model.specs.declared.query.Query.{Query}
use Rattle.lc_model.specs.declared.stop.Stop.{Stop}

-- the stop is the named one or a child of it
abbrev pub IsEnd : List Stop → List ℕ → List ℕ → Type 0
IsEnd stops named stop = (stop ≡ named) ⊎ IsChildOf stops named stop

-- a journey may begin at this stop
abbrev pub IsFrom : List Stop → Query → List ℕ → Type 0
IsFrom stops query = IsEnd stops query.from

-- a journey may end at this stop
abbrev pub IsTo : List Stop → Query → List ℕ → Type 0
IsTo stops query = IsEnd stops query.to

-- the last second at which a journey may arrive
abbrev pub latest_of : Query → ℕ
latest_of query = query.leave + query.horizon
