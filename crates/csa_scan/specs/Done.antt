-- When a scan is done.
use Rattle.std.specs.Prelude.{ℕ, ◌≤◌, Option, Some, None}
use Rattle.lc_model.specs.Question.{latest_of}
use Rattle.lc_model.specs.declared.query.Query.{Query}

-- the moment is at or after the best arrival, or the last second of the horizon where there is none
abbrev pub IsDone : Query → Option ℕ → ℕ → Type 0
IsDone query None last = latest_of query ≤ last
IsDone query (Some arrival) last = arrival ≤ last
