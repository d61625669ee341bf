-- When a scan is done.
use Rattle.std.specs.Prelude.{ℕ, ◌≤◌, Option, Some, None}
use Rattle.lc_model.specs.declared.query.Query.{Query}

-- the moment is at or before the latest departure, or the first second of the horizon where there is none
abbrev pub IsOver : Query → Option ℕ → ℕ → Type 0
IsOver query None first = first ≤ query.leave
IsOver query (Some leaves) first = first ≤ leaves
