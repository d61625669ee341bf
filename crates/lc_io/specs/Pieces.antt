-- The pieces in which bytes come.
use Rattle.std.specs.Prelude.{ℕ, List, [], ◌≢◌}
use Rattle.std.specs.List.{All}

-- no piece is empty
abbrev pub NoneIsEmpty : List (List ℕ) → Type 0
NoneIsEmpty pieces = All (λ piece. piece ≢ []) pieces
