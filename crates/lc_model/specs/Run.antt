-- The runs of a timetable.
use Rattle.std.specs.Prelude.{List}
use Rattle.std.specs.List.{All}
use Rattle.std.specs.Ordering.{on}
use Rattle.lc_model.specs.Call.{GoesForward}
use Rattle.lc_model.specs.Order.{IsStrict}
use Rattle.lc_model.specs.RunKey.{key_cmp}
use Rattle.lc_model.specs.declared.run.Run.{Run}

-- runs are strictly in the order of their keys
abbrev pub InKeyOrder : List Run → Type 0
InKeyOrder runs = IsStrict (on (λ (r : Run). r.key) key_cmp) runs

-- no run goes back in time
abbrev pub RunsForward : List Run → Type 0
RunsForward runs = All (λ (r : Run). GoesForward r.calls) runs
