-- The changes stop by stop, in the order of the stops.
use Rattle.std.specs.Prelude.{ℕ, max, List, Option, option_map}
use Rattle.std.specs.List.{filter_map, flat_map}
use Rattle.std.proofs.Math.Nat.{le-max_left}
use Rattle.lc_model.specs.declared.change.Change.{Change}
use Rattle.lc_model.specs.declared.stop.Stop.{Stop}

-- a change that takes these seconds, or one where that is none
abbrev pub timed_change : List ℕ → List ℕ → ℕ → Change
timed_change from to seconds =
    record { from = from; to = to; seconds = max 1 seconds; takes_time = le-max_left 1 seconds }

-- the changes from a stop to some of these, where each has these seconds
abbrev pub changes_to : (Stop → Option ℕ) → Stop → List Stop → List Change
changes_to seconds from tos = filter_map (λ (to : Stop). option_map (timed_change from.id to.id) (seconds to)) tos

-- the changes from some stops to some of these
abbrev pub changes_among : (Stop → Stop → Option ℕ) → List Stop → List Stop → List Change
changes_among seconds froms tos = flat_map (λ (from : Stop). changes_to (seconds from) from tos) froms
