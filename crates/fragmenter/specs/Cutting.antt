-- The cuts of the way that is chosen.
use Rattle.std.specs.Prelude.{ℕ, List}
use Rattle.fragmenter.specs.Ways.{count_cuts, span_cuts, whole_cuts}
use Rattle.fragmenter.specs.declared.cutting.Cutting.{Cutting}
use Rattle.fragmenter.specs.declared.cutting.Cutting.TheVariants as ways

-- the cuts of the chosen way
abbrev pub chosen_cuts : Cutting → List ℕ → List ℕ
chosen_cuts (ways.Span way) departures = span_cuts way.seconds departures
chosen_cuts (ways.Count way) departures = count_cuts way.count departures
chosen_cuts ways.Whole departures = whole_cuts departures
