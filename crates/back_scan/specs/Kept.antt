-- What the progress of a scan keeps, as lists.
use Rattle.std.specs.Prelude.{◌≡◌, ℕ, List, [], ◌++◌, Option, None, replicate}
use Rattle.back_scan.specs.declared.progress.Progress.{Progress}
use Rattle.back_scan.specs.declared.trace.Alighting.{Alighting}
use Rattle.back_scan.specs.declared.trace.Departure.{Departure}
use Rattle.back_scan.specs.declared.trace.Start.{Start}

-- the alightings by run, the departures by stop, and the best start
pub record Kept : Type 0 where
  pub alightings : List (Option Alighting)
  pub departures : List (Option Departure)
  pub best : Option Start

-- the progress without its room
abbrev pub kept_of : Progress → Kept
kept_of p = record { alightings = p.alightings.items; departures = p.departures.items; best = p.best }

-- nothing is known of so many stops
abbrev pub nothing_of : ℕ → Kept
nothing_of stops = record { alightings = []; departures = replicate stops None; best = None }

-- there are more runs, none of them left, and all else is the same
pub record AddsRuns (old new : Kept) : Type 0 where
  pub more : ℕ
  pub is : new ≡ record old { alightings = old.alightings ++ replicate more None }
