-- What the progress of a scan keeps, as lists.
use Rattle.std.specs.Prelude.{◌≡◌, ℕ, ◌+◌, ◌≤◌, List, ◌++◌, Option, None, length, replicate, vec_len, vec_capacity}
use Rattle.csa_scan.specs.declared.progress.Progress.{Progress}
use Rattle.csa_scan.specs.declared.trace.Arrival.{Arrival}
use Rattle.csa_scan.specs.declared.trace.Boarding.{Boarding}
use Rattle.csa_scan.specs.declared.trace.Goal.{Goal}
use Rattle.csa_scan.specs.declared.trace.Ready.{Ready}

-- the boardings by run, the ready and reached moments by stop, the arrivals, and the best one
pub record Kept : Type 0 where
  pub boardings : List (Option Boarding)
  pub ready : List (Option Ready)
  pub reached : List (Option ℕ)
  pub arrivals : List Arrival
  pub best : Option Goal

-- the progress without its room
abbrev pub kept_of : Progress → Kept
kept_of p = record {
  boardings = p.boardings.items;
  ready = p.ready.items;
  reached = p.reached.items;
  arrivals = p.arrivals.items;
  best = p.best;
}

-- there is room for so many runs and so many arrivals more
pub record HasRoom (p : Progress) (runs arrivals : ℕ) : Type 0 where
  pub each_run : length p.boardings.items ≡ runs
  pub arrivals_more : vec_len p.arrivals + arrivals ≤ vec_capacity p.arrivals

-- there are more runs, none of them boarded, and all else is the same
pub record AddsRuns (old new : Kept) : Type 0 where
  pub more : ℕ
  pub is : new ≡ record old { boardings = old.boardings ++ replicate more None }
