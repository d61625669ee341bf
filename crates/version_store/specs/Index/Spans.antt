-- The states of runs, each with its span of version numbers, and which of them hold in a version.
use Rattle.std.specs.Prelude.{ℕ, ◌&&◌, nat_le, List, Bool, map, filter}
use Rattle.lc_model.specs.declared.run.Run.{Run}
use Rattle.lc_model.specs.Versions.Pages.{is_before}
use Rattle.version_store.specs.declared.index.state.State.{State}

-- the state holds in a version: from the number at which it begins, and before the one at which it ends
abbrev pub holds : ℕ → State → Bool
holds version state = nat_le state.begin version && is_before state.end version

-- the run that has this state
abbrev pub run_of : State → Run
run_of state = record { key = state.key; calls = state.calls }

-- the runs whose states hold in a version
abbrev pub held : ℕ → List State → List Run
held version states = map run_of (filter (holds version) states)

-- what an index stands for: the states of the runs of all versions, and the number of the newest version
pub record Indexed : Type 0 where
  pub states : List State
  pub newest : ℕ

-- the runs of a version
abbrev pub runs_at : Indexed → ℕ → List Run
runs_at index version = held version index.states
