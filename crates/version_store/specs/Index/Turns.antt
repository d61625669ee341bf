-- What becomes of the state of a run that ends, and of that of one that begins.
use Rattle.std.specs.Prelude.{ℕ, Some, None}
use Rattle.lc_model.specs.declared.run.Run.{Run}
use Rattle.version_store.specs.declared.index.state.State.{State}

-- the state of a run that holds in no version yet
abbrev pub closed_state : Run → State
closed_state run = record { key = run.key; calls = run.calls; begin = 0; end = Some 0 }

-- the state, which ends at this version
abbrev pub ended : ℕ → State → State
ended version state = record { key = state.key; calls = state.calls; begin = state.begin; end = Some version }

-- the state, which begins at this version
abbrev pub begun : ℕ → State → State
begun version state = record { key = state.key; calls = state.calls; begin = version; end = None }
