use Rattle.std.proofs.Common.{◌≡◌, ◌++◌, map}
use Rattle.version_store.proofs.FurtherLemmas.{run_of}
use Rattle.version_store.proofs.live_runs.runs_in.Given as goal

abbrev pub invariant-entries : goal.invariant-entries
invariant-entries l = l.runs.items ++ map run_of l.key-iterator ≡ map run_of l.fn.live.entries
