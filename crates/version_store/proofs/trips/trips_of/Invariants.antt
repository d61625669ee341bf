use Rattle.std.proofs.Common.{◌≡◌, ◌⊎◌, true}
use Rattle.std.specs.List.{Contains}
use Rattle.lc_model.specs.declared.key.RunKey.{RunKey}
use Rattle.version_store.specs.Filed.{has_text}
use Rattle.version_store.proofs.trips.trips_of.Given as goal

abbrev pub invariant-loop-key : goal.invariant-loop-key
invariant-loop-key l = (k : RunKey) → Contains l.keys.keys k → Contains l.key-iterator k ⊎ (has_text l.trips k.trip ≡ true)
