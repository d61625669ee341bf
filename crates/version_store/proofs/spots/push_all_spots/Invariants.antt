use Rattle.std.proofs.Common.{◌≡◌, ◌++◌, map, take}
use Rattle.std.specs.List.{filter_map}
use Rattle.version_store.specs.Kept.{entity_said}
use Rattle.version_store.specs.Spots.{said_in}
use Rattle.version_store.proofs.spots.push_all_spots.Given as goal

abbrev pub invariant-spots : goal.invariant-spots
invariant-spots l = map entity_said l.marks.items ≡ map entity_said l.initial.marks.items ++ filter_map (said_in l.admitted) (take l.spot-index l.spots)
