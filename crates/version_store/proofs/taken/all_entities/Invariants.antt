use Rattle.std.proofs.Common.{List, map}
use Rattle.lc_model.specs.Versions.News.{EntitySaid}
use Rattle.version_store.specs.Filed.{HasBy, spots_at}
use Rattle.version_store.specs.Kept.{entity_said}
use Rattle.version_store.specs.declared.filed.By.{By}
use Rattle.version_store.proofs.TakenLemmas.{AllGoSoFar}
use Rattle.version_store.proofs.taken.all_entities.Given as goal

abbrev pub invariant-loop-spots : goal.invariant-loop-spots
invariant-loop-spots l = (by : By) (entities : List EntitySaid) → HasBy by l.admitted (spots_at l.filed) entities → AllGoSoFar by entities l.filed l.spots-iterator (map entity_said l.gone.items)
