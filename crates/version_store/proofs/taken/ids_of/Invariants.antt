use Rattle.std.proofs.Common.{take}
use Rattle.version_store.specs.IndexLaws.Kept.{has_id}
use Rattle.version_store.specs.Filed.{AreOut}
use Rattle.version_store.proofs.taken.ids_of.Given as goal

abbrev pub invariant-entities : goal.invariant-entities
invariant-entities l = AreOut l.ids (λ id. has_id id (take l.entity-index l.entities))
