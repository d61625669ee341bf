use Rattle.std.proofs.Common.{ℕ, List, Bool, map}
use Rattle.lc_model.specs.Versions.News.{EntitySaid}
use Rattle.version_store.specs.Filed.{AreOut, HasBy, spots_at}
use Rattle.version_store.specs.Kept.{entity_said}
use Rattle.version_store.specs.declared.filed.By.TheVariants.{Id}
use Rattle.version_store.proofs.TakenLemmas.{AreGoneSoFar}
use Rattle.version_store.proofs.taken.entities_of_ids.Given as goal

abbrev pub invariant-loop-id : goal.invariant-loop-id
invariant-loop-id l =
    (out : List ℕ → Bool) (entities : List EntitySaid) → AreOut l.ids out → HasBy Id l.admitted (spots_at l.filed) entities → AreGoneSoFar out entities l.id-iterator (map entity_said l.gone.items)
