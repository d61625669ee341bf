use Rattle.std.proofs.Common.{ℕ, List, Bool, map, take}
use Rattle.lc_model.specs.Versions.News.{EntitySaid}
use Rattle.version_store.specs.Filed.{AreOut, ArePart, HasBy, HasListsBy, spots_at}
use Rattle.version_store.specs.Kept.{entity_said}
use Rattle.version_store.proofs.filed.put_all_staying.Given as goal

abbrev pub invariant-touched : goal.invariant-touched
invariant-touched l = record {
  has : HasListsBy l.by (map entity_said (take l.marked-index l.touched)) l.patch;
  part : (out : List ℕ → Bool) (entities : List EntitySaid) → AreOut l.ids out → HasBy l.by l.admitted (spots_at l.base) entities
      → ArePart l.by l.admitted out entities l.initial.patch → ArePart l.by l.admitted out entities l.patch;
}
