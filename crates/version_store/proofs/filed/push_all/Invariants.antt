use Rattle.std.proofs.Common.{take}
use Rattle.version_store.specs.Filed.{PushesAllAt}
use Rattle.version_store.proofs.filed.push_all.Given as goal

abbrev pub invariant-own : goal.invariant-own
invariant-own l = PushesAllAt l.by (take l.marked-index l.own) l.initial.patch l.patch
