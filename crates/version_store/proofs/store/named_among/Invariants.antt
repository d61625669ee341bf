use Rattle.std.proofs.Common.{◌≡◌, drop, filter}
use Rattle.lc_model.specs.Versions.Named.{is_by, last_of}
use Rattle.version_store.proofs.store.named_among.Given as goal

abbrev pub invariant-later : goal.invariant-later
invariant-later l = last_of l.named (filter (is_by l.known) (drop l.version-index l.later)) ≡ last_of l.fn.base (filter (is_by l.known) l.later)
