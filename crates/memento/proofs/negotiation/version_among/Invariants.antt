use Rattle.std.proofs.Common.{◌≡◌, drop, filter}
use Rattle.lc_model.specs.Versions.Named.{is_by, last_of}
use Rattle.memento.proofs.VersionsLemmas.{base_of}
use Rattle.memento.proofs.negotiation.version_among.Given as goal

abbrev pub invariant-loop-version : goal.invariant-loop-version
invariant-loop-version l =
    last_of l.named (filter (is_by l.known) (drop l.version-index l.versions)) ≡ last_of (base_of l.versions) (filter (is_by l.known) l.versions)
