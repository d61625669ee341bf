use Rattle.std.proofs.Common.{◌∙◌, ap}
use Rattle.lc_model.specs.Versions.History.{moments_of}
use Rattle.version_store.specs.Inside.{stored_of}
use Rattle.version_store.specs.Store.{newest_of}
use Rattle.version_store.proofs.VersionLemmas.{newest_last}
use Rattle.version_store.proofs.store.Store.newest.Goals as goal

pub returns-in-Some : goal.returns-in-Some
returns-in-Some c =
    let inside = c.self.inside in
    newest_last c.as_slice.result.now inside.base (moments_of (stored_of inside).history) c.in-Some.version.now (c.as_slice.ensures.value ∙ c.self.invariant.versions) c.in-Some.ensures.item.1
    ∙ ap newest_of c.self.view_is
