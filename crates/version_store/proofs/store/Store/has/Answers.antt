use Rattle.std.proofs.Common.{ℕ, ◌<◌, ◌∙◌, List, ap, subst, sym}
use Rattle.std.specs.List.{AllPairs}
use Rattle.version_store.specs.Store.{versions_of}
use Rattle.version_store.proofs.VersionLemmas.{TellsVersion, version_search}
use Rattle.version_store.proofs.store.Store.has.Goals as goal

pub returns : goal.returns
returns c =
    let versions = c.as_slice.ensures.value ∙ c.self.invariant.versions in
    let rising = subst (λ (v : List ℕ). AllPairs (λ (x y : ℕ). x < y) v) (sym versions) c.self.invariant.rising in
    let tells = version_search c.as_slice.result.now c.args.version c.binary_search.result c.is_ok.result c.binary_search.ensures.bound c.binary_search.ensures.position rising c.is_ok.ensures.value in
    subst (λ (v : List ℕ). TellsVersion v c.args.version c.is_ok.result) (versions ∙ ap versions_of c.self.view_is) tells
