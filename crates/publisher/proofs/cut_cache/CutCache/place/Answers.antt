use Rattle.std.proofs.Common.{Global, List, Vec, nat_eq, subst, sym, ℕ}
use Rattle.std.specs.List.{Contains}
use Rattle.lru.proofs.CallerLemmas.{Contains-lookup}
use Rattle.publisher.specs.Place.{AreRising}
use Rattle.publisher.proofs.cut_cache.CutCache.place.Goals as goal

pub place_of-requires : goal.place_of-requires
place_of-requires c =
    let cuts = c.in_ok-cuts.cuts.now in
    let found = Contains-lookup (nat_eq c.args.version) c.self.inside.cuts.entries cuts (sym c.in_ok-cuts.ensures.value) in
    let P : List (ℕ × Vec ℕ Global) → Type 0 = λ entries. Contains entries (found.0, cuts) in
    subst AreRising (sym c.as_slice.ensures.value) (c.requires found.0 cuts (subst P c.self.view_is found.1))
