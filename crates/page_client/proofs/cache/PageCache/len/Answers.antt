use Rattle.std.proofs.Common.{◌≤◌, length, arith}
use Rattle.page_client.specs.Kept.{IsWithin, Kept}
use Rattle.page_client.proofs.EntriesLemmas.{length-values, values}
use Rattle.page_client.proofs.KeyLemmas.{IsDistinct-names, key_of_page}
use Rattle.page_client.proofs.cache.PageCache.len.Goals as goal

pub returns-clause-within : goal.returns-clause-within
returns-clause-within c =
    let h = c.len.ensures.valid in let es = c.self.inside.pages.entries in
    let most : length (values key_of_page es) ≤ c.self.inside.pages.cap = omega (arith, length-values key_of_page es, h.1) in
    rw (← c.self.view_is) (record { distinct = IsDistinct-names es c.self.invariant h.0; most = most })
