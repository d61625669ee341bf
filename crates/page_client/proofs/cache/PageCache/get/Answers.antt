use Rattle.std.proofs.Common.{◌≡◌, refl, sym, ap, ◌∙◌, subst, List}
use Rattle.lru.specs.LruCache.{LruCache, lru_cache, promoted}
use Rattle.page_json.specs.declared.page.Page.{Page}
use Rattle.page_client.specs.Inside.{AreKeyed, key_of}
use Rattle.page_client.specs.Kept.{Kept, has_name, page_named, with_used}
use Rattle.page_client.specs.declared.cache.Key.{Key}
use Rattle.page_client.proofs.EntriesLemmas.{AreKept-promoted, lookup-find, values, values-promoted}
use Rattle.page_client.proofs.KeyLemmas.{agree, key_of_page, key_tests, same_keys}
use Rattle.page_client.proofs.cache.PageCache.get.Goals as goal

pub invariant_of-self : goal.invariant_of-self
invariant_of-self c =
    let test = same_keys c.key_of.result in
    subst (λ (end : LruCache Key Page). AreKeyed end.entries) (sym c.get.follows.holds-at-none) (AreKept-promoted key_of_page test (λ (page : Page). test (key_of_page page)) (λ _. refl) c.self.inside.pages.entries c.self.invariant)

pub returns : goal.returns
returns c =
    let name = c.args.name in let test = same_keys (key_of name) in let es = c.self.inside.pages.entries in let cap = c.self.inside.pages.cap in
    let view : LruCache Key Page → Kept = λ end. record { capacity = end.cap; pages = values key_of_page end.entries } in
    let found = lookup-find key_of_page test (has_name name) (agree name) es c.self.invariant in
    let moved = values-promoted key_of_page test (has_name name) (agree name) same_keys (key_tests (key_of name)) es c.self.invariant c.len-held.ensures.valid.0 in
    let ends = ap view (rw c.key_of.ensures at c.get.follows.holds-at-none) in
    let got = rw c.key_of.ensures at c.get.ensures.value in
    rw (← c.self.view_is) ((refl, λ _. tt, ends ∙ ap (λ (pages : List Page). let kept : Kept = record { capacity = cap; pages = pages } in kept) moved), record { used = tt; page = got ∙ found })
