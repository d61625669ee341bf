use Rattle.std.proofs.Common.{◌≡◌, ◌⊎◌, inl, inr, refl, sym, ap, ◌∙◌, subst, List}
use Rattle.std.proofs.lemmas.List.Elements.{All-contains}
use Rattle.lc_model.proofs.ListLemmas.{All-from_contains}
use Rattle.lru.specs.LruCache.{LruCache, put_entries}
use Rattle.page_json.specs.declared.page.Page.{Page}
use Rattle.page_client.specs.Inside.{AreKeyed, key_of}
use Rattle.page_client.specs.Kept.{Kept, has_name}
use Rattle.page_client.specs.declared.cache.Key.{Key}
use Rattle.page_client.proofs.EntriesLemmas.{AreKept-put_entries, values, values-put_entries}
use Rattle.page_client.proofs.KeyLemmas.{agree, key_of_page, key_tests, same_keys, same_true}
use Rattle.page_client.proofs.cache.PageCache.put.Goals as goal

pub invariant_of-self-2 : goal.invariant_of-self-2
invariant_of-self-2 c =
    subst (λ (end : LruCache Key Page). AreKeyed end.entries) (sym c.in_ok-put.ensures.entries)
    (AreKept-put_entries key_of_page same_keys same_true c.self.inside.pages c.key_of.result c.args.page (sym c.key_of.ensures) c.self.invariant)

pub returns-clause-put : goal.returns-clause-put
returns-clause-put c =
    let page = c.args.page in let held = c.self.inside.pages in
    let view : LruCache Key Page → Kept = λ end. record { capacity = end.cap; pages = values key_of_page end.entries } in
    let valid = c.len-held.ensures.valid in
    let put = values-put_entries key_of_page same_keys held (key_of page.name) page (has_name page.name) (agree page.name) (key_tests (key_of page.name)) c.self.invariant valid.0 valid.1 valid.2 in
    let ends = ap view (rw c.key_of.ensures at c.in_ok-put.ensures.entries) in
    rw (← c.self.view_is) (ends ∙ ap (λ (pages : List Page). let kept : Kept = record { capacity = held.cap; pages = pages } in kept) put)
