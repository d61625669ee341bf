use Rattle.std.proofs.Common.{ℕ, List, ap, ◌∙◌}
use Rattle.lru.specs.LruCache.{LruCache}
use Rattle.page_relay.specs.Kept.{Kept}
use Rattle.page_relay.specs.Exchanger.{MemoryState}
use Rattle.page_relay.specs.declared.sent.SentRequest.{SentRequest}
use Rattle.page_relay.proofs.MemoryLemmas.{put_is}
use Rattle.page_relay.proofs.memory.Memory.put.Goals as goal

pub returns-clause-put : goal.returns-clause-put
returns-clause-put c =
    let held = c.self.inside.replies in
    let put = put_is held c.args.sent c.args.reply c.len-held.ensures.valid.2 (rw (← c.self.view_is) at c.requires) in
    rw (← c.self.view_is) (ap (λ (end : LruCache SentRequest (List ℕ)). let state : MemoryState = record { entries = end.cap; kept = end.entries } in state) c.in_ok-put.ensures.entries
    ∙ ap (λ (kept : List Kept). let state : MemoryState = record { entries = held.cap; kept = kept } in state) put)
