use Rattle.std.proofs.Common.{ap, inl}
use Rattle.page_relay.specs.Exchanger.{MemoryState}
use Rattle.page_relay.proofs.keeper.Keeper.keep.Goals as goal

pub put-requires : goal.put-requires
put-requires c = rw (← c.self.view_is) at c.requires

pub returns-in_ok-put-clause-kept : goal.returns-in_ok-put-clause-kept
returns-in_ok-put-clause-kept c =
    let keep = rw c.as_slice.ensures at c.in_ok-is_to_keep.ensures.0 c.if-branch.true in
    rw (← c.self.view_is) (inl (keep, ap (λ (m : MemoryState). m.kept) c.in_ok-put.ensures.put))
