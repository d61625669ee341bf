use Rattle.std.proofs.lemmas.Result.{on_ok_weaker}
use Rattle.version_store.specs.IndexLaws.Kept.{news_in}
use Rattle.version_store.proofs.ChangesLemmas.{turned_by}
use Rattle.version_store.proofs.indexed.turn.Goals as goal

pub update_by-requires-clause-forward : goal.update_by-requires-clause-forward
update_by-requires-clause-forward c = c.in_ok-changes.ensures.forward

pub returns-clause-ok : goal.returns-clause-ok
returns-clause-ok c =
    on_ok_weaker c.update_by.result
    (λ updated before after has_before has_after differ.
    turned_by c.args.runs.now c.args.stops.now (news_in before) (news_in after) c.requires.in_order c.in_ok-changes.changes c.args.index.now c.update_by.new.index
    (c.in_ok-changes.ensures.changes before after has_before has_after differ) updated)
    c.update_by.ensures.ok
