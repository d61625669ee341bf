use Rattle.std.proofs.Common.{◌∙◌, ap, filter, map, sym}
use Rattle.version_store.specs.Filed.{is_by, spots_at, stays_at}
use Rattle.version_store.specs.Spots.{said_in}
use Rattle.version_store.proofs.FiledLemmas.{part_put, put_has, put_stays, some_at, staying_said}
use Rattle.version_store.proofs.filed.put_staying.Goals as goal

pub returns-then-contains_key-clause-has : goal.returns-then-contains_key-clause-has
returns-then-contains_key-clause-has c = some_at c.args.patch.now c.in_ok-label.label c.args.text.now c.in_ok-label.ensures (sym c.contains_key.ensures ∙ c.if-contains_key.true)

pub returns-clause-has : goal.returns-clause-has
returns-clause-has c = put_has c.in_ok-label.label c.args.text.now c.in_ok-kept.kept c.args.patch.now c.insert.new.self (λ q. c.in_ok-insert.ensures.updates.0 q) c.in_ok-label.ensures

pub returns-clause-stay : goal.returns-clause-stay
returns-clause-stay c = put_stays c.in_ok-label.label c.in_ok-kept.kept c.args.patch.now c.insert.new.self (λ q. c.in_ok-insert.ensures.updates.0 q)

pub returns-clause-part : goal.returns-clause-part
returns-clause-part c = λ by out entities are has part.
    let admitted = c.args.admitted.now in
    let label = c.in_ok-label.label in
    let said = ap (map (said_in admitted)) (c.in_ok-kept.ensures out are ∙ ap (filter (stays_at admitted out)) c.spots_at.ensures)
    ∙ staying_said admitted out (spots_at c.args.base.now label) (filter (is_by by label) entities) (has label) in
    part_put by admitted out entities label c.in_ok-kept.kept c.args.patch.now c.insert.new.self (λ q. c.in_ok-insert.ensures.updates.0 q) said part
