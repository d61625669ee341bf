use Rattle.std.proofs.Common.{ℕ, ap, sym, ◌∙◌, ◌+◌, take, drop}
use Rattle.http_text.proofs.PlaceLemmas.{found, to_end, all_before, none_after}
use Rattle.http_text.proofs.target.split_at_mark.Goals as goal

pub returns-in-Some-clause-before : goal.returns-in-Some-clause-before
returns-in-Some-clause-before c =
    ap (λ (n : ℕ). take n c.args.bytes.now) (found 63 c.args.bytes.now _ c.in-Some.ensures.first).0

pub returns-in-Some-clause-after : goal.returns-in-Some-clause-after
returns-in-Some-clause-after c =
    to_end c.in-Some.at c.args.bytes.now ∙ ap (λ (n : ℕ). drop (n + 1) c.args.bytes.now) (found 63 c.args.bytes.now _ c.in-Some.ensures.first).0

pub returns-in-None-clause-before : goal.returns-in-None-clause-before
returns-in-None-clause-before c = sym (all_before 63 c.args.bytes.now (found 63 c.args.bytes.now _ c.in-None.ensures.first))

pub returns-in-None-clause-after : goal.returns-in-None-clause-after
returns-in-None-clause-after c = sym (none_after 63 c.args.bytes.now (found 63 c.args.bytes.now _ c.in-None.ensures.first))
