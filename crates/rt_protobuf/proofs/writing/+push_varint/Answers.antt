use Rattle.std.proofs.Common.{◌++◌, ◌-◌, ◌/◌, ◌∙◌, List, ℕ, ap, append_assoc, arith, sym}
use Rattle.std.proofs.lemmas.Result.{on_ok_weaker}
use Rattle.rt_protobuf.specs.Writing.{varint_within}
use Rattle.rt_protobuf.proofs.WritingLemmas.{one_more}
use Rattle.rt_protobuf.proofs.writing.+push_varint.Goals as goal

pub returns-clause-appended : goal.returns-clause-appended
returns-clause-appended t c =
    let rest : List ℕ = varint_within (c.args.left - 1) (c.args.number / 128) in
    on_ok_weaker c.push_varint.result (λ e.
    e ∙ ap (λ (front : List ℕ). front ++ rest) c.in_ok-push-2.ensures.items ∙ append_assoc c.args.out.now.items _ rest
    ∙ ap (λ (text : List ℕ). c.args.out.now.items ++ text) (sym (one_more c.args.left c.args.number (omega arith) (omega arith)))) c.push_varint.ensures.appended
