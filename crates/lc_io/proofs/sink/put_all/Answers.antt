-- One more write takes the next bytes.
use Rattle.std.proofs.Common.{◌≡◌, ℕ, ◌-◌, List, drop, take, length, arith, ap, ◌∙◌, length-drop}
use Rattle.std.proofs.lemmas.List.{take_rest}
use Rattle.lc_io.specs.Sink.{written_after}
use Rattle.lc_io.proofs.WrittenLemmas.{written_after-more}
use Rattle.lc_io.proofs.sink.put_all.Goals as goal

pub loop-done-preserved : goal.loop-done-preserved
loop-done-preserved g c =
    let bytes : List ℕ = c.args.bytes.now in
    let before = (g.S.Sink.seen c.args.sink.now).written in
    let m : ℕ = c.loop-done.done in
    let n : ℕ = c.in_ok-done.field-0 in
    let rest : take (length bytes - m) (drop m bytes) ≡ drop m bytes = take_rest bytes m in
    record {
      within = omega (arith, c.in_ok-done.ensures.at_most, ap length rest, length-drop m bytes);
      written = c.in_ok-done.ensures.written
          ∙ (ap (λ w. written_after w (take (length bytes - m) (drop m bytes)) n) c.loop-done.invariant.written
          ∙ (ap (λ piece. written_after (written_after before bytes m) piece n) rest
          ∙ written_after-more before bytes m n));
      not_fallen = omega (arith, c.loop-done.invariant.not_fallen, c.in_ok-done.ensures.faults.not_fallen);
      wants = omega (arith, c.loop-done.invariant.wants, c.in_ok-done.ensures.wants.not_fallen);
    }
