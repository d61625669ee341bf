use Rattle.std.proofs.Common.{◌-◌, length, refl, arith}
use Rattle.std.specs.Prelude.{slice_range}
use Rattle.std.proofs.lemmas.Result.{err_from_is_err_and}
use Rattle.rt_protobuf.specs.Held.{held_content}
use Rattle.rt_protobuf.proofs.StepsLemmas.{ok_or_err}
use Rattle.rt_protobuf.proofs.FieldsLemmas.{field_fails, broken_again}
use Rattle.rt_protobuf.proofs.PlacesLemmas.{behind_within, lands, no_parts, breaks, is_field_at, begins_with, fits_before, one_fault}
use Rattle.rt_protobuf.proofs.reading.next_field.Goals as goal

pub returns-then-from-to-clause-parts : goal.returns-then-from-to-clause-parts
returns-then-from-to-clause-parts c = no_parts c.args.bytes.now c.args.from c.args.to (omega arith)

pub returns-in_err-number-clause-fault : goal.returns-in_err-number-clause-fault
returns-in_err-number-clause-fault c =
    let p = err_from_is_err_and c.from_residual.result c.from_residual.ensures.1 in
    rw (p.1, p.2) (field_fails c.args.from (slice_range c.args.bytes.now c.args.from c.args.to) c.in_err-number.field-0.0 c.in_err-number.ensures)

pub returns-in_err-number-clause-parts : goal.returns-in_err-number-clause-parts
returns-in_err-number-clause-parts c =
    let p = err_from_is_err_and c.from_residual.result c.from_residual.ensures.1 in
    rw (p.1, p.2) (breaks c.args.bytes.now c.args.from c.args.to c.in_err-number.field-0.0 (omega arith) c.requires.within c.in_err-number.ensures)

pub overflow_sub-next : goal.overflow_sub-next
overflow_sub-next c =
    behind_within c.args.bytes.now c.args.from c.args.to (record { number = c.in_ok-number.number; content = held_content c.in_ok-number.held }) c.in_ok-number.behind.now c.requires.order c.requires.within c.in_ok-number.ensures

pub ending_before-value-requires : goal.ending_before-value-requires
ending_before-value-requires c =
    fits_before c.args.bytes.now c.args.from c.args.to (c.args.to - length c.in_ok-number.behind.now) c.in_ok-number.number (held_content c.in_ok-number.held) c.in_ok-number.behind.now c.requires.within (lands _ _ _ _ _ _ c.requires.order c.requires.within refl c.in_ok-number.ensures)

pub returns-clause-found : goal.returns-clause-found
returns-clause-found c =
    is_field_at c.args.bytes.now c.args.from c.args.to (c.args.to - length c.in_ok-number.behind.now) c.in_ok-number.number c.ending_before-value.result (held_content c.in_ok-number.held) c.in_ok-number.behind.now c.requires.within (lands _ _ _ _ _ _ c.requires.order c.requires.within refl c.in_ok-number.ensures) c.ending_before-value.ensures

pub returns-clause-parts : goal.returns-clause-parts
returns-clause-parts c =
    begins_with c.args.bytes.now c.args.from c.args.to (c.args.to - length c.in_ok-number.behind.now) c.in_ok-number.number c.ending_before-value.result (held_content c.in_ok-number.held) c.in_ok-number.behind.now c.requires.within (lands _ _ _ _ _ _ c.requires.order c.requires.within refl c.in_ok-number.ensures) c.ending_before-value.ensures

pub returns-then-from-to-clause-only_fault : goal.returns-then-from-to-clause-only_fault
returns-then-from-to-clause-only_fault c = λ fault order b. absurd (omega arith)

pub returns-in_err-number-clause-only_fault : goal.returns-in_err-number-clause-only_fault
returns-in_err-number-clause-only_fault c =
    let p = err_from_is_err_and c.from_residual.result c.from_residual.ensures.1 in
    λ fault order b. rw (p.1, p.2) (one_fault c.args.from (slice_range c.args.bytes.now c.args.from c.args.to) c.in_err-number.field-0.0 fault c.in_err-number.ensures b)

pub returns-clause-only_fault : goal.returns-clause-only_fault
returns-clause-only_fault c = λ fault order b. absurd (ok_or_err _ _ fault c.in_ok-number.ensures (broken_again c.args.from (slice_range c.args.bytes.now c.args.from c.args.to) fault b))
