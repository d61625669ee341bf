use Rattle.std.proofs.Common.{◌++◌, ◌∙◌, ◌+◌, ◌*◌, ℕ, List, ap}
use Rattle.rt_protobuf.specs.Writing.{field_text}
use Rattle.cli_drill.specs.Messages.{moment_of}
use Rattle.cli_drill.proofs.EntriesLemmas.{header_field, more_entities, no_entity}
use Rattle.cli_drill.proofs.messages.message_of.Goals as goal

pub entities-init : goal.entities-init
entities-init c =
    no_entity c.args.seed c.args.message (field_text (header_field (moment_of c.args.message))) c.put_header.new.bytes.items
    (c.in_ok-put_header.ensures ∙ ap (λ (bytes : List ℕ). bytes ++ field_text (header_field (1_714_543_200 + 600 * c.from.result))) c.new-bytes.ensures.items
    ∙ ap (λ (number : ℕ). field_text (header_field (1_714_543_200 + 600 * number))) c.from.ensures)

pub entities-preserved : goal.entities-preserved
entities-preserved c =
    more_entities c.args.seed c.args.message c.entities.entity c.late_at.result (field_text (header_field (moment_of c.args.message))) c.entities.bytes.items c.put_entity.new.bytes.items
    c.entities.invariant c.late_at.ensures c.in_ok-put_entity.ensures
