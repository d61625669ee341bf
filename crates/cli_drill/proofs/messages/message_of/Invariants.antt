use Rattle.std.specs.Prelude.{◌≡◌, ◌++◌}
use Rattle.rt_protobuf.specs.Grammar.{text}
use Rattle.rt_protobuf.specs.Writing.{field_text, fields_text}
use Rattle.cli_drill.specs.Messages.{entities_fields, header_fields, late_of, moment_of}
use Rattle.cli_drill.proofs.messages.message_of.Given as goal

abbrev pub invariant-entities : goal.invariant-entities
invariant-entities l =
    l.bytes.items ≡ field_text (record { number = 1; content = text (fields_text (header_fields (moment_of l.fn.message))) })
    ++ fields_text (entities_fields 0 (late_of l.fn.seed l.fn.message l.entity))
