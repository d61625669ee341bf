use Rattle.std.specs.Prelude.{◌≡◌, ◌++◌}
use Rattle.cli_drill.specs.Files.{message_files}
use Rattle.cli_drill.proofs.files.push_messages.Given as goal

abbrev pub invariant-messages : goal.invariant-messages
invariant-messages l = l.files.items ≡ l.initial.files.items ++ message_files l.fn.seed l.message
