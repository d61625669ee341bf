use Rattle.std.specs.Prelude.{◌≡◌}
use Rattle.cli_drill.specs.Rows.{rows_of}
use Rattle.cli_drill.specs.Script.{question_rows}
use Rattle.cli_drill.proofs.script.script_text.Given as goal

abbrev pub invariant-questions : goal.invariant-questions
invariant-questions l = l.text.items ≡ rows_of (question_rows l.fn.seed) l.question
