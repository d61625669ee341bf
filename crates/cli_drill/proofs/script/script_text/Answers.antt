use Rattle.std.proofs.Common.{[]}
use Rattle.cli_drill.specs.Script.{question_rows}
use Rattle.cli_drill.proofs.RowsLemmas.{first_rows, more_rows}
use Rattle.cli_drill.proofs.script.script_text.Goals as goal

pub questions-init : goal.questions-init
questions-init c = first_rows (question_rows c.args.seed) [] _ c.in_ok-text.ensures.items

pub questions-preserved : goal.questions-preserved
questions-preserved c =
    more_rows (question_rows c.args.seed) [] c.questions.text.items c.push_question.new.text.items c.questions.question c.questions.invariant c.in_ok-push_question.ensures
