use Rattle.cli_words.specs.Line.{check_line}
use Rattle.cli_words.proofs.check.found_check.Goals as goal

pub returns-in-Some : goal.returns-in-Some
returns-in-Some c = λ words line found.
    record { is_line = line; window = rw c.in-Some.is at (c.in_ok-window.ensures check_line words found) }

pub returns-in-None : goal.returns-in-None
returns-in-None c = λ words line found check says.
    let none = rw c.in-None.is at (c.in_ok-window.ensures check_line words found) in
    none check.window says.window
