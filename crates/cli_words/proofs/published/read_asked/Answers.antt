use Rattle.cli_words.proofs.PublishedLemmas.{asked_published}
use Rattle.cli_words.proofs.published.read_asked.Goals as goal

pub returns-in-Some : goal.returns-in-Some
returns-in-Some c = λ a words found.
    asked_published a words c.args.moment c.in-Some.window (rw c.in-Some.is at (c.in_ok-window.ensures a words found)) c.read_published.result c.read_published.ensures.window
    (c.read_published.ensures.said a words found)

pub returns-in-None : goal.returns-in-None
returns-in-None c = λ a words found published says.
    let none = rw c.in-None.is at (c.in_ok-window.ensures a words found) in
    none published.window says.window
