use Rattle.cli_words.proofs.PublishedLemmas.{said_window}
use Rattle.cli_words.proofs.feed_window.read_feed_window.Goals as goal

pub returns-in_default : goal.returns-in_default
returns-in_default c = λ a words found window says. c.in_default.ensures a words found window.first says.first_is

pub returns : goal.returns
returns c = λ a words found. said_window a words c.in-Some.first (c.in-Some.ensures a words found) c.window_from.result (c.window_from.ensures a words found)
