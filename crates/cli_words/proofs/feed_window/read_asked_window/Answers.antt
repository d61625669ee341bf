use Rattle.cli_words.proofs.PublishedLemmas.{asked_window}
use Rattle.cli_words.proofs.feed_window.read_asked_window.Goals as goal

pub returns : goal.returns
returns c = λ a words found. asked_window a words c.args.moment c.date_before.result c.date_before.ensures c.window_from.result (c.window_from.ensures a words found)
