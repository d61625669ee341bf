use Rattle.cli_words.proofs.feed_window.window_from.Goals as goal

pub returns-in_default-read_options : goal.returns-in_default-read_options
returns-in_default-read_options c = λ a words found window first has.
    c.in_default-read_options.ensures a words found window.days window.zone window.change has.options
