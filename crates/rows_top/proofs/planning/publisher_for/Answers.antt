-- The window of a command is one that a feed may be asked for.
use Rattle.lc_cli.proofs.WindowLemmas.{window_said}
use Rattle.rows_top.proofs.planning.publisher_for.Goals as goal

pub tiny_in-requires : goal.tiny_in-requires
tiny_in-requires c = window_said c.args.replay.window.first c.args.replay.window.days c.args.replay.window.is_window
