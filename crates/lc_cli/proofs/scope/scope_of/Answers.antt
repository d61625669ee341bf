-- The window of a command is one that a feed may be asked for.
use Rattle.lc_cli.proofs.WindowLemmas.{window_said}
use Rattle.lc_cli.proofs.scope.scope_of.Goals as goal

pub returns-clause-window : goal.returns-clause-window
returns-clause-window c = window_said c.args.window.first c.args.window.days c.args.window.is_window
