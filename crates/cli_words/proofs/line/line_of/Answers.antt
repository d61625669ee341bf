use Rattle.std.proofs.Common.{rules}
use Rattle.cli_words.specs.Line.{line}
use Rattle.cli_words.proofs.LineLemmas.{next_flag, next_option, next_place}
use Rattle.cli_words.proofs.line.line_of.Goals as goal

pub places-preserved : goal.places-preserved
places-preserved c =
    next_place _ _ _ _ _ _ _ c.places-test.true c.places.invariant c.placed_arg.ensures.rule (c.in_ok-command.ensures.shape c.placed_arg.ensures.local)

pub options-preserved : goal.options-preserved
options-preserved c =
    next_option _ _ _ _ _ _ _ _ c.options-test.true c.options.invariant c.named_arg.ensures.rule (c.in_ok-command-2.ensures.shape c.named_arg.ensures.local)

pub flags-preserved : goal.flags-preserved
flags-preserved c =
    next_flag _ _ _ _ _ _ _ _ _ c.flags-test.true c.flags.invariant c.flagged_arg.ensures.rule (c.in_ok-command-3.ensures.shape c.flagged_arg.ensures.local)

pub places-init : goal.places-init
unfolding line
places-init c = search rules
