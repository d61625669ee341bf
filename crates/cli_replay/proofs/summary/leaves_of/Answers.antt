use Rattle.std.proofs.Common.{◌∙◌, ◌∷◌, [], ◌++◌, ℕ, List, ap, sym}
use Rattle.cli_replay.specs.Summary.{leaves_in}
use Rattle.cli_replay.proofs.SummaryLemmas.{more_leaves}
use Rattle.cli_replay.proofs.summary.leaves_of.Goals as goal

pub events-preserved : goal.events-preserved
events-preserved c =
    c.in_ok-push_leave.ensures ∙ ap (λ (l : List ℕ). l ++ leaves_in (c.event-item.result ∷ [])) c.events.invariant
    ∙ sym (more_leaves c.args.events.now c.events.event-index c.event-item.result c.events-test.true c.event-item.is)
