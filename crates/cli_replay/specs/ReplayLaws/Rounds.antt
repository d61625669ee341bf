-- The rounds of an event sequence, as its turns give them.
use Rattle.std.specs.Prelude.{ℕ, List, [], ◌∷◌, ◌++◌, length}
use Rattle.convoy.specs.Finish.{Rounds}
use Rattle.convoy.specs.State.{ConvoyState}
use Rattle.convoy.specs.Agreement.Names.{Round}
use Rattle.convoy.specs.Agreement.Rounds.{round_at, rounds_up_to}
use Rattle.lc_world.specs.Link.{LinkSeen}
use Rattle.page_client.specs.Client.{shown}
use Rattle.cli_replay.specs.ReplayLaws.Played.{Plays}
use Rattle.cli_replay.specs.declared.replay_laws.event.Event.{Event}
use Rattle.cli_replay.specs.declared.replay_laws.event.Event.TheVariants as events

-- one for each turn
abbrev pub rounds_along : {X : Type 0} (seen : X → LinkSeen) (all : List Event) (old new : ConvoyState) (before after : X) (lines : List ℕ) → Plays seen all old new before after lines → List Round
rounds_along seen [] old new before after lines plays = []
rounds_along seen (events.Ask query ∷ more) old new before after lines (between, adds, plays) = rounds_along seen more between new before after lines plays
rounds_along seen (events.Message message ∷ more) old new before after lines (link, line, rest, given, plays, is) = rounds_along seen more old new link after rest plays
rounds_along seen (events.Turn client ∷ more) old new before after lines (between, link, turn, step, plays) =
    round_at turn (shown step.turned.was.client) (shown step.turned.is.client) ∷ rounds_along seen more between new link after lines plays

-- and then one for each client, after them
abbrev pub all_rounds : {X : Type 0} (seen : X → LinkSeen) (all : List Event) (start played ended : ConvoyState) (before behind after : X) (lines : List ℕ)
    → Plays seen all start played before behind lines → Rounds seen (length played.members) played ended behind after → List Round
all_rounds seen all start played ended before behind after lines plays rounds =
    rounds_along seen all start played before behind lines plays ++ rounds_up_to seen (length played.members) played ended behind after rounds
