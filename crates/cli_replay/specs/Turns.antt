-- When an event may happen.
use Rattle.std.specs.Prelude.{ℕ}
use Rattle.journey_text.specs.Script.{IsClient}
use Rattle.cli_replay.specs.declared.replay_laws.event.Event.{Event}
use Rattle.cli_replay.specs.declared.replay_laws.event.Event.TheVariants as events

-- a turn is one of so many clients
abbrev pub MayHappen : ℕ → Event → Type 0
MayHappen clients (events.Ask query) = Unit {0}
MayHappen clients (events.Message message) = Unit {0}
MayHappen clients (events.Turn client) = IsClient clients client
