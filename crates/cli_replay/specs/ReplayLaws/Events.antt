-- What an event sequence has: its questions, its turns, and what comes before a turn.
use Rattle.std.specs.Prelude.{◌≡◌, ◌==◌, ◌+◌, ℕ, List, [], ◌∷◌, ◌++◌, length, if◌then◌else◌}
use Rattle.lc_model.specs.declared.query.Query.{Query}
use Rattle.journey_text.specs.Script.{IsClient}
use Rattle.cli_replay.specs.declared.replay_laws.event.Event.{Event}
use Rattle.cli_replay.specs.declared.replay_laws.event.Event.TheVariants as events

-- the questions, of client 1, of client 2, and so on
abbrev pub questions_in : List Event → List Query
questions_in [] = []
questions_in (events.Ask query ∷ more) = query ∷ questions_in more
questions_in (events.Message message ∷ more) = questions_in more
questions_in (events.Turn client ∷ more) = questions_in more

-- how many messages there are
abbrev pub messages_in : List Event → ℕ
messages_in [] = 0
messages_in (events.Ask query ∷ more) = messages_in more
messages_in (events.Message message ∷ more) = 1 + messages_in more
messages_in (events.Turn client ∷ more) = messages_in more

-- the numbers of the clients that have turns, in the order of these
abbrev pub turns_in : List Event → List ℕ
turns_in [] = []
turns_in (events.Ask query ∷ more) = turns_in more
turns_in (events.Message message ∷ more) = turns_in more
turns_in (events.Turn client ∷ more) = client ∷ turns_in more

-- all that happens before the first turn of the client, or all, where it has none
abbrev pub before_turn_of : ℕ → List Event → List Event
before_turn_of client [] = []
before_turn_of client (events.Ask query ∷ more) = events.Ask query ∷ before_turn_of client more
before_turn_of client (events.Message message ∷ more) = events.Message message ∷ before_turn_of client more
before_turn_of client (events.Turn other ∷ more) = if other == client then [] else events.Turn other ∷ before_turn_of client more

-- each turn is one of a client that asked before it
abbrev pub TurnsAreOfClients : List Event → Type 0
TurnsAreOfClients all =
    (before behind : List Event) (client : ℕ) → all ≡ before ++ (events.Turn client ∷ behind) → IsClient (length (questions_in before)) client
