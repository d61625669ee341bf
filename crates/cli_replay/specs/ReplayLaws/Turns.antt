-- The turns of clients: first those of the event sequence, then the rest of each client, in the order of their numbers.
use Rattle.std.specs.Prelude.{◌≡◌, ◌==◌, ◌⊎◌, ℕ, zero, suc, ◌-◌, List, [], ◌∷◌, ◌++◌, Option, Some, None, length, map, slice_get, if◌then◌else◌}
use Rattle.std.specs.List.{All, flat_map}
use Rattle.connection_uri.specs.Base.{BaseParts}
use Rattle.convoy.specs.Agreement.Names.{Round}
use Rattle.convoy.specs.Agreement.Requests.{request_of}
use Rattle.lc_model.specs.declared.query.Query.{Query}
use Rattle.page_client.specs.declared.want.Want.{Want}
use Rattle.cli_replay.specs.ReplayLaws.Events.{questions_in, turns_in}
use Rattle.cli_replay.specs.declared.replay_laws.event.Event.{Event}

-- the numbers from 1 up to this one
abbrev pub counted : ℕ → List ℕ
counted zero = []
counted (suc n) = counted n ++ suc n ∷ []

-- whose turn it is, one after the other: as the events say, and then each client until it ends
abbrev pub order_of : List Event → List ℕ
order_of all = turns_in all ++ counted (length (questions_in all))

-- the turns of the client among those of all, which have this order
abbrev pub rounds_of : ℕ → List ℕ → List Round → List Round
rounds_of client [] rounds = []
rounds_of client (other ∷ more) [] = []
rounds_of client (other ∷ more) (round ∷ rounds) = if other == client then round ∷ rounds_of client more rounds else rounds_of client more rounds

-- what was received in these turns
abbrev pub given_in : List Round → List Want
given_in rounds = flat_map (λ (round : Round). round.given) rounds

-- what was asked for in vain
abbrev pub failed_in : List Round → List Want
failed_in rounds = flat_map (λ (round : Round). round.failed) rounds

-- what was asked for all in all
abbrev pub asked_in : List Round → List Want
asked_in rounds = flat_map (λ (round : Round). round.asked) rounds

-- one want was received in the turn, or its exchange failed
pub record IsOne (round : Round) : Type 0 where
  pub want : Want
  pub is : round.given ++ round.failed ≡ want ∷ []

-- nothing was wanted any more
abbrev pub IsIdle : Round → Type 0
IsIdle round = round.given ++ round.failed ≡ []

-- a client receives one want in each turn of the event sequence, up to its end, and in the last turn the rest
abbrev pub TakeOneEach : List Round → Type 0
TakeOneEach [] = ⊥
TakeOneEach (last ∷ []) = Unit {0}
TakeOneEach (round ∷ next ∷ more) = (IsOne round × TakeOneEach (next ∷ more)) ⊎ All IsIdle (round ∷ next ∷ more)

-- after a turn in which an exchange failed nothing was wanted any more
abbrev pub EndByFailure : List Round → Type 0
EndByFailure [] = Unit {0}
EndByFailure (round ∷ more) = ((round.failed ≡ []) ⊎ All IsIdle more) × EndByFailure more

-- the requests of one who asked this in a turn
abbrev pub requests_by : BaseParts → Option Query → Round → List (List ℕ)
requests_by base None round = []
requests_by base (Some query) round = map (request_of base query) round.asked

-- the requests of turns in this order, one after the other
abbrev pub requests_in : BaseParts → List Query → List ℕ → List Round → List (List ℕ)
requests_in base questions [] rounds = []
requests_in base questions (client ∷ more) [] = []
requests_in base questions (client ∷ more) (round ∷ rounds) = requests_by base (slice_get questions (client - 1)) round ++ requests_in base questions more rounds
