-- What rounds over a list stand for, and what they answer.
use Rattle.std.specs.Prelude.{ℕ, ◌<◌, ◌≤◌, List, Option, Some, None, length}
use Rattle.lc_model.specs.Journey.{arrives_at}
use Rattle.lc_model.specs.Leg.{IsChain, in_time}
use Rattle.lc_model.specs.declared.connection.Connection.{Connection}
use Rattle.lc_model.specs.declared.doc.StopsDoc.{StopsDoc}
use Rattle.lc_model.specs.declared.journey.Journey.{Journey}
use Rattle.lc_model.specs.declared.query.Query.{Query}
use Rattle.csa_scan.specs.Kept.{kept_of}
use Rattle.csa_scan.specs.Numbers.{AreDistinct, AreNumbersOf}
use Rattle.csa_scan.specs.Walks.{AreWalks}
use Rattle.change_rounds.specs.Round.{AfterRounds}
use Rattle.change_rounds.specs.declared.rounds.Rounds.{Rounds}

-- so many rounds were made over the list, for the question
pub record AreRounds (query : Query) (doc : StopsDoc) (list : List Connection) (n : ℕ) (rounds : Rounds) : Type 0 where
  pub walks : AreWalks query doc rounds.walks
  pub distinct : AreDistinct rounds.runs
  pub numbers : AreNumbersOf rounds.runs list rounds.numbers.items
  pub after : AfterRounds query doc rounds.runs (kept_of rounds.progress) (in_time query list) n

-- a chain of so many rides at most that arrives by the moment, or none where there is no such chain
abbrev pub IsChainWithin : Query → StopsDoc → List Connection → ℕ → ℕ → Option Journey → Type 0
IsChainWithin query doc list best n None = (journey : Journey) → IsChain query doc list journey → length journey.rides ≤ n → best < arrives_at journey
IsChainWithin query doc list best n (Some journey) = IsChain query doc list journey × (arrives_at journey ≤ best) × (length journey.rides ≤ n)

-- each chain of the list that arrives by the moment has so many rides at least
abbrev pub HaveAtLeast : Query → StopsDoc → List Connection → ℕ → ℕ → Type 0
HaveAtLeast query doc list best n = (journey : Journey) → IsChain query doc list journey → arrives_at journey ≤ best → n ≤ length journey.rides

-- of the chains that arrive by the moment one of the fewest rides, or none where each has so many at least
abbrev pub IsFewestBelow : Query → StopsDoc → List Connection → ℕ → ℕ → Option Journey → Type 0
IsFewestBelow query doc list best rides None = HaveAtLeast query doc list best rides
IsFewestBelow query doc list best rides (Some journey) =
    IsChain query doc list journey × (arrives_at journey ≤ best) × HaveAtLeast query doc list best (length journey.rides)
