-- A best chain with its arrival.
use Rattle.std.specs.Prelude.{◌≡◌, List, Option, Some, None}
use Rattle.lc_model.specs.Journey.{IsBest, arrives_at}
use Rattle.lc_model.specs.Leg.{IsChain, IsLegOf, in_time}
use Rattle.lc_model.specs.declared.connection.Connection.{Connection}
use Rattle.lc_model.specs.declared.doc.StopsDoc.{StopsDoc}
use Rattle.lc_model.specs.declared.journey.Journey.{Journey}
use Rattle.lc_model.specs.declared.query.Query.{Query}
use Rattle.change_rounds.specs.declared.fewest.Best.{Best}

-- it is a best chain of the list and arrives then, or there is no chain
abbrev pub IsBestOf : Query → StopsDoc → List Connection → Option Best → Type 0
IsBestOf query doc list None = (journey : Journey) → IsChain query doc list journey → ⊥
IsBestOf query doc list (Some b) = IsBest (IsLegOf (in_time query list)) query doc b.journey × (arrives_at b.journey ≡ b.arr)
