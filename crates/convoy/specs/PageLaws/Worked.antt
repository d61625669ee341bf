-- Worked values: the departures 08:00, 08:11, 08:12, 08:20, 09:00 and 10:00 on the pages 08:00, 09:00 and 10:00. Spans of half an
-- hour cut them, on 2024-05-01 in UTC.
use Rattle.std.specs.Prelude.{◌≡◌, ℕ, ◌*◌, ◌+◌, ◌≤◌, List, [], ◌∷◌, ◌++◌, Option, Some, None}
use Rattle.std.specs.List.{All}
use Rattle.lc_model.specs.Connection.{InDepartureOrder, NoneArrivesEarly}
use Rattle.lc_model.specs.Leg.{IsListBest}
use Rattle.lc_model.specs.declared.connection.Connection.{Connection}
use Rattle.lc_model.specs.declared.doc.StopsDoc.{StopsDoc}
use Rattle.lc_model.specs.declared.key.RunKey.{RunKey}
use Rattle.lc_model.specs.declared.query.Query.{Query}
use Rattle.lc_model.specs.Versions.Cuts.{AreCuts}
use Rattle.lc_model.specs.Versions.Pages.{CutPage, pages_of}
use Rattle.lc_model.specs.Versions.Worked.{connection_at, connections_at, page_at}
use Rattle.convoy.specs.PageLaws.Chain.{ArePagesOf, along_next, along_previous, names_of}
use Rattle.convoy.specs.PageLaws.Needed.{needed_names}
use Rattle.convoy.specs.PageLaws.Stop.{bound_of}

-- hours and minutes of that day
abbrev pub at : ℕ → ℕ → ℕ
at hours minutes = 1_714_521_600 + 3600 * hours + 60 * minutes

-- the six departures
abbrev pub six : List ℕ
six = at 8 0 ∷ at 8 11 ∷ at 8 12 ∷ at 8 20 ∷ at 9 0 ∷ at 10 0 ∷ []

-- the page 08:00
abbrev pub at_eight : RunKey → CutPage
at_eight key = page_at key (at 8 0) (at 8 0 ∷ at 8 11 ∷ at 8 12 ∷ at 8 20 ∷ [])

-- the pages 09:00 and 10:00
abbrev pub from_nine : RunKey → List CutPage
from_nine key = page_at key (at 9 0) (at 9 0 ∷ []) ∷ page_at key (at 10 0) (at 10 0 ∷ []) ∷ []

-- the question leaves then, and asks for so many seconds
pub record Leaves (query : Query) (moment horizon : ℕ) : Type 0 where
  pub leaves : query.leave ≡ moment
  pub within : query.horizon ≡ horizon

-- The pages of the six, and those along their links. The page for 08:59:59 is 08:00, for 09:00 it is 09:00, before 08:00 it is the first.
pub record WorkedLinks (key : RunKey) : Type 0 where
  pub pages : pages_of (at 8 0 ∷ at 9 0 ∷ at 10 0 ∷ []) (connections_at key six) ≡ at_eight key ∷ from_nine key
  pub before_nine : names_of (along_next (at_eight key) (from_nine key) (at 8 59 + 59)) ≡ at 8 0 ∷ at 9 0 ∷ at 10 0 ∷ []
  pub at_nine : names_of (along_next (at_eight key) (from_nine key) (at 9 0)) ≡ at 9 0 ∷ at 10 0 ∷ []
  pub after_all : names_of (along_next (at_eight key) (from_nine key) (at 23 0)) ≡ at 10 0 ∷ []
  pub before_all : names_of (along_next (at_eight key) (from_nine key) (at 7 0)) ≡ at 8 0 ∷ at 9 0 ∷ at 10 0 ∷ []
  pub back : names_of (along_previous (at_eight key) (from_nine key) (at 10 0)) ≡ at 9 0 ∷ at 8 0 ∷ []
  pub back_from_first : along_previous (at_eight key) (from_nine key) (at 8 20) ≡ []

-- What is needed from 08:00 on. For an arrival at 08:20, the last departure of the first page, that page alone, and a second later one
-- more. For one at 08:31 two. Where there is no journey, as many as the horizon reaches. For a moment after all departures the last
-- page, and of a timetable without connections its one page.
pub record WorkedNeeded (key : RunKey) (query : Query) : Type 0 where
  pub at_last_departure : Leaves query (at 8 0) 86_400 → needed_names (at_eight key) (from_nine key) query (Some (at 8 20)) ≡ at 8 0 ∷ []
  pub a_second_later : Leaves query (at 8 0) 86_400 → needed_names (at_eight key) (from_nine key) query (Some (at 8 20 + 1)) ≡ at 8 0 ∷ at 9 0 ∷ []
  pub by_arrival : Leaves query (at 8 0) 86_400 → needed_names (at_eight key) (from_nine key) query (Some (at 8 31)) ≡ at 8 0 ∷ at 9 0 ∷ []
  pub no_journey : Leaves query (at 8 0) 86_400 → needed_names (at_eight key) (from_nine key) query None ≡ at 8 0 ∷ at 9 0 ∷ at 10 0 ∷ []
  pub short_horizon : Leaves query (at 8 0) 3_600 → needed_names (at_eight key) (from_nine key) query None ≡ at 8 0 ∷ at 9 0 ∷ []
  pub after_all : Leaves query (at 12 0) 86_400 → needed_names (at_eight key) (from_nine key) query None ≡ at 10 0 ∷ []
  pub empty : Leaves query (at 8 0) 86_400 → needed_names (page_at key 0 []) [] query None ≡ 0 ∷ []

-- Cuts that are not lawful: without the first departure, at a moment of no departure, twice at one, and none at all.
pub record RefusedCuts : Type 0 where
  pub without_first : ¬ AreCuts six (at 9 0 ∷ at 10 0 ∷ [])
  pub no_departure : ¬ AreCuts six (at 8 0 ∷ at 8 30 ∷ [])
  pub twice : ¬ AreCuts six (at 8 0 ∷ at 9 0 ∷ at 9 0 ∷ [])
  pub none_at_all : ¬ AreCuts six []

-- a connection of a run that departs then, with this sequence
abbrev pub in_sequence : RunKey → ℕ → ℕ → Connection
in_sequence key seq moment = record (connection_at key moment) { seq = seq }

-- departures at 08:00, twice at 08:11, and at 09:00
abbrev pub four : RunKey → List Connection
four key = in_sequence key 1 (at 8 0) ∷ in_sequence key 2 (at 8 11) ∷ in_sequence key 3 (at 8 11) ∷ in_sequence key 4 (at 9 0) ∷ []

-- a page of this name with these connections
abbrev pub page_with : ℕ → List Connection → CutPage
page_with departs connections = record { departs = departs; connections = connections }

-- Pages of these, and near ones that are none, however they are cut. The link to the next one skips the rest of a second, a second is
-- split, or the first page is named by another moment.
pub record WorkedSeconds (key : RunKey) : Type 0 where
  pub whole_second :
      ArePagesOf (four key) (page_with (at 8 0) (in_sequence key 1 (at 8 0) ∷ [])) (page_with (at 8 11) (in_sequence key 2 (at 8 11) ∷ in_sequence key 3 (at 8 11) ∷ in_sequence key 4 (at 9 0) ∷ []) ∷ [])
  pub skips_a_second :
      ¬ ArePagesOf (four key) (page_with (at 8 0) (in_sequence key 1 (at 8 0) ∷ in_sequence key 2 (at 8 11) ∷ [])) (page_with (at 9 0) (in_sequence key 4 (at 9 0) ∷ []) ∷ [])
  pub splits_a_second :
      ¬ ArePagesOf (four key) (page_with (at 8 0) (in_sequence key 1 (at 8 0) ∷ in_sequence key 2 (at 8 11) ∷ [])) (page_with (at 8 11) (in_sequence key 3 (at 8 11) ∷ in_sequence key 4 (at 9 0) ∷ []) ∷ [])
  pub named_by_another : ¬ ArePagesOf (four key) (page_with (at 7 0) (four key)) []

-- What does not hold: what was taken of a list may be all of it where the rest departs at the horizon's last second too. A connection
-- that departs and arrives then is a chain. (So a page must have the whole of a second.)
abbrev pub FrontMayBeAllAtOnce : Type 0
FrontMayBeAllAtOnce =
    (query : Query) (doc : StopsDoc) (taken left : List Connection) (best : Option ℕ) (last : ℕ) → InDepartureOrder (taken ++ left) → NoneArrivesEarly (taken ++ left) →
    All (λ (c : Connection). last ≤ c.dep) left → bound_of query best ≤ last → IsListBest query doc taken best → IsListBest query doc (taken ++ left) best
