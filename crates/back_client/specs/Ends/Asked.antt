-- What a question for the latest departure did over a link, whatever the link is.
use Rattle.std.specs.Prelude.{◌≡◌, ℕ, ◌≤◌, List, Option, length}
use Rattle.connection_uri.specs.Base.{BaseParts}
use Rattle.lc_world.specs.Link.{LinkSeen}
use Rattle.page_client.specs.declared.outcome.Outcome.{Outcome}
use Rattle.back_scan.specs.declared.arrive_query.ArriveQuery.{ArriveQuery}
use Rattle.convoy.specs.Replies.Made.{Made, TellsAll}
use Rattle.convoy.specs.Replies.Run.{IsCounted}
use Rattle.back_client.specs.Ends.Back.{gate_query}
use Rattle.back_client.specs.Ends.Ends.{EndsBackBy}

-- The question was asked over the link, and ended like this: with this version, after so many exchanges, with this outcome. The link
-- recorded the exchanges, where it records any. A clear link is clear still. Its count of faults has not fallen, and went along them.
pub record HasAskedLatest (base : BaseParts) (asked : ArriveQuery) (before after : LinkSeen) (version : Option ℕ) (exchanges : ℕ) (outcome : Outcome) : Type 0 where
  pub made : List Made
  pub counted : exchanges ≡ length made
  pub ends : EndsBackBy base asked before.faults after.faults version made outcome
  pub recorded : TellsAll base (gate_query asked) made before.recorded after.recorded
  pub clear : before.clear → after.clear
  pub not_fallen : before.faults ≤ after.faults
  pub along : IsCounted before.faults after.faults made outcome
