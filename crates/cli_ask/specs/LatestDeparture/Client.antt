-- How a question for the latest departure ended, by the side of the publisher that answered.
use Rattle.std.specs.Prelude.{◌≡◌, ℕ, List, length, Option}
use Rattle.std.specs.Option.{IfSome}
use Rattle.back_client.specs.declared.outcome.ArriveEnd.{ArriveEnd}
use Rattle.back_scan.specs.declared.arrive_query.ArriveQuery.{ArriveQuery}
use Rattle.cli_ask.specs.declared.end.ClientEnd.{ClientEnd}
use Rattle.connection_uri.specs.Base.{BaseParts}
use Rattle.back_client.specs.Ends.Right.{EndsAt}
use Rattle.convoy.specs.Agreement.Replies.{TellsReplies}
use Rattle.convoy.specs.Agreement.Requests.{TellsRequests}
use Rattle.convoy.specs.ClientLaws.Stated.{version_at}
use Rattle.lc_world.specs.declared.entry.Entry.{Entry}
use Rattle.lc_world.specs.Sides.Side.{Side}

-- how such a question ended, as any client
abbrev pub client_of : ArriveEnd → ClientEnd
client_of end = record { version = end.version; outcome = end.outcome; exchanges = end.exchanges }

-- It made these requests, and each exchange is counted. A version, if there is one, is that which the known moment means. At that version what it
-- found is a latest journey, and where it found none there is none: then it asked for the time gate, the stops document and the needed pages
-- back, and for nothing else. A refusal was deserved, and no reply failed a test. Where an exchange failed the link's count increased, and the
-- requests are a front of these. A link that records replies has recorded those of the side.
pub record EndsRightLatest (side : Side) (base : BaseParts) (asked : ArriveQuery) (recorded now_recorded : Option (List Entry)) (faults now_faults : ℕ) (end : ClientEnd) : Type 0 where
  pub requests : List (List ℕ)
  pub tells : TellsRequests recorded now_recorded base.authority requests
  pub exchanges : end.exchanges ≡ length requests
  pub version_is : IfSome end.version (λ (version : ℕ). version ≡ version_at side asked.known)
  pub ends : EndsAt base side asked end.version requests faults now_faults end.outcome
  pub replied : TellsReplies side recorded now_recorded
