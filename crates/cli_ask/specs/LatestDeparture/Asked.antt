-- What a question for the latest departure results in, and what is printed of it.
use Rattle.std.specs.Prelude.{◌≡◌, ℕ, List, ◌++◌, Option}
use Rattle.back_scan.specs.declared.arrive_query.ArriveQuery.{ArriveQuery}
use Rattle.cli_ask.specs.LatestDeparture.Client.{EndsRightLatest}
use Rattle.cli_ask.specs.Admission.{IsBehind}
use Rattle.cli_ask.specs.Block.{client_text_of}
use Rattle.cli_ask.specs.Publishing.{side_with, store_of}
use Rattle.cli_ask.specs.declared.end.ClientEnd.{ClientEnd}
use Rattle.cli_words.specs.declared.command.Publishing.{Publishing}
use Rattle.connection_uri.specs.Base.{BaseParts}
use Rattle.fragmenter.specs.Cutting.{chosen_cuts}
use Rattle.fragmenter.specs.declared.cutting.Cutting.{Cutting}
use Rattle.back_client.specs.Ends.Asked.{HasAskedLatest}
use Rattle.lc_io.specs.declared.file.File.{File}
use Rattle.lc_world.specs.Link.{LinkSeen}
use Rattle.publisher.specs.Held.{Held, side_of}
use Rattle.lc_world.specs.Sides.Short.{IsShort, StandsUnder}
use Rattle.timetable.specs.declared.timetable.Timetable.{Timetable}
use Rattle.version_store.specs.Store.{Stored}

-- The publisher has the store after the message, and was asked the question over the link. By the replies it ended so, whatever the link is.
-- Where the link is clear and the publisher's texts fit into replies, it ended rightly by the publisher's side. The text is the line of the
-- message and those of the client.
pub record IsAskedLatest (made : Timetable) (publishing : Publishing) (file : Option File) (asked : ArriveQuery) (before after : LinkSeen) (text : List ℕ) (end : ClientEnd) : Type 0 where
  pub store : Stored
  pub line : List ℕ
  pub behind : IsBehind file (store_of made publishing.base_moment) store line
  pub asks : HasAskedLatest publishing.base asked before after end.version end.exchanges end.outcome
  pub right : before.clear → IsShort (side_with made publishing store)
      → EndsRightLatest (side_with made publishing store) publishing.base asked before.recorded after.recorded before.faults after.faults end
  pub text_is : text ≡ line ++ client_text_of 1 end

-- the publisher was asked over the link, and the text is this line and those of the client
pub record AsksPublisher (held : Held Cutting) (base : BaseParts) (line : List ℕ) (asked : ArriveQuery) (before after : LinkSeen) (text : List ℕ) (end : ClientEnd) : Type 0 where
  pub asks : HasAskedLatest base asked before after end.version end.exchanges end.outcome
  pub right : before.clear → StandsUnder base (side_of chosen_cuts held)
      → EndsRightLatest (side_of chosen_cuts held) base asked before.recorded after.recorded before.faults after.faults end
  pub text_is : text ≡ line ++ client_text_of 1 end
