-- What a question for the fewest rides results in, and what is printed of it.
use Rattle.std.specs.Prelude.{◌≡◌, ℕ, List, ◌++◌, Option}
use Rattle.cli_ask.specs.Asked.{IsAsked}
use Rattle.cli_ask.specs.Block.{client_text_of}
use Rattle.cli_ask.specs.Publishing.{side_with}
use Rattle.cli_ask.specs.declared.end.ClientEnd.{ClientEnd}
use Rattle.cli_ask.specs.FewestRides.Client.{EndsRightFewest, HasFewestRides}
use Rattle.cli_words.specs.declared.command.Publishing.{Publishing}
use Rattle.connection_uri.specs.Base.{BaseParts}
use Rattle.fragmenter.specs.Cutting.{chosen_cuts}
use Rattle.fragmenter.specs.declared.cutting.Cutting.{Cutting}
use Rattle.rounds_client.specs.Ends.Asked.{HasAskedFewest, HasFewestRead}
use Rattle.lc_io.specs.declared.file.File.{File}
use Rattle.lc_model.specs.declared.query.Query.{Query}
use Rattle.lc_world.specs.Link.{LinkSeen}
use Rattle.publisher.specs.Held.{Held, side_of}
use Rattle.lc_world.specs.Sides.Short.{IsShort, StandsUnder}
use Rattle.timetable.specs.declared.timetable.Timetable.{Timetable}

-- All that is so of a question is so of it. Besides, a journey that was found has the fewest rides of all best ones: of the pages that were
-- read, and, over a clear link to a publisher whose texts fit into replies, at the version that the question means.
pub record IsAskedFewest (made : Timetable) (publishing : Publishing) (file : Option File) (query : Query) (before after : LinkSeen) (text : List ℕ) (end : ClientEnd) : Type 0 where
  pub asked : IsAsked made publishing file query before after text end
  pub read : HasFewestRead publishing.base query before.faults after.faults end.version asked.asks.made end.outcome asked.asks.ends
  pub fewest : before.clear → IsShort (side_with made publishing asked.store) → HasFewestRides (side_with made publishing asked.store) query end.outcome

-- the publisher was asked by the client alone, over the link, and the text is this line and those of the client
pub record AsksPublisher (held : Held Cutting) (base : BaseParts) (line : List ℕ) (query : Query) (before after : LinkSeen) (text : List ℕ) (end : ClientEnd) : Type 0 where
  pub asks : HasAskedFewest base query before after end.version end.exchanges end.outcome
  pub right : before.clear → StandsUnder base (side_of chosen_cuts held) → EndsRightFewest (side_of chosen_cuts held) base query before.recorded after.recorded end
  pub text_is : text ≡ line ++ client_text_of 1 end
