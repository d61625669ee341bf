-- What a question to an in-process publisher results in, and what is printed of it.
use Rattle.std.specs.Prelude.{◌≡◌, ℕ, List, ◌++◌, Option}
use Rattle.cli_words.specs.declared.command.Publishing.{Publishing}
use Rattle.connection_uri.specs.Base.{BaseParts}
use Rattle.fragmenter.specs.Cutting.{chosen_cuts}
use Rattle.fragmenter.specs.declared.cutting.Cutting.{Cutting}
use Rattle.lc_io.specs.declared.file.File.{File}
use Rattle.lc_model.specs.declared.query.Query.{Query}
use Rattle.lc_world.specs.Link.{LinkSeen}
use Rattle.publisher.specs.Held.{Held, side_of}
use Rattle.lc_world.specs.Sides.Short.{IsShort, StandsUnder}
use Rattle.timetable.specs.declared.timetable.Timetable.{Timetable}
use Rattle.version_store.specs.Store.{Stored}
use Rattle.cli_ask.specs.Admission.{IsBehind}
use Rattle.cli_ask.specs.Block.{client_text_of}
use Rattle.cli_ask.specs.Client.{Asks, EndsRight}
use Rattle.cli_ask.specs.Publishing.{side_with, store_of}
use Rattle.cli_ask.specs.declared.end.ClientEnd.{ClientEnd}

-- The publisher has the store after the message, and the client alone asked it, over the link. Where the link is clear and the
-- publisher's texts fit into replies, the client ended rightly by the publisher's side. The text is the line of the message and those
-- of the client.
pub record IsAsked (made : Timetable) (publishing : Publishing) (file : Option File) (query : Query) (before after : LinkSeen) (text : List ℕ) (end : ClientEnd) : Type 0 where
  pub store : Stored
  pub line : List ℕ
  pub behind : IsBehind file (store_of made publishing.base_moment) store line
  pub asks : Asks publishing.base query before after end
  pub right : before.clear → IsShort (side_with made publishing store) → EndsRight (side_with made publishing store) publishing.base query before.recorded after.recorded end
  pub text_is : text ≡ line ++ client_text_of 1 end

-- the publisher was asked by the client alone, over the link, and the text is this line and those of the client
pub record AsksPublisher (held : Held Cutting) (base : BaseParts) (line : List ℕ) (query : Query) (before after : LinkSeen) (text : List ℕ) (end : ClientEnd) : Type 0 where
  pub asks : Asks base query before after end
  pub right : before.clear → StandsUnder base (side_of chosen_cuts held) → EndsRight (side_of chosen_cuts held) base query before.recorded after.recorded end
  pub text_is : text ≡ line ++ client_text_of 1 end
