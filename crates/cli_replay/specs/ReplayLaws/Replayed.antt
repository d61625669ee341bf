-- What is printed of an event sequence.
use Rattle.std.specs.Prelude.{◌≡◌, ◌≤◌, ℕ, ◌+◌, List, [], ◌∷◌, ◌++◌, length}
use Rattle.cli_words.specs.declared.command.Publishing.{Publishing}
use Rattle.lc_world.specs.Link.{LinkSeen}
use Rattle.timetable.specs.declared.timetable.Timetable.{Timetable}
use Rattle.cli_ask.specs.Block.{client_text_of}
use Rattle.cli_ask.specs.declared.end.ClientEnd.{ClientEnd}
use Rattle.cli_replay.specs.ReplayLaws.Caused.{AreCaused}
use Rattle.cli_replay.specs.ReplayLaws.Events.{questions_in}
use Rattle.cli_replay.specs.ReplayLaws.Right.{ArePlayedRight}
use Rattle.cli_replay.specs.ReplayLaws.Versions.{AreHeard, AreShort}
use Rattle.cli_replay.specs.declared.replay_laws.event.Event.{Event}

-- the lines of client k, and of those after it
abbrev pub clients_text_of : ℕ → List ClientEnd → List ℕ
clients_text_of k [] = []
clients_text_of k (end ∷ ends) = client_text_of k end ++ clients_text_of (k + 1) ends

-- The events were played to a publisher of the timetable, over the link, with a cache of so many pages. The text is the lines of the messages
-- and then those of the clients. The publisher heard the messages one after the other, whatever the link is. Each client ended by the replies
-- that it got. Where the link is clear and the publisher's texts fit into replies, they were played rightly by what the clients received.
pub record IsReplayed (made : Timetable) (publishing : Publishing) (all : List Event) (cache : ℕ) (before after : LinkSeen) (text : List ℕ) (ends : List ClientEnd) : Type 0 where
  pub lines : List ℕ
  pub heard : AreHeard made publishing all lines
  pub text_is : text ≡ lines ++ clients_text_of 1 ends
  pub one_each : length ends ≡ length (questions_in all)
  pub caused : AreCaused publishing.base all cache before.recorded after.recorded before.faults after.faults ends
  pub clear : before.clear → after.clear
  pub not_fallen : before.faults ≤ after.faults
  pub right : before.clear → AreShort made publishing all → ArePlayedRight made publishing all cache before.recorded after.recorded before.faults after.faults lines ends caused.met
