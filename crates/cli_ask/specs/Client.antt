-- How a client that asked alone ended: by the replies that it got, whatever the link was. It ended rightly by the side of the publisher that
-- answered, where the replies came as it gave them.
use Rattle.std.specs.Prelude.{◌≡◌, List, [], ◌∷◌, ◌++◌, length, Option, Some, None}
use Rattle.convoy.specs.ClientLaws.Fits.{HasEnded}
use Rattle.convoy.specs.Replies.Run.{HasAsked}
use Rattle.connection_uri.specs.Base.{BaseParts}
use Rattle.convoy.specs.Agreement.OneClient.{IsNext, version_of}
use Rattle.convoy.specs.Agreement.Replies.{TellsReplies}
use Rattle.convoy.specs.Agreement.Requests.{TellsAsked}
use Rattle.lc_model.specs.declared.query.Query.{Query}
use Rattle.lc_world.specs.Link.{LinkSeen}
use Rattle.lc_world.specs.declared.entry.Entry.{Entry}
use Rattle.page_client.specs.Shown.{Shown}
use Rattle.page_client.specs.declared.outcome.Outcome.{Outcome}
use Rattle.page_client.specs.declared.outcome.Outcome.TheVariants as outcomes
use Rattle.page_client.specs.declared.phase.Phase.TheVariants as phases
use Rattle.page_client.specs.declared.want.Want.{Want}
use Rattle.lc_world.specs.Sides.Side.{Side}
use Rattle.cli_ask.specs.declared.end.ClientEnd.{ClientEnd}

-- by the replies that it got it ended so
abbrev pub Asks : BaseParts → Query → LinkSeen → LinkSeen → ClientEnd → Type 0
Asks base query before after end = HasAsked base query before after end.version end.exchanges end.outcome

-- what a client of the question shows that ended so
abbrev pub shown_of : Query → ClientEnd → Shown
shown_of query end = record { query = query; phase = phases.Finished; version = end.version; gate = None; outcome = Some end.outcome }

-- the next one of its wants was asked for besides
pub record AsksOneMore (side : Side) (query : Query) (given asked : List Want) : Type 0 where
  pub want : Want
  pub is_next : IsNext side query given want
  pub are : asked ≡ given ++ want ∷ []

-- the client asked for what it received, and for one want more where an exchange failed
abbrev pub AsksFor : Side → Query → List Want → List Want → Outcome → Type 0
AsksFor side query given asked (outcomes.Found journey) = asked ≡ given
AsksFor side query given asked outcomes.NoJourney = asked ≡ given
AsksFor side query given asked (outcomes.Refused fault) = asked ≡ given
AsksFor side query given asked (outcomes.LinkFault before after) = AsksOneMore side query given asked
AsksFor side query given asked (outcomes.PeerWrong reply fault) = asked ≡ given

-- It received exactly its wants: the time gate, the stops document and the needed pages of the version that its known moment
-- means. What it found is a best journey by the timetable of that version, and where it found none there is none. A refusal was
-- deserved, and no reply failed a test. Where an exchange failed it received the wants in front of that one. A link that records replies
-- has recorded those of the side.
pub record EndsRight (side : Side) (base : BaseParts) (query : Query) (recorded now_recorded : Option (List Entry)) (end : ClientEnd) : Type 0 where
  pub given : List Want
  pub ended : HasEnded side (shown_of query end) given (Some end.outcome)
  pub version_is : end.version ≡ version_of side query given
  pub asked : List Want
  pub asks : AsksFor side query given asked end.outcome
  pub exchanges : end.exchanges ≡ length asked
  pub tells : TellsAsked recorded now_recorded base query asked
  pub replied : TellsReplies side recorded now_recorded
