-- A talk that answers requests from a publisher's side.
use Rattle.std.specs.Prelude.{◌≡◌, ◌≢◌, ℕ, List, length}
use Rattle.std.specs.List.{concat}
use Rattle.lc_io.specs.Talk.{Said, TalkSeen}
use Rattle.publisher.specs.Held.{Held, side_of}
use Rattle.lc_world.specs.Sides.Side.{Side}
use Rattle.wire_session.specs.Phase.{is_ended}
use Rattle.wire_session.specs.SessionOut.{SessionOut}
use Rattle.wire_session.specs.SessionOut as session
use Rattle.wire_session.specs.Stands.{Stands}
use Rattle.wire_session.specs.Stands as stands
use Rattle.wire_session.specs.declared.phase.Phase.TheVariants.{Spent}

-- its session, its publisher, and how many bytes it was fed as long as it goes on
pub record ServingState (G : Type 0) : Type 0 where
  pub session : stands.Held
  pub publisher : Held G
  pub count : ℕ

-- what is seen of it
abbrev pub serving_seen : {G : Type 0} → ServingState G → TalkSeen
serving_seen serving = record {
  count = serving.count;
  pending = serving.session.pending;
  requests = serving.session.requests;
  ended = is_ended serving.session.phase;
}

-- what is said to bytes from a side on: what a session says to them
pub record SaysOut (start : Side) (fed : List ℕ) (said : Said) : Type 0 where
  pub answer : session.Said
  pub answer_is : SessionOut start fed answer
  pub output_is : said.output ≡ concat answer.replies
  pub requests_are : said.requests ≡ length answer.replies
  pub ended_is : said.ended ≡ answer.ended

-- Memory has not run out, and the session stands for these bytes: its publisher's side is the one that they leave.
pub record StandsOut {G : Type 0} (cuts_of : G → List ℕ → List ℕ) (serving : ServingState G) (start : Side) (fed sent : List ℕ) : Type 0 where
  pub enough : serving.session.phase ≢ Spent
  pub stands : Stands serving.session start fed sent (side_of cuts_of serving.publisher)

-- as long as it goes on it was fed so many bytes, from some side on
pub record WasFed {G : Type 0} (cuts_of : G → List ℕ → List ℕ) (session : stands.Held) (publisher : Held G) (count : ℕ) : Type 0 where
  pub start : Side
  pub fed : List ℕ
  pub sent : List ℕ
  pub stands : Stands session start fed sent (side_of cuts_of publisher)
  pub count_is : length fed ≡ count
