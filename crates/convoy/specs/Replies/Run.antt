-- What a client alone did over a link, whatever the link is. X is the type of the link, and `seen` what is promised of it.
use Rattle.std.specs.Prelude.{◌≡◌, ℕ, ◌≤◌, List, [], ◌∷◌, Option, Some, length, map}
use Rattle.lc_model.specs.declared.query.Query.{Query}
use Rattle.connection_uri.specs.Base.{BaseParts}
use Rattle.lc_world.specs.Link.{LinkSeen}
use Rattle.page_client.specs.Client.{shown}
use Rattle.page_client.specs.declared.outcome.Outcome.{Outcome}
use Rattle.page_client.specs.declared.outcome.Outcome.TheVariants.{LinkFault}
use Rattle.convoy.specs.Finish.{Rounds}
use Rattle.convoy.specs.State.{Adds, ConvoyState, begun}
use Rattle.convoy.specs.declared.member.Member.{Member}
use Rattle.convoy.specs.Replies.Ends.{EndsBy}
use Rattle.convoy.specs.Replies.Made.{Made, TellsAll}
use Rattle.convoy.specs.Replies.Met.{CountAlong, HasFailedBetween, Met}

-- The link's count of faults went along these exchanges from the one to the other: nothing came between, and each that failed increased it.
-- The counts of a fault of the link are those before and after the exchange that failed.
pub record IsCounted (faults now : ℕ) (made : List Made) (outcome : Outcome) : Type 0 where
  pub met : List Met
  pub are : made ≡ map (λ (met : Met). met.made) met
  pub along : CountAlong faults now met
  pub fault : (low high : ℕ) → outcome ≡ LinkFault low high → HasFailedBetween 1 low high met

-- A client of the question asked over the link, and ended like this: with this version, after so many exchanges, with this outcome. The
-- link recorded the exchanges, where it records any. A clear link is clear still. Its count of faults has not fallen, and went along them.
pub record HasAsked (base : BaseParts) (query : Query) (before after : LinkSeen) (version : Option ℕ) (exchanges : ℕ) (outcome : Outcome) : Type 0 where
  pub made : List Made
  pub counted : exchanges ≡ length made
  pub ends : EndsBy base query before.faults after.faults version made outcome
  pub recorded : TellsAll base query made before.recorded after.recorded
  pub clear : before.clear → after.clear
  pub not_fallen : before.faults ≤ after.faults
  pub along : IsCounted before.faults after.faults made outcome

-- the convoy has one client, of this question, which has asked and ended so
pub record HasRun (base : BaseParts) (query : Query) (before after : LinkSeen) (end : ConvoyState) : Type 0 where
  pub member : Member
  pub alone : end.members ≡ member ∷ []
  pub question : (shown member.client).query ≡ query
  pub outcome : Outcome
  pub ended : (shown member.client).outcome ≡ Some outcome
  pub asked : HasAsked base query before after (shown member.client).version member.exchanges outcome

-- a client that was asked alone, and was turned until it ended, has run so
abbrev pub EndsByItsReplies : {X : Type 0} → (X → LinkSeen) → Type 0
EndsByItsReplies {X} seen =
    (base : BaseParts) (capacity : ℕ) (query : Query) (asked end : ConvoyState) (before after : X) → Adds (begun base capacity) query asked
    → Rounds seen 1 asked end before after → HasRun base query (seen before) (seen after) end
