-- That a client of the fewest rides ends by the replies that it got, and in one way.
use Rattle.std.specs.Prelude.{◌≡◌, ℕ, length, Option}
use Rattle.connection_uri.specs.Base.{BaseParts}
use Rattle.convoy.specs.Replies.Laws.{SayTheSame, replies_of}
use Rattle.lc_model.specs.declared.query.Query.{Query}
use Rattle.lc_world.specs.Link.{LinkSeen}
use Rattle.page_client.specs.declared.outcome.Outcome.{Outcome}
use Rattle.page_client.specs.declared.outcome.Outcome.TheVariants as outcomes
use Rattle.rounds_client.specs.End.{EndsSo}
use Rattle.rounds_client.specs.declared.ending.FewestEnd.{FewestEnd}
use Rattle.rounds_client.specs.Ends.Asked.{HasAskedFewest}

-- whatever the link is, a client of the fewest rides ends by the replies that it got
abbrev pub FewestByItsReplies : {X : Type 0} → (X → LinkSeen) → Type 0
FewestByItsReplies {X} seen =
    (base : BaseParts) (query : Query) (before after : X) (end : FewestEnd) → EndsSo seen base query before after end
    → HasAskedFewest base query (seen before) (seen after) end.version end.exchanges end.outcome

-- where both are journeys, they have as many rides
abbrev pub HaveAsManyRides : Outcome → Outcome → Type 0
HaveAsManyRides (outcomes.Found a) (outcomes.Found b) = length a.rides ≡ length b.rides
HaveAsManyRides a b = Unit {0}

-- the version is one and so is the number of exchanges, and the outcomes say the same, with as many rides
pub record IsOneFewest (version_a version_b : Option ℕ) (exchanges_a exchanges_b : ℕ) (a b : Outcome) : Type 0 where
  pub version : version_a ≡ version_b
  pub exchanges : exchanges_a ≡ exchanges_b
  pub outcome : SayTheSame a b
  pub rides : HaveAsManyRides a b

-- By equal replies clients of one question ended in one way. X and Y are the types of their links.
abbrev pub OneFewestByReplies : {X Y : Type 0} → (X → LinkSeen) → (Y → LinkSeen) → Type 0
OneFewestByReplies {X} {Y} seen saw =
    (base : BaseParts) (query : Query) (before after : X) (other later : Y) (version_a version_b : Option ℕ) (exchanges_a exchanges_b : ℕ) (a b : Outcome)
    → (x : HasAskedFewest base query (seen before) (seen after) version_a exchanges_a a) (y : HasAskedFewest base query (saw other) (saw later) version_b exchanges_b b)
    → replies_of x.asked.made ≡ replies_of y.asked.made → IsOneFewest version_a version_b exchanges_a exchanges_b a b
