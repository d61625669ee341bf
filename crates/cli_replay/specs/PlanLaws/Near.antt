-- Near values that the definitions of a plan refuse: wrong versions, wrong sides and wrong counts.
use Rattle.std.specs.Prelude.{◌≡◌, ◌<◌, ℕ, ◌+◌, List, [], ◌∷◌, ◌++◌, Some, None, length}
use Rattle.cli_ask.specs.declared.end.ClientEnd.{ClientEnd}
use Rattle.convoy.specs.ClientLaws.Wants.{IsNoFault}
use Rattle.convoy.specs.Agreement.Names.{Round}
use Rattle.cli_replay.specs.PlanLaws.Planned.{EndsAt}
use Rattle.cli_replay.specs.PlanLaws.Sides.{AreLater, sides_of}
use Rattle.cli_replay.specs.ReplayLaws.Turns.{asked_in, failed_in, given_in}
use Rattle.convoy.specs.ClientLaws.Stated.{version_at}
use Rattle.lc_model.specs.declared.query.Query.{Query}
use Rattle.lc_model.specs.declared.versions.update.Update.{Update}
use Rattle.page_client.specs.declared.outcome.Outcome.TheVariants.{LinkFault}
use Rattle.page_client.specs.declared.want.Want.{Want}
use Rattle.page_client.specs.declared.want.Want.TheVariants as wants
use Rattle.lc_world.specs.Sides.Side.{Side, newest_of, with_message}

-- A client that received the time gate's reply does not have the version that the side of another client's reply names.
abbrev pub NotAnothersVersion : Type 0
NotAnothersVersion =
    (last first second : Side) (query : Query) (round : Round) (more : List Want) (end : ClientEnd)
    → EndsAt last query (round ∷ []) (sides_of 2 (1 ∷ 2 ∷ []) (first ∷ second ∷ [])) end → round.given ≡ wants.Gate ∷ more
    → (version_at first query.known ≡ version_at second query.known → ⊥) → end.version ≡ Some (version_at first query.known) → ⊥

-- A client that names no known moment has no newer version than its side.
abbrev pub NotNewer : Type 0
NotNewer =
    (last side : Side) (query : Query) (round : Round) (more : List Want) (end : ClientEnd) (version : ℕ) → EndsAt last query (round ∷ []) (side ∷ []) end → query.known ≡ None
    → round.given ≡ wants.Gate ∷ more → newest_of side < version → end.version ≡ Some version → ⊥

-- a side that lost a message of the one before it is not a later one
abbrev pub NoneIsLost : Type 0
NoneIsLost = (side last : Side) (update : Update) (bytes : ℕ) (more : List Side) → AreLater (with_message side update bytes) (side ∷ more) last → ⊥

-- Of two that ended at a version, by no fault, neither received one want more, as one would that follows the time gate in place of the next link.
abbrev pub NotOneMore : Type 0
NotOneMore =
    (last : Side) (query : Query) (rounds longer : List Round) (sides others : List Side) (end other : ClientEnd) (want : Want) (more : List Want)
    → IsNoFault (Some end.outcome) → IsNoFault (Some other.outcome) → other.version ≡ end.version → EndsAt last query rounds sides end → EndsAt last query longer others other
    → given_in longer ≡ given_in rounds ++ want ∷ more → ⊥

-- and no client counts one exchange more than it asked for
abbrev pub NoneIsCountedTwice : Type 0
NoneIsCountedTwice =
    (last : Side) (query : Query) (rounds : List Round) (sides : List Side) (end : ClientEnd) → EndsAt last query rounds sides end → end.exchanges ≡ length (asked_in rounds) + 1 → ⊥

-- a client whose exchange with the time gate failed has no version
abbrev pub NoVersionAtGate : Type 0
NoVersionAtGate =
    (last : Side) (query : Query) (rounds : List Round) (sides : List Side) (end : ClientEnd) (low high version : ℕ) → EndsAt last query rounds sides end
    → end.outcome ≡ LinkFault low high → failed_in rounds ≡ wants.Gate ∷ [] → end.version ≡ Some version → ⊥

-- a client that lacks the stops document, since that exchange failed, has one
abbrev pub SomeVersionElse : Type 0
SomeVersionElse =
    (last : Side) (query : Query) (rounds : List Round) (sides : List Side) (end : ClientEnd) (low high : ℕ) → EndsAt last query rounds sides end
    → end.outcome ≡ LinkFault low high → failed_in rounds ≡ wants.Stops ∷ [] → end.version ≡ None → ⊥
