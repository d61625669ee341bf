-- That clients which plan over an honest link end rightly, also where its side grows. X is the type of the link, and `seen` what is promised of it.
use Rattle.std.specs.Prelude.{◌≡◌, ℕ, ◌+◌, List, [], ◌∷◌, Some, length, slice_get}
use Rattle.cli_ask.specs.Client.{Asks}
use Rattle.cli_ask.specs.declared.end.ClientEnd.{ClientEnd}
use Rattle.connection_uri.specs.Base.{BaseParts}
use Rattle.convoy.specs.Finish.{Rounds}
use Rattle.convoy.specs.State.{ConvoyState, begun}
use Rattle.cli_replay.specs.PlanLaws.Planned.{ArePlanned, IsPlanned, NoneIsMessage}
use Rattle.cli_replay.specs.PlanLaws.Replied.{TellsAlong}
use Rattle.cli_replay.specs.ReplayLaws.Caused.{AreCaused}
use Rattle.cli_replay.specs.ReplayLaws.Events.{TurnsAreOfClients, questions_in}
use Rattle.cli_replay.specs.ReplayLaws.History.{AreMetIn}
use Rattle.cli_replay.specs.ReplayLaws.Played.{HaveEndedSo, Plays}
use Rattle.cli_replay.specs.ReplayLaws.Rounds.{all_rounds}
use Rattle.cli_replay.specs.ReplayLaws.Turns.{order_of}
use Rattle.cli_replay.specs.declared.replay_laws.event.Event.{Event}
use Rattle.convoy.specs.Replies.Met.{HasFailedBetween}
use Rattle.lc_model.specs.declared.query.Query.{Query}
use Rattle.lc_world.specs.Link.{IsHonestWith, LinkSeen}
use Rattle.page_client.specs.declared.outcome.Outcome.TheVariants.{LinkFault}
use Rattle.lc_world.specs.Sides.Side.{Side}

-- where the events happened over an honest link, and each client was turned until it ended, each of them ended rightly by what it received
abbrev pub PlansRight : {X : Type 0} → (X → LinkSeen) → Type 0
PlansRight {X} seen =
    (base : BaseParts) (first : Side) (all : List Event) (cache : ℕ) (played ended : ConvoyState) (start behind after : X) (lines : List ℕ) (ends : List ClientEnd)
    → TurnsAreOfClients all → NoneIsMessage all → IsHonestWith (seen start) base first
    → (plays : Plays seen all (begun base cache) played start behind lines) → (rounds : Rounds seen (length played.members) played ended behind after) → HaveEndedSo ended.members ends
    → (caused : AreCaused base all cache (seen start).recorded (seen after).recorded (seen start).faults (seen after).faults ends)
    → AreMetIn (order_of all) (all_rounds seen all (begun base cache) played ended start behind after lines plays rounds) caused.met
    → ArePlanned base first all cache (seen start) (seen after) ends caused.met

-- An exchange that failed ended its client, and no other, with the link's counts of faults before and after it.
abbrev pub PlanFaultsAreOwn : {X : Type 0} → (X → LinkSeen) → Type 0
PlanFaultsAreOwn {X} seen =
    (base : BaseParts) (first : Side) (all : List Event) (cache : ℕ) (start after : X) (ends : List ClientEnd)
    → (caused : AreCaused base all cache (seen start).recorded (seen after).recorded (seen start).faults (seen after).faults ends)
    → ArePlanned base first all cache (seen start) (seen after) ends caused.met
    → (place : ℕ) (query : Query) (end : ClientEnd) → slice_get (questions_in all) place ≡ Some query → slice_get ends place ≡ Some end
    → (low high : ℕ) → HasFailedBetween (place + 1) low high caused.met → end.outcome ≡ LinkFault low high

-- Over an honest link each reply that is recorded is that of the publisher's side at its exchange.
abbrev pub PlanRecordsReplies : {X : Type 0} → (X → LinkSeen) → Type 0
PlanRecordsReplies {X} seen =
    (base : BaseParts) (first : Side) (all : List Event) (cache : ℕ) (played ended : ConvoyState) (start behind after : X) (lines : List ℕ) → NoneIsMessage all → IsHonestWith (seen start) base first
    → Plays seen all (begun base cache) played start behind lines → Rounds seen (length played.members) played ended behind after → TellsAlong first (seen start) (seen after)

-- Over any link the one client of a plan asked as a client does that asks alone. Its replies are those that the link records, where it records
-- replies.
abbrev pub OneClientAsks : {X : Type 0} → (X → LinkSeen) → Type 0
OneClientAsks {X} seen =
    (base : BaseParts) (all : List Event) (cache : ℕ) (query : Query) (before after : X) (text : List ℕ) (end : ClientEnd) → questions_in all ≡ query ∷ []
    → IsPlanned base all cache (seen before) (seen after) text (end ∷ []) → Asks base query (seen before) (seen after) end
