-- That how a client ended is one for the replies that it got, and these are those that a link records.
use Rattle.std.specs.Prelude.{◌≡◌, ℕ, ◌+◌, ◌-◌, ◌^◌, ◌<◌, List, [], ◌∷◌, ◌++◌, length, map, Option, Some}
use Rattle.std.specs.List.{All}
use Rattle.lc_model.specs.Journey.{arrives_at}
use Rattle.lc_model.specs.declared.query.Query.{Query}
use Rattle.connection_uri.specs.Base.{BaseParts}
use Rattle.lc_world.specs.Link.{LinkSeen, recorded_of}
use Rattle.lc_world.specs.declared.entry.Entry.{Entry}
use Rattle.lc_world.specs.declared.entry.RecordedReply.TheVariants.{Hidden}
use Rattle.page_client.specs.declared.outcome.Outcome.{Outcome}
use Rattle.page_client.specs.declared.outcome.Outcome.TheVariants as outcomes
use Rattle.convoy.specs.Replies.Ends.{EndsBy}
use Rattle.convoy.specs.Replies.Made.{AreEntriesOf, Made, TellsAll}
use Rattle.convoy.specs.Replies.Met.{AreMet, Met, exchanges_by, met_by}
use Rattle.convoy.specs.Replies.Run.{HasAsked}

-- The outcomes say the same. Their journeys arrive at one moment, or there is none, or they have one refusal, or the link failed, or one
-- reply fails one test.
abbrev pub SayTheSame : Outcome → Outcome → Type 0
SayTheSame (outcomes.Found a) (outcomes.Found b) = arrives_at a ≡ arrives_at b
SayTheSame outcomes.NoJourney outcomes.NoJourney = Unit {0}
SayTheSame (outcomes.Refused a) (outcomes.Refused b) = a ≡ b
SayTheSame (outcomes.LinkFault before_a after_a) (outcomes.LinkFault before_b after_b) = Unit {0}
SayTheSame (outcomes.PeerWrong reply_a fault_a) (outcomes.PeerWrong reply_b fault_b) = (reply_a ≡ reply_b) × (fault_a ≡ fault_b)
SayTheSame a b = ⊥

-- what was got, exchange for exchange: a reply, or none where it failed
abbrev pub replies_of : List Made → List (Option (List ℕ))
replies_of made = map (λ (m : Made). m.got) made

-- both wanted the same in each exchange, the version is one, and the outcomes say the same
pub record IsOneEnd (made_a made_b : List Made) (version_a version_b : Option ℕ) (a b : Outcome) : Type 0 where
  pub made : made_a ≡ made_b
  pub version : version_a ≡ version_b
  pub outcome : SayTheSame a b

-- a client of the question ends in one way by what it got
abbrev pub OneEnd : Type 0
OneEnd =
    (base : BaseParts) (query : Query) (before_a now_a before_b now_b : ℕ) (version_a version_b : Option ℕ) (made_a made_b : List Made) (a b : Outcome)
    → replies_of made_a ≡ replies_of made_b → EndsBy base query before_a now_a version_a made_a a → EndsBy base query before_b now_b version_b made_b b
    → IsOneEnd made_a made_b version_a version_b a b

-- the entry does not hide the reply, or that there was none
abbrev pub TellsReply : Entry → Type 0
TellsReply entry = entry.reply ≡ Hidden → ⊥

-- entries of which none hides its reply record what was got, exchange for exchange: they record a failure of no exchange that was replied to
abbrev pub GotIsRecorded : Type 0
GotIsRecorded =
    (base : BaseParts) (query : Query) (made : List Made) (entries : List Entry) → AreEntriesOf base query made entries → All TellsReply entries
    → map (λ (entry : Entry). entry.reply) entries ≡ map recorded_of (replies_of made)

-- where a link recorded exchanges, and hid no reply of them, a client of the question ended in one way by what is recorded
abbrev pub OneRecordedEnd : {X : Type 0} → (X → LinkSeen) → Type 0
OneRecordedEnd {X} seen =
    (base : BaseParts) (query : Query) (before after : X) (recorded entries : List Entry) (version_a version_b : Option ℕ) (exchanges_a exchanges_b : ℕ) (a b : Outcome)
    → (seen before).recorded ≡ Some recorded → (seen after).recorded ≡ Some (recorded ++ entries) → All TellsReply entries
    → (asked_a : HasAsked base query (seen before) (seen after) version_a exchanges_a a) (asked_b : HasAsked base query (seen before) (seen after) version_b exchanges_b b)
    → IsOneEnd asked_a.made asked_b.made version_a version_b a b

-- who is alone among the clients made exchanges for all that it received: they are counted, and recorded where the link records exchanges
abbrev pub AloneAsksAll : Type 0
AloneAsksAll =
    (base : BaseParts) (query : Query) (before after : Option (List Entry)) (faults now_faults : ℕ) (version : Option ℕ) (all : List Met) (outcome : Outcome)
    → AreMet base (query ∷ []) before after faults now_faults all → EndsBy base query faults now_faults version (met_by 1 all) outcome
    → (exchanges_by 1 all ≡ length (met_by 1 all)) × TellsAll base query (met_by 1 all) before after

-- The counts are those around the last of so many exchanges. The second is the count now. The first is that before, where there is one
-- exchange, or where the count increased by one in all, and not to its last value.
pub record AreAroundLast (exchanges before now low high : ℕ) : Type 0 where
  pub now_is : high ≡ now
  pub before_is : exchanges ≡ 1 → low ≡ before
  pub by_one : now ≡ before + 1 → now < 2 ^ 64 - 1 → low ≡ before

-- the counts of a fault of the link are those around the last exchange of the client that asked
abbrev pub FaultsAreAroundLast : {X : Type 0} → (X → LinkSeen) → Type 0
FaultsAreAroundLast {X} seen =
    (base : BaseParts) (query : Query) (before after : X) (version : Option ℕ) (exchanges low high : ℕ)
    → HasAsked base query (seen before) (seen after) version exchanges (outcomes.LinkFault low high)
    → AreAroundLast exchanges (seen before).faults (seen after).faults low high

-- a near value: shrunken counts, of which the second is less, are those of no fault
abbrev pub NoFaultIsShrunken : {X : Type 0} → (X → LinkSeen) → Type 0
NoFaultIsShrunken {X} seen =
    (base : BaseParts) (query : Query) (before after : X) (version : Option ℕ) (exchanges low high : ℕ)
    → HasAsked base query (seen before) (seen after) version exchanges (outcomes.LinkFault low high)
    → HasAsked base query (seen before) (seen after) version exchanges (outcomes.LinkFault (low + 1) (high - 1)) → ⊥
