-- What event sequences result in that were played over a link. X is the type of the link, and `seen` what is promised of it.
use Rattle.std.specs.Prelude.{◌≡◌, ◌≤◌, ℕ, ◌+◌, List, Option, Some, length, slice_get}
use Rattle.std.specs.List.{All}
use Rattle.cli_words.specs.declared.command.Publishing.{Publishing}
use Rattle.convoy.specs.Replies.Met.{HasFailedBetween, Met}
use Rattle.connection_uri.specs.Base.{BaseParts}
use Rattle.convoy.specs.Finish.{Rounds}
use Rattle.convoy.specs.State.{ConvoyState, begun}
use Rattle.convoy.specs.Agreement.Names.{Round}
use Rattle.lc_model.specs.declared.query.Query.{Query}
use Rattle.lc_world.specs.Link.{LinkSeen}
use Rattle.lc_world.specs.declared.entry.Entry.{Entry}
use Rattle.page_client.specs.declared.outcome.Outcome.TheVariants.{LinkFault}
use Rattle.lc_world.specs.Sides.Side.{IsValidSide}
use Rattle.timetable.specs.declared.timetable.Timetable.{Timetable}
use Rattle.cli_ask.specs.Block.{IsPrintable}
use Rattle.cli_ask.specs.Publishing.{side_with, store_of}
use Rattle.cli_ask.specs.declared.end.ClientEnd.{ClientEnd}
use Rattle.cli_replay.specs.ReplayLaws.Caused.{AreCaused}
use Rattle.cli_replay.specs.ReplayLaws.Events.{TurnsAreOfClients, questions_in}
use Rattle.cli_replay.specs.ReplayLaws.History.{AreMetIn}
use Rattle.cli_replay.specs.ReplayLaws.Played.{HaveEndedSo, Plays}
use Rattle.cli_replay.specs.ReplayLaws.Right.{ArePlayedRight}
use Rattle.cli_replay.specs.ReplayLaws.Turns.{order_of}
use Rattle.cli_replay.specs.ReplayLaws.Versions.{AreHeard, AreShort}
use Rattle.cli_replay.specs.declared.replay_laws.event.Event.{Event}
use Rattle.cli_replay.specs.ReplayLaws.Rounds.{all_rounds}

-- the link has the publisher of the timetable at its other end, which has heard nothing, and is quiet with it
pub record IsQuietAt (made : Timetable) (publishing : Publishing) (link : LinkSeen) : Type 0 where
  pub tells : link.side ≡ Some (side_with made publishing (store_of made publishing.base_moment))
  pub valid : IsValidSide (side_with made publishing (store_of made publishing.base_moment))
  pub honest : link.honest publishing.base
  pub quiet : link.quiet publishing.base

-- an event sequence that was played over a quiet link was played rightly, by what was received in its rounds
abbrev pub PlaysRight : {X : Type 0} → (X → LinkSeen) → Type 0
PlaysRight {X} seen =
    (made : Timetable) (publishing : Publishing) (all : List Event) (cache : ℕ) (played ended : ConvoyState) (start behind after : X) (lines : List ℕ) (ends : List ClientEnd) (met : List Met)
    → TurnsAreOfClients all → IsQuietAt made publishing (seen start) → AreShort made publishing all
    → (plays : Plays seen all (begun publishing.base cache) played start behind lines) → (rounds : Rounds seen (length played.members) played ended behind after)
    → HaveEndedSo ended.members ends → AreMetIn (order_of all) (all_rounds seen all (begun publishing.base cache) played ended start behind after lines plays rounds) met
    → ArePlayedRight made publishing all cache (seen start).recorded (seen after).recorded (seen start).faults (seen after).faults lines ends met

-- There is one end for each question, which has its cause, by what was received in these rounds, and can be printed. A clear link is clear still,
-- and its count has not fallen.
pub record ArePlayedCaused (base : BaseParts) (all : List Event) (cache : ℕ) (before after : LinkSeen) (ends : List ClientEnd) (rounds : List Round) : Type 0 where
  pub one_each : length ends ≡ length (questions_in all)
  pub caused : AreCaused base all cache before.recorded after.recorded before.faults after.faults ends
  pub met_in : AreMetIn (order_of all) rounds caused.met
  pub printable : All (λ (end : ClientEnd). IsPrintable end.outcome) ends
  pub clear : before.clear → after.clear
  pub not_fallen : before.faults ≤ after.faults

-- the ends of an event sequence over any link have their causes
abbrev pub PlaysCaused : {X : Type 0} → (X → LinkSeen) → Type 0
PlaysCaused {X} seen =
    (base : BaseParts) (all : List Event) (cache : ℕ) (played ended : ConvoyState) (start behind after : X) (lines : List ℕ) (ends : List ClientEnd)
    → TurnsAreOfClients all → (plays : Plays seen all (begun base cache) played start behind lines) → (rounds : Rounds seen (length played.members) played ended behind after)
    → HaveEndedSo ended.members ends
    → ArePlayedCaused base all cache (seen start) (seen after) ends (all_rounds seen all (begun base cache) played ended start behind after lines plays rounds)

-- the link has that publisher at its other end, whose side stays when a client asks it
pub record IsStillAt (made : Timetable) (publishing : Publishing) (link : LinkSeen) : Type 0 where
  pub tells : link.side ≡ Some (side_with made publishing (store_of made publishing.base_moment))
  pub still : link.still

-- the publisher heard the messages, and is left at the other end of the link with what it heard
pub record AreHeardAt (made : Timetable) (publishing : Publishing) (all : List Event) (lines : List ℕ) (link : LinkSeen) : Type 0 where
  pub heard : AreHeard made publishing all lines
  pub tells : link.side ≡ Some (side_with made publishing heard.store)

-- whatever replies came over such a link, the publisher heard the messages of the sequence one after the other, and these are their lines
abbrev pub PlaysHeard : {X : Type 0} → (X → LinkSeen) → Type 0
PlaysHeard {X} seen =
    (made : Timetable) (publishing : Publishing) (all : List Event) (cache : ℕ) (played : ConvoyState) (start behind : X) (lines : List ℕ)
    → IsStillAt made publishing (seen start) → Plays seen all (begun publishing.base cache) played start behind lines → AreHeardAt made publishing all lines (seen behind)

-- the lines of the messages are one text
abbrev pub OneHearing : Type 0
OneHearing = (made : Timetable) (publishing : Publishing) (all : List Event) (lines other : List ℕ) → AreHeard made publishing all lines → AreHeard made publishing all other → lines ≡ other

-- Over a clear link an exchange that failed ended its client, and no other, with the counts of the link before and after it.
abbrev pub FaultsAreOwn : Type 0
FaultsAreOwn =
    (made : Timetable) (publishing : Publishing) (all : List Event) (cache : ℕ) (recorded now_recorded : Option (List Entry)) (faults now_faults : ℕ) (lines : List ℕ) (ends : List ClientEnd)
    → (caused : AreCaused publishing.base all cache recorded now_recorded faults now_faults ends)
    → ArePlayedRight made publishing all cache recorded now_recorded faults now_faults lines ends caused.met
    → (place : ℕ) (query : Query) (end : ClientEnd) → slice_get (questions_in all) place ≡ Some query → slice_get ends place ≡ Some end
    → (low high : ℕ) → HasFailedBetween (place + 1) low high caused.met → end.outcome ≡ LinkFault low high
