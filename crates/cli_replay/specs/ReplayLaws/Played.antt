-- What was done in an event sequence: clients asked, the publisher at the link received messages, and clients had turns. X is the type of the
-- link, and `seen` what is promised of it.
use Rattle.std.specs.Prelude.{◌≡◌, ℕ, List, [], ◌∷◌, ◌++◌, Some}
use Rattle.connection_uri.specs.Base.{BaseParts}
use Rattle.convoy.specs.Finish.{IsStep}
use Rattle.convoy.specs.State.{Adds, ConvoyState}
use Rattle.convoy.specs.declared.member.Member.{Member}
use Rattle.convoy.specs.declared.turn.Turn.{Turn}
use Rattle.fragmenter.specs.Cutting.{chosen_cuts}
use Rattle.fragmenter.specs.declared.cutting.Cutting.{Cutting}
use Rattle.lc_io.specs.declared.file.File.{File}
use Rattle.lc_world.specs.Link.{LinkSeen}
use Rattle.page_client.specs.Client.{shown}
use Rattle.publisher.specs.Held.{Held, side_of}
use Rattle.lc_world.specs.Sides.Side.{IsValidSide}
use Rattle.version_store.specs.Store.{Stored}
use Rattle.cli_ask.specs.Admission.{IsBehind}
use Rattle.cli_ask.specs.declared.end.ClientEnd.{ClientEnd}
use Rattle.cli_replay.specs.declared.replay_laws.event.Event.{Event}
use Rattle.cli_replay.specs.declared.replay_laws.event.Event.TheVariants as events

-- The publisher at the other end of the link received the message of the file, and this is its line. Nothing else of the link has changed.
pub record IsGiven (before after : LinkSeen) (file : File) (line : List ℕ) : Type 0 where
  pub held : Held Cutting
  pub side_was : before.side ≡ Some (side_of chosen_cuts held)
  pub same_stops : held.store.stops ≡ held.doc.stops
  pub store : Stored
  pub behind : IsBehind (Some file) held.store store line
  pub side_is : after.side ≡ Some (side_of chosen_cuts (record held { store = store }))
  pub valid : IsValidSide (side_of chosen_cuts (record held { store = store }))
  pub recorded : after.recorded ≡ before.recorded
  pub honest : (base : BaseParts) → before.honest base → after.honest base
  pub quiet : (base : BaseParts) → before.quiet base → after.quiet base
  pub clear : before.clear → after.clear
  pub still : before.still → after.still
  pub faults : after.faults ≡ before.faults

-- all this happened, one after the other, and these are the lines of the messages
abbrev pub Plays : {X : Type 0} → (X → LinkSeen) → List Event → ConvoyState → ConvoyState → X → X → List ℕ → Type 0
Plays seen [] old new before after lines = (new ≡ old) × (after ≡ before) × (lines ≡ [])
Plays seen (events.Ask query ∷ more) old new before after lines =
    (between : ConvoyState) × Adds old query between × Plays seen more between new before after lines
Plays {X} seen (events.Message message ∷ more) old new before after lines =
    (link : X) × (line : List ℕ) × (rest : List ℕ) × IsGiven (seen before) (seen link) message.file line × Plays seen more old new link after rest × (lines ≡ line ++ rest)
Plays {X} seen (events.Turn client ∷ more) old new before after lines =
    (between : ConvoyState) × (link : X) × (turn : Turn) × IsStep seen client old between before link turn × Plays seen more between new link after lines

-- the end is that of the client
pub record HasEndedSo (member : Member) (end : ClientEnd) : Type 0 where
  pub version : end.version ≡ (shown member.client).version
  pub outcome : (shown member.client).outcome ≡ Some end.outcome
  pub exchanges : end.exchanges ≡ member.exchanges

-- the ends are those of the clients, in their order
abbrev pub HaveEndedSo : List Member → List ClientEnd → Type 0
HaveEndedSo [] [] = Unit {0}
HaveEndedSo [] (end ∷ ends) = ⊥
HaveEndedSo (member ∷ others) [] = ⊥
HaveEndedSo (member ∷ others) (end ∷ ends) = HasEndedSo member end × HaveEndedSo others ends
