-- The events that a script of questions and turns says.
use Rattle.std.proofs.Common.{◌≡◌, ◌+◌, ◌++◌, ◌∷◌, ℕ, zero, suc, All, List, [], Some, arith, refl, subst, sym, take}
use Rattle.std.proofs.lemmas.List.Elements.{All-cons, All-nil}
use Rattle.std.specs.List.{slice_get}
use Rattle.lc_io.specs.Folder.{FolderSeen}
use Rattle.cli_replay.specs.ReplayLaws.Events.{TurnsAreOfClients}
use Rattle.cli_replay.specs.declared.replay_laws.event.Event.{Event}
use Rattle.cli_replay.specs.declared.replay_laws.event.Event.TheVariants as events
use Rattle.journey_text.specs.Script.{TurnsAreOfClients as AreOfClients}
use Rattle.journey_text.specs.declared.script.Record.{Record}
use Rattle.journey_text.specs.declared.script.Record.TheVariants as records
use Rattle.cli_replay.specs.Inputs.Plan.{AddsSaid, IsNoMessage, SayEvents, SaysEvent}
use Rattle.cli_replay.specs.Inputs.Script.{IsEventOf, ReadsEvents}
use Rattle.cli_replay.proofs.InputsLemmas.ScriptLemmas.{turns_read}

say_next : (script : List Record) (place : ℕ) (said : Record) (all : List Event) (event : Event) → slice_get script place ≡ Some said
    → SayEvents (take place script) all → SaysEvent said event → SayEvents (take (suc place) script) (all ++ event ∷ [])
say_next [] place said all event is say next = absurd (none place is) where
  none : (n : ℕ) → slice_get [] n ≡ Some said → ⊥
  none n e = cc
say_next (first ∷ script) zero said [] event is say next =
    let same : first ≡ said = cc in
    (subst (λ (r : Record). SaysEvent r event) (sym same) next, tt)
say_next (first ∷ script) zero said (other ∷ all) event is say next = absurd say
say_next (first ∷ script) (suc place) said [] event is say next = absurd say
say_next (first ∷ script) (suc place) said (other ∷ all) event is (one, more) next =
    (one, say_next script place said all event is more next)

-- with the record at the place the records say one event more
pub say_more : (script : List Record) (place : ℕ) (said : Record) (all more : List Event) → slice_get script place ≡ Some said
    → SayEvents (take place script) all → AddsSaid said all more → SayEvents (take (place + 1) script) more
say_more script place said all more is say adds =
    subst (λ (n : ℕ). SayEvents (take n script) more) (let e : suc place ≡ place + 1 = omega arith in e)
    (subst (SayEvents (take (suc place) script)) (sym adds.1) (say_next script place said all adds.0 is say adds.2))

-- what a record says is no message
no_message : (said : Record) (event : Event) → SaysEvent said event → IsNoMessage event
no_message (records.Ask query) (events.Ask asked) is = tt
no_message (records.Ask query) (events.Message message) is = absurd is
no_message (records.Ask query) (events.Turn client) is = absurd is
no_message (records.Update name) (events.Ask asked) is = absurd is
no_message (records.Update name) (events.Message message) is = absurd is
no_message (records.Update name) (events.Turn client) is = absurd is
no_message (records.Turn other) (events.Ask asked) is = absurd is
no_message (records.Turn other) (events.Message message) is = absurd is
no_message (records.Turn other) (events.Turn client) is = tt

pub no_messages : (script : List Record) (all : List Event) → SayEvents script all → All IsNoMessage all
no_messages [] [] say = All-nil IsNoMessage
no_messages [] (event ∷ all) say = absurd say
no_messages (said ∷ script) [] say = absurd say
no_messages (said ∷ script) (event ∷ all) (one, more) = All-cons IsNoMessage event all (no_message said event one) (no_messages script all more)

-- what a record says is its event, for which nothing is read
is_event : (folder : FolderSeen) (said : Record) (event : Event) → SaysEvent said event → IsEventOf said folder folder event
is_event folder (records.Ask query) (events.Ask asked) is = (is, refl)
is_event folder (records.Ask query) (events.Message message) is = absurd is
is_event folder (records.Ask query) (events.Turn client) is = absurd is
is_event folder (records.Update name) (events.Ask asked) is = absurd is
is_event folder (records.Update name) (events.Message message) is = absurd is
is_event folder (records.Update name) (events.Turn client) is = absurd is
is_event folder (records.Turn other) (events.Ask asked) is = absurd is
is_event folder (records.Turn other) (events.Message message) is = absurd is
is_event folder (records.Turn other) (events.Turn client) is = (is, refl)

are_events : (folder : FolderSeen) (script : List Record) (all : List Event) → SayEvents script all → ReadsEvents script folder folder all
are_events folder [] [] say = refl
are_events folder [] (event ∷ all) say = absurd say
are_events folder (said ∷ script) [] say = absurd say
are_events folder (said ∷ script) (event ∷ all) (one, more) = (folder, is_event folder said event one, are_events folder script all more)

-- the turns of the events are those of clients, as the turns of the script are
pub turns_said : (folder : FolderSeen) (script : List Record) (all : List Event) → SayEvents script all → AreOfClients script → TurnsAreOfClients all
turns_said folder script all say of_clients = turns_read script folder folder all (are_events folder script all say) of_clients
