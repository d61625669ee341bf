-- What is heard in an event sequence over a link whose side stays at a GET, whatever it replies.
use Rattle.std.proofs.Common.{◌≡◌, ℕ, inl, inr, List, [], ◌∷◌, Some, refl, ap, sym, subst, ◌∙◌}
use Rattle.cli_ask.specs.Admission.{IsBehind}
use Rattle.cli_ask.specs.Publishing.{side_with, store_of}
use Rattle.cli_words.specs.declared.command.Publishing.{Publishing}
use Rattle.convoy.specs.Exchange.{Got, IsExchange}
use Rattle.convoy.specs.Finish.{IsStep}
use Rattle.convoy.specs.State.{ConvoyState, begun}
use Rattle.convoy.specs.Turn.{Asks, IsExchanged}
use Rattle.convoy.specs.declared.turn.Turn.{Turn}
use Rattle.convoy.specs.declared.turn.Turn.TheVariants.{Cached, Exchanged, Finished}
use Rattle.connection_uri.specs.Base.{BaseParts}
use Rattle.fragmenter.specs.Cutting.{chosen_cuts}
use Rattle.convoy.proofs.AgreementLemmas.HonestLemmas.{is_get}
use Rattle.lc_io.specs.declared.file.File.{File}
use Rattle.lc_world.specs.Link.{LinkSeen}
use Rattle.page_client.specs.Client.{shown}
use Rattle.page_client.specs.Shown.{Shown}
use Rattle.page_client.specs.declared.client.Client.{Client}
use Rattle.publisher.specs.Held.{side_of}
use Rattle.timetable.specs.declared.timetable.Timetable.{Timetable}
use Rattle.version_store.specs.Store.{Stored}
use Rattle.cli_replay.specs.ReplayLaws.Laws.{PlaysHeard}
use Rattle.cli_replay.specs.ReplayLaws.Played.{IsGiven, Plays}
use Rattle.cli_replay.specs.ReplayLaws.Versions.{HasHeard}
use Rattle.cli_replay.specs.declared.replay_laws.event.Event.{Event}
use Rattle.cli_replay.specs.declared.replay_laws.event.Event.TheVariants as events
use Rattle.cli_replay.proofs.ReplayLawsLemmas.HearsLemmas.{own_store, side_then, stops_behind}

-- an exchange leaves the side of a link that keeps it
exchange_stays : (base : BaseParts) (s : Shown) (before after : LinkSeen) (got : Got) → IsExchange base s before after got → before.still → (after.side ≡ before.side) × after.still
exchange_stays base s before after got ex still = (ex.side still (is_get base _ _ ex.request ex.asks), ex.still still)

asks_stays : (base : BaseParts) (was is : Client) (old new : ConvoyState) (before after : LinkSeen) → Asks base was is old.kept new.kept before after → before.still →
    (after.side ≡ before.side) × after.still
asks_stays base was is old new before after (inl (asks, same)) still = exchange_stays base (shown was) before after asks.got asks.exchange still
asks_stays base was is old new before after (inr (inl (asks, same))) still = exchange_stays base (shown was) before after asks.got asks.exchange still
asks_stays base was is old new before after (inr (inr asks)) still = exchange_stays base (shown was) before after asks.got asks.exchange still

-- a turn leaves it too
pub turn_stays : {X : Type 0} (seen : X → LinkSeen) (k : ℕ) (turn : Turn) (old new : ConvoyState) (before after : X) → IsStep seen k old new before after turn → (seen before).still →
    ((seen after).side ≡ (seen before).side) × (seen after).still
turn_stays {X} seen k Finished old new before after step still = subst (λ (x : X). ((seen x).side ≡ (seen before).side) × (seen x).still) (sym (step.idle (λ e. cc))) (refl, still)
turn_stays {X} seen k Cached old new before after step still = subst (λ (x : X). ((seen x).side ≡ (seen before).side) × (seen x).still) (sym (step.idle (λ e. cc))) (refl, still)
turn_stays seen k Exchanged old new before after step still =
    let s = step.turned in
    let t : IsExchanged old.base s.was s.is old.kept new.kept (seen before) (seen after) = s.turned in
    asks_stays old.base s.was.client s.is.client old new (seen before) (seen after) t.asks still

-- a message that a publisher with this store receives
module _ (made : Timetable) (publishing : Publishing) (file : File) (store : Stored) (stops : store.stops ≡ made.doc.stops) (before after : LinkSeen) (line : List ℕ)
    (tells : before.side ≡ Some (side_with made publishing store)) (given : IsGiven before after file line) where
  same : side_of chosen_cuts given.held ≡ side_with made publishing store
  same = (let both : Some (side_of chosen_cuts given.held) ≡ Some (side_with made publishing store) = sym given.side_was ∙ tells in cc)

  pub behind : IsBehind (Some file) store given.store line
  behind = subst (λ (s : Stored). IsBehind (Some file) s given.store line) (own_store made publishing given.held store same given.same_stops stops) given.behind

  pub side_is : side_of chosen_cuts (record given.held { store = given.store }) ≡ side_with made publishing given.store
  side_is = side_then made publishing given.held store same given.store

  pub tells_then : after.side ≡ Some (side_with made publishing given.store)
  tells_then = given.side_is ∙ ap Some side_is

  pub stops_then : given.store.stops ≡ made.doc.stops
  stops_then = stops_behind file store given.store line behind ∙ stops

-- what is heard from a store on, and what the link has then
record HeardOn (made : Timetable) (publishing : Publishing) (all : List Event) (old : Stored) (lines : List ℕ) (link : LinkSeen) : Type 0 where
  store : Stored
  heard : HasHeard all old store lines
  tells : link.side ≡ Some (side_with made publishing store)

heard_on :
    {X : Type 0} (seen : X → LinkSeen) (made : Timetable) (publishing : Publishing) (all : List Event) (store : Stored) (old new : ConvoyState) (before after : X) (lines : List ℕ) → store.stops ≡ made.doc.stops →
    (seen before).side ≡ Some (side_with made publishing store) → (seen before).still → Plays seen all old new before after lines → HeardOn made publishing all store lines (seen after)
heard_on {X} seen made publishing [] store old new before after lines stops tells still (_, same, none) =
    record { store = store; heard = (refl, none); tells = ap (λ (x : X). (seen x).side) same ∙ tells }
heard_on seen made publishing (events.Ask query ∷ more) store old new before after lines stops tells still (between, adds, plays) =
    let rest = heard_on seen made publishing more store between new before after lines stops tells still plays in
    record { store = rest.store; heard = rest.heard; tells = rest.tells }
heard_on seen made publishing (events.Message message ∷ more) store old new before after lines stops tells still (link, line, others, given, plays, is) =
    let rest = heard_on seen made publishing more given.store old new link after others (stops_then made publishing message.file store stops (seen before) (seen link) line tells given)
    (tells_then made publishing message.file store stops (seen before) (seen link) line tells given) (given.still still) plays in
    record { store = rest.store; heard = (given.store, line, others, behind made publishing message.file store stops (seen before) (seen link) line tells given, rest.heard, is); tells = rest.tells }
heard_on seen made publishing (events.Turn client ∷ more) store old new before after lines stops tells still (between, link, turn, step, plays) =
    let stays = turn_stays seen client turn old between before link step still in
    let rest = heard_on seen made publishing more store between new link after lines stops (stays.0 ∙ tells) stays.1 plays in
    record { store = rest.store; heard = rest.heard; tells = rest.tells }

pub plays_heard : {X : Type 0} (seen : X → LinkSeen) → PlaysHeard seen
plays_heard seen made publishing all cache played start behind lines at plays =
    let on = heard_on seen made publishing all (store_of made publishing.base_moment) (begun publishing.base cache) played start behind lines refl at.tells at.still plays in
    record { heard = record { store = on.store; heard = on.heard }; tells = on.tells }
