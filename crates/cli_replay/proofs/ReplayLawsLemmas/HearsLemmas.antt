-- The publisher at the link of an event sequence receives a message.
use Rattle.std.proofs.Common.{◌≡◌, ℕ, zero, suc, ◌+◌, inl, inr, List, [], ◌∷◌, ◌++◌, length, Option, Some, None, refl, ap, sym, subst, ◌∙◌}
use Rattle.std.specs.List.{slice_get}
use Rattle.std.proofs.lemmas.List.{append-nil}
use Rattle.convoy.specs.ClientLaws.Fits.{IsOfSide}
use Rattle.convoy.specs.ClientLaws.Laws.{WantsStay}
use Rattle.cli_words.specs.declared.command.Publishing.{Publishing}
use Rattle.convoy.specs.State.{ConvoyState}
use Rattle.convoy.specs.declared.member.Member.{Member}
use Rattle.convoy.specs.Agreement.Agreement.{AllFit}
use Rattle.convoy.specs.Agreement.Laws.{LaterAgrees}
use Rattle.convoy.specs.Agreement.Names.{Round, failures_in}
use Rattle.convoy.specs.Agreement.Requests.{TellsRequests}
use Rattle.fragmenter.specs.Cutting.{chosen_cuts}
use Rattle.fragmenter.specs.declared.cutting.Cutting.{Cutting}
use Rattle.lc_io.specs.Counts.{RoseBy}
use Rattle.lc_io.specs.declared.file.File.{File}
use Rattle.lc_model.specs.declared.query.Query.{Query}
use Rattle.lc_model.specs.declared.run.Run.{Run}
use Rattle.lc_model.specs.declared.stop.Stop.{Stop}
use Rattle.lc_time.specs.declared.zone.Zone.{Zone}
use Rattle.lc_model.specs.Versions.History.{Entry}
use Rattle.lc_world.specs.Link.{LinkSeen}
use Rattle.lc_world.specs.declared.entry.Entry.{Entry as RecordedEntry}
use Rattle.page_client.specs.Client.{shown}
use Rattle.page_client.specs.declared.outcome.Outcome.{Outcome}
use Rattle.page_client.specs.declared.outcome.Outcome.TheVariants as outcomes
use Rattle.page_client.specs.declared.want.Want.{Want}
use Rattle.publisher.specs.Held.{Held, side_of}
use Rattle.lc_world.specs.Sides.Short.{IsShort}
use Rattle.lc_world.specs.Sides.Side.{IsLater, IsValidSide, Side}
use Rattle.timetable.specs.declared.timetable.Timetable.{Timetable}
use Rattle.version_store.specs.Store.{Stored, entry_of}
use Rattle.cli_ask.specs.Admission.{IsBehind}
use Rattle.cli_ask.specs.Publishing.{side_with, store_of}
use Rattle.cli_replay.proofs.ReplayLawsLemmas.EventLemmas.{given_none, heard_behind_message, meant_on, questions_behind_message, turns_behind_message}
use Rattle.cli_replay.proofs.ReplayLawsLemmas.PlayedTo.{HasFailedSo, IsMemberSo, IsPlayedTo}
use Rattle.cli_replay.specs.ReplayLaws.Events.{questions_in, turns_in}
use Rattle.cli_replay.specs.ReplayLaws.Played.{IsGiven}
use Rattle.cli_replay.specs.ReplayLaws.Right.{FailsAtNext, FailsWith}
use Rattle.cli_replay.specs.ReplayLaws.Turns.{failed_in, given_in, requests_in, rounds_of}
use Rattle.cli_replay.specs.ReplayLaws.Versions.{HasHeard}
use Rattle.cli_replay.specs.declared.replay_laws.event.Event.{Event}
use Rattle.cli_replay.specs.declared.replay_laws.event.Event.TheVariants as events
use Rattle.cli_replay.specs.declared.replay_laws.message.Message.{Message}

-- messages leave the stops of a store

pub stops_behind : (file : File) (old new : Stored) (line : List ℕ) → IsBehind (Some file) old new line → new.stops ≡ old.stops
stops_behind file old new line (inl admitted) = ap (λ (store : Stored). store.stops) admitted.admits.appended
stops_behind file old new line (inr passed) = ap (λ (store : Stored). store.stops) passed.same

pub stops_heard : (done : List Event) (old new : Stored) (lines : List ℕ) → HasHeard done old new lines → new.stops ≡ old.stops
stops_heard [] old new lines heard = ap (λ (store : Stored). store.stops) heard.0
stops_heard (events.Ask query ∷ done) old new lines heard = stops_heard done old new lines heard
stops_heard (events.Message message ∷ done) old new lines (between, line, rest, behind, heard, all) =
    stops_heard done between new rest heard ∙ stops_behind message.file old between line behind
stops_heard (events.Turn client ∷ done) old new lines heard = stops_heard done old new lines heard

-- a side is one
one_side : (recorded : Option Side) (a b : Side) → recorded ≡ Some a → recorded ≡ Some b → a ≡ b
one_side recorded a b first second = cc

-- stores whose parts are the same are one
same_store : (a b : Stored) → a.runs ≡ b.runs → a.stops ≡ b.stops → a.zone ≡ b.zone → a.base ≡ b.base → a.history ≡ b.history → a ≡ b
same_store a b runs stops zone base history =
    let from_runs : a ≡ record a { runs = b.runs } = ap (λ (x : List Run). record a { runs = x }) runs in
    let from_stops : record a { runs = b.runs } ≡ record a { runs = b.runs; stops = b.stops } = ap (λ (x : List Stop). record a { runs = b.runs; stops = x }) stops in
    let from_zone : record a { runs = b.runs; stops = b.stops } ≡ record a { runs = b.runs; stops = b.stops; zone = b.zone } =
    ap (λ (x : Zone). record a { runs = b.runs; stops = b.stops; zone = x }) zone in
    let from_base : record a { runs = b.runs; stops = b.stops; zone = b.zone } ≡ record a { runs = b.runs; stops = b.stops; zone = b.zone; base = b.base } =
    ap (λ (x : ℕ). record a { runs = b.runs; stops = b.stops; zone = b.zone; base = x }) base in
    let from_history : record a { runs = b.runs; stops = b.stops; zone = b.zone; base = b.base } ≡ b =
    ap (λ (x : List Entry). record a { runs = b.runs; stops = b.stops; zone = b.zone; base = b.base; history = x }) history in
    from_runs ∙ from_stops ∙ from_zone ∙ from_base ∙ from_history

-- the side that has the parts of another store in the place of its own
abbrev in_place : Stored → Side → Side
in_place store side = record side { runs = store.runs; base_moment = store.base; zone = store.zone; history = store.history }

module _ (made : Timetable) (publishing : Publishing) (held : Held Cutting) (own : Stored) (same : side_of chosen_cuts held ≡ side_with made publishing own) where
  -- what a publisher has that stands for the side of this store is the store
  pub own_store : held.store.stops ≡ held.doc.stops → own.stops ≡ made.doc.stops → held.store ≡ own
  own_store stops own_stops =
      same_store held.store own (ap (λ (side : Side). side.runs) same) (stops ∙ ap (λ (side : Side). side.doc.stops) same ∙ sym own_stops) (ap (λ (side : Side). side.zone) same)
      (ap (λ (side : Side). side.base_moment) same) (ap (λ (side : Side). side.history) same)

  -- the side of each other store is the one with that store
  pub side_then : (store : Stored) → side_of chosen_cuts (record held { store = store }) ≡ side_with made publishing store
  side_then store = ap (in_place store) same

-- after a message the side is a later one
pub later_behind : (made : Timetable) (publishing : Publishing) (file : File) (old new : Stored) (line : List ℕ) → IsBehind (Some file) old new line →
    IsLater (side_with made publishing old) (side_with made publishing new)
later_behind made publishing file old new line (inl admitted) = record {
  more = entry_of admitted.admits.update (length file.bytes) ∷ [];
  is = ap (side_with made publishing) admitted.admits.appended;
}
later_behind made publishing file old new line (inr passed) = record {
  more = [];
  is =
      ap (side_with made publishing) passed.same
      ∙ ap (λ (history : List Entry). let side : Side = record (side_with made publishing old) { history = history } in side) (sym (append-nil old.history));
}

-- the version of a client that agrees with a side is one of it
pub of_side_at : (side : Side) (members : List Member) (given : List (List Want)) (place : ℕ) (member : Member) → AllFit side members given → slice_get members place ≡ Some member →
    IsOfSide side (shown member.client).version
of_side_at side [] given place member all is = absurd (cc)
of_side_at side (first ∷ members) [] place member all is = absurd all
of_side_at side (first ∷ members) (own ∷ given) zero member all is =
    let same : first ≡ member = cc in
    subst (λ (m : Member). IsOfSide side (shown m.client).version) same all.0.of_side
of_side_at side (first ∷ members) (own ∷ given) (suc place) member all is = of_side_at side members given place member all.1 is

-- what failed so failed so by a later side
module _ (before after : Side) (query : Query) (version : Option ℕ) (given failed : List Want) (wants_stay : WantsStay) (valid : IsValidSide after) (later : IsLater before after) (of_side : IsOfSide before version) where
  next_later : FailsAtNext before query version given failed → FailsAtNext after query version given failed
  next_later fails = record {
    want = fails.want;
    one = fails.one;
    gate = fails.gate;
    next = λ at all is are. fails.next at all is ((wants_stay query all before after at valid later (subst (IsOfSide before) is of_side)).1 are);
  }

  with_later : (outcome : Outcome) → FailsWith before query version given failed outcome → FailsWith after query version given failed outcome
  with_later (outcomes.Found journey) fails = fails
  with_later outcomes.NoJourney fails = fails
  with_later (outcomes.Refused fault) fails = fails
  with_later (outcomes.LinkFault low high) fails = next_later fails
  with_later (outcomes.PeerWrong reply fault) fails = fails

  pub failed_later : (outcome : Option Outcome) → HasFailedSo before query version given failed outcome → HasFailedSo after query version given failed outcome
  failed_later None fails = fails
  failed_later (Some outcome) fails = with_later outcome fails

-- the publisher receives the message
module _
    (made : Timetable) (publishing : Publishing) (cache : ℕ) (done : List Event) (message : Message) (convoy : ConvoyState) (start before after : LinkSeen) (lines line : List ℕ)
    (later_agrees : LaterAgrees) (wants_stay : WantsStay) (rounds : List Round) (played : IsPlayedTo made publishing cache done convoy start before lines rounds) (given : IsGiven before after message.file line)
    (short : (store : Stored) (all_lines : List ℕ) → HasHeard (done ++ events.Message message ∷ []) (store_of made publishing.base_moment) store all_lines → IsShort (side_with made publishing store)) where
  same : side_of chosen_cuts given.held ≡ side_with made publishing played.store
  same = one_side before.side (side_of chosen_cuts given.held) (side_with made publishing played.store) given.side_was played.quiet.as_honest.tells

  behind : IsBehind (Some message.file) played.store given.store line
  behind =
      subst (λ (store : Stored). IsBehind (Some message.file) store given.store line)
      (own_store made publishing given.held played.store same given.same_stops (stops_heard done (store_of made publishing.base_moment) played.store lines played.heard)) given.behind

  heard : HasHeard (done ++ events.Message message ∷ []) (store_of made publishing.base_moment) given.store (lines ++ line)
  heard = heard_behind_message done message (store_of made publishing.base_moment) played.store given.store lines line played.heard behind

  side_is : side_of chosen_cuts (record given.held { store = given.store }) ≡ side_with made publishing given.store
  side_is = side_then made publishing given.held played.store same given.store

  valid : IsValidSide (side_with made publishing given.store)
  valid = subst IsValidSide side_is given.valid

  later : IsLater (side_with made publishing played.store) (side_with made publishing given.store)
  later = later_behind made publishing message.file played.store given.store line behind

  so : (place : ℕ) (query : Query) (member : Member) (own : List Want) → slice_get convoy.members place ≡ Some member →
      IsMemberSo made publishing done (side_with made publishing played.store) (place + 1) query member own (rounds_of (place + 1) (turns_in done) rounds) →
      IsMemberSo made publishing (done ++ events.Message message ∷ []) (side_with made publishing given.store) (place + 1) query member own (rounds_of (place + 1) (turns_in done) rounds)
  so place query member own is_member was = record {
    question = was.question;
    given_is = was.given_is;
    meant =
        meant_on made publishing done (place + 1) query (given_in (rounds_of (place + 1) (turns_in done) rounds)) (shown member.client).version (events.Message message ∷ []) given.store (lines ++ line)
        (turns_behind_message done message) (given_none (place + 1) (turns_in done) rounds) heard was.meant;
    count = was.count;
    met = was.met;
    failed =
        failed_later (side_with made publishing played.store) (side_with made publishing given.store) query (shown member.client).version (given_in (rounds_of (place + 1) (turns_in done) rounds))
        (failed_in (rounds_of (place + 1) (turns_in done) rounds)) wants_stay valid later
        (of_side_at (side_with made publishing played.store) convoy.members played.given place member played.fits.clients is_member) (shown member.client).outcome was.failed;
  }

  requests_stay : requests_in publishing.base (questions_in (done ++ events.Message message ∷ [])) (turns_in (done ++ events.Message message ∷ [])) rounds
      ≡ requests_in publishing.base (questions_in done) (turns_in done) rounds
  requests_stay =
      ap (λ (questions : List Query). requests_in publishing.base questions (turns_in (done ++ events.Message message ∷ [])) rounds) (questions_behind_message done message)
      ∙ ap (λ (order : List ℕ). requests_in publishing.base (questions_in done) order rounds) (turns_behind_message done message)

  pub hears : IsPlayedTo made publishing cache (done ++ events.Message message ∷ []) convoy start after (lines ++ line) rounds
  hears = record {
    store = given.store;
    heard = heard;
    quiet = record {
      as_honest = record {
        tells = given.side_is ∙ ap Some side_is;
        stands = record { is_base = refl; valid = valid; short = short given.store (lines ++ line) heard };
        honest = given.honest publishing.base played.quiet.as_honest.honest;
      };
      quiet = given.quiet publishing.base played.quiet.quiet;
    };
    base = played.base;
    capacity = played.capacity;
    given = played.given;
    fits = later_agrees (side_with made publishing played.store) (side_with made publishing given.store) convoy played.given valid later played.fits;
    clients = played.clients ∙ sym (ap length (questions_behind_message done message));
    one_each = played.one_each ∙ sym (ap length (turns_behind_message done message));
    by_names = played.by_names;
    names = played.names;
    tells =
        subst (λ (recorded : Option (List RecordedEntry)). TellsRequests start.recorded recorded publishing.base.authority (requests_in publishing.base (questions_in (done ++ events.Message message ∷ [])) (turns_in (done ++ events.Message message ∷ [])) rounds))
        (sym given.recorded) (subst (TellsRequests start.recorded before.recorded publishing.base.authority) (sym requests_stay) played.tells);
    rose = subst (RoseBy (failures_in rounds) start.faults) (sym given.faults) played.rose;
    members = λ place query member own is_asked is_member is_own.
        subst (λ (order : List ℕ). IsMemberSo made publishing (done ++ events.Message message ∷ []) (side_with made publishing given.store) (place + 1) query member own (rounds_of (place + 1) order rounds))
        (sym (turns_behind_message done message))
        (so place query member own is_member
        (played.members place query member own (subst (λ (l : List Query). slice_get l place ≡ Some query) (questions_behind_message done message) is_asked) is_member is_own));
  }
