-- An event sequence begins, and a client asks.
use Rattle.std.proofs.Common.{◌≡◌, ℕ, suc, ◌+◌, ◌<◌, ◌≤◌, ◌⊎◌, inl, inr, false, List, [], ◌∷◌, ◌++◌, length, Option, Some, None, refl, ap, sym, subst, ◌∙◌, arith}
use Rattle.std.specs.List.{slice_get}
use Rattle.std.proofs.lemmas.List.{length-append}
use Rattle.std.proofs.lemmas.List.Elements.{All-nil}
use Rattle.std.proofs.lemmas.Option.{slice_get_within}
use Rattle.csa_scan.proofs.ListPlacesLemmas.{push_cases, slice_get-last}
use Rattle.cli_words.specs.declared.command.Publishing.{Publishing}
use Rattle.convoy.specs.State.{Adds, ConvoyState, begun}
use Rattle.convoy.specs.declared.member.Member.{Member}
use Rattle.convoy.specs.Agreement.Agreement.{AllFit, FitsConvoy}
use Rattle.convoy.specs.Agreement.Laws.{AddedAgrees, NoneAgrees}
use Rattle.convoy.specs.Agreement.Names.{Round}
use Rattle.convoy.specs.Agreement.Requests.{TellsRequests}
use Rattle.lc_io.proofs.CountLemmas.{RoseBy-none}
use Rattle.lc_model.specs.declared.query.Query.{Query}
use Rattle.lc_world.specs.Link.{LinkSeen}
use Rattle.page_client.specs.Client.{shown}
use Rattle.page_client.specs.Shown.{Shown, first_outcome}
use Rattle.page_client.specs.declared.fault.QueryFault.{QueryFault}
use Rattle.page_client.specs.declared.outcome.Outcome.{Outcome}
use Rattle.page_client.specs.declared.want.Want.{Want}
use Rattle.lc_world.specs.Sides.Short.{IsShort}
use Rattle.lc_world.specs.Sides.Side.{Side}
use Rattle.timetable.specs.declared.timetable.Timetable.{Timetable}
use Rattle.version_store.specs.Store.{Stored}
use Rattle.cli_ask.specs.Publishing.{side_with, store_of}
use Rattle.cli_replay.specs.ReplayLaws.Laws.{IsQuietAt}
use Rattle.cli_replay.proofs.ReplayLawsLemmas.EventLemmas.{before_none, given_none, has_turn, heard_behind_ask, meant_on, no_turn_yet, questions_in-append, requests_of_more, rounds_of-none, slice_get-more, tells_none, turns_behind_ask, turns_of_clients}
use Rattle.cli_replay.proofs.ReplayLawsLemmas.PlayedTo.{HasFailedSo, HasMet, IsMemberSo, IsPlayedTo}
use Rattle.cli_replay.specs.ReplayLaws.Events.{TurnsAreOfClients, questions_in, turns_in}
use Rattle.cli_replay.specs.ReplayLaws.Turns.{IsIdle, IsOne, given_in, requests_in, rounds_of}
use Rattle.cli_replay.specs.ReplayLaws.Versions.{HasHeard}
use Rattle.cli_replay.specs.declared.replay_laws.event.Event.{Event}
use Rattle.cli_replay.specs.declared.replay_laws.event.Event.TheVariants as events

not_at_nothing : {X : Type 0} (place : ℕ) (x : X) → slice_get [] place ≡ Some x → ⊥
not_at_nothing place x is = cc

no_less : (n : ℕ) → n ≤ n
no_less n = omega arith

-- nothing was done yet
pub begins : (made : Timetable) (publishing : Publishing) (cache : ℕ) (start : LinkSeen) → NoneAgrees → IsQuietAt made publishing start →
    IsShort (side_with made publishing (store_of made publishing.base_moment)) → IsPlayedTo made publishing cache [] (begun publishing.base cache) start start [] []
begins made publishing cache start none_agrees quiet short = record {
  store = store_of made publishing.base_moment;
  heard = (refl, refl);
  quiet = record {
    as_honest = record { tells = quiet.tells; stands = record { is_base = refl; valid = quiet.valid; short = short }; honest = quiet.honest };
    quiet = quiet.quiet;
  };
  base = refl;
  capacity = refl;
  given = [];
  fits = none_agrees (side_with made publishing (store_of made publishing.base_moment)) publishing.base cache;
  clients = refl;
  one_each = refl;
  by_names = tt;
  names = refl;
  tells = tells_none start.recorded publishing.base.authority;
  rose = RoseBy-none start.faults start.faults (no_less start.faults);
  members = λ place query member own asks is_member is_own. absurd (not_at_nothing place query asks);
}

-- there are as many lists of what was received as clients
pub one_given_each : (side : Side) (members : List Member) (given : List (List Want)) → AllFit side members given → length given ≡ length members
one_given_each side [] [] all = refl
one_given_each side [] (own ∷ given) all = absurd all
one_given_each side (member ∷ members) [] all = absurd all
one_given_each side (member ∷ members) (own ∷ given) all = ap suc (one_given_each side members given all.1)

-- a client that begins has asked nothing in vain
pub begins_without_failure : (side : Side) (query : Query) (refusal : Option QueryFault) → HasFailedSo side query None [] [] (first_outcome refusal)
begins_without_failure side query None = refl
begins_without_failure side query (Some fault) = refl

-- a client that begins has received nothing
pub met_nothing : (outcome : Option Outcome) → HasMet [] outcome
met_nothing outcome = record { ones = []; idle = []; are = refl; each = All-nil IsOne; none = All-nil IsIdle; ended = inl refl; at_last = tt }

-- the last of a list that grew
pub last_is : {X : Type 0} (xs : List X) (x y : X) (place : ℕ) → place ≡ length xs → slice_get (xs ++ x ∷ []) place ≡ Some y → y ≡ x
last_is xs x y place at has =
    let there : slice_get (xs ++ x ∷ []) place ≡ Some x = subst (λ (i : ℕ). slice_get (xs ++ x ∷ []) i ≡ Some x) (sym at) (slice_get-last xs x) in
    cc

pub earlier : {X : Type 0} (xs ys : List X) (place : ℕ) (y : X) → place < length xs → slice_get (xs ++ ys) place ≡ Some y → slice_get xs place ≡ Some y
earlier xs ys place y within has = sym (slice_get-more xs ys place within) ∙ has

is_above : (place count : ℕ) → place ≡ count → count < place + 1
is_above place count at = omega arith

one_longer : {X Y : Type 0} (xs : List X) (ys : List Y) (x : X) (y : Y) → length xs ≡ length ys → length (xs ++ x ∷ []) ≡ length (ys ++ y ∷ [])
one_longer xs ys x y same = omega (arith, same, length-append xs (x ∷ []), length-append ys (y ∷ []))

-- a client that is there already stays as it was where a further one asks
member_stays :
    (made : Timetable) (publishing : Publishing) (done : List Event) (asked query : Query) (side : Side) (store : Stored) (lines : List ℕ) (client : ℕ) (member : Member) (own : List Want) (rounds : List Round) →
    HasHeard (done ++ events.Ask asked ∷ []) (store_of made publishing.base_moment) store lines →
    IsMemberSo made publishing done side client query member own (rounds_of client (turns_in done) rounds) →
    IsMemberSo made publishing (done ++ events.Ask asked ∷ []) side client query member own (rounds_of client (turns_in done) rounds)
member_stays made publishing done asked query side store lines client member own rounds heard so = record {
  question = so.question;
  given_is = so.given_is;
  meant =
      meant_on made publishing done client query (given_in (rounds_of client (turns_in done) rounds)) (shown member.client).version (events.Ask asked ∷ []) store lines (turns_behind_ask done asked)
      (given_none client (turns_in done) rounds) heard so.meant;
  count = so.count;
  met = so.met;
  failed = so.failed;
}

-- the client that asks
member_begins :
    (made : Timetable) (publishing : Publishing) (done : List Event) (query : Query) (side : Side) (store : Stored) (lines : List ℕ) (client : ℕ) (old new : ConvoyState) (adds : Adds old query new) →
    has_turn client (turns_in done) ≡ false → HasHeard (done ++ events.Ask query ∷ []) (store_of made publishing.base_moment) store lines →
    IsMemberSo made publishing (done ++ events.Ask query ∷ []) side client query adds.member [] []
member_begins made publishing done query side store lines client old new adds none heard = record {
  question = ap (λ (s : Shown). s.query) adds.begins.is;
  given_is = refl;
  meant = record {
    store = store;
    lines = lines;
    heard =
        subst (λ (course : List Event). HasHeard course (store_of made publishing.base_moment) store lines)
        (sym (before_none client (done ++ events.Ask query ∷ []) (ap (has_turn client) (turns_behind_ask done query) ∙ none))) heard;
    is = ap (λ (s : Shown). s.version) adds.begins.is;
  };
  count = adds.none_made;
  met = met_nothing (shown adds.member.client).outcome;
  failed =
      subst (λ (version : Option ℕ). HasFailedSo side query version [] [] (shown adds.member.client).outcome) (sym (ap (λ (s : Shown). s.version) adds.begins.is))
      (subst (HasFailedSo side query None [] []) (sym (ap (λ (s : Shown). s.outcome) adds.begins.is)) (begins_without_failure side query adds.begins.refusal));
}

-- a client asks
module _ (made : Timetable) (publishing : Publishing) (cache : ℕ) (done : List Event) (query : Query) (old new : ConvoyState) (start now : LinkSeen) (lines : List ℕ) (turns : TurnsAreOfClients done)
    (adds : Adds old query new) (rounds : List Round) (played : IsPlayedTo made publishing cache done old start now lines rounds) where
  heard : HasHeard (done ++ events.Ask query ∷ []) (store_of made publishing.base_moment) played.store lines
  heard = heard_behind_ask done query (store_of made publishing.base_moment) played.store lines played.heard

  -- the clients of the event sequence
  so : (place : ℕ) (asked : Query) (member : Member) (own : List Want) → (slice_get (questions_in done) place ≡ Some asked) ⊎ ((place ≡ length (questions_in done)) × (asked ≡ query)) →
      slice_get (old.members ++ adds.member ∷ []) place ≡ Some member → slice_get (played.given ++ [] ∷ []) place ≡ Some own →
      IsMemberSo made publishing (done ++ events.Ask query ∷ []) (side_with made publishing played.store) (place + 1) asked member own (rounds_of (place + 1) (turns_in done) rounds)
  so place asked member own (inl before) is_member is_own =
      let within : place < length (questions_in done) = slice_get_within (questions_in done) place asked before in
      let among : place < length old.members = subst (λ (n : ℕ). place < n) (sym played.clients) within in
      let among_given : place < length played.given =
      subst (λ (n : ℕ). place < n) (sym (one_given_each (side_with made publishing played.store) old.members played.given played.fits.clients)) among in
      member_stays made publishing done query asked (side_with made publishing played.store) played.store lines (place + 1) member own rounds heard
      (played.members place asked member own before (earlier old.members (adds.member ∷ []) place member among is_member) (earlier played.given ([] ∷ []) place own among_given is_own))
  so place asked member own (inr last) is_member is_own =
      let at : place ≡ length old.members = last.0 ∙ sym played.clients in
      let at_given : place ≡ length played.given = at ∙ sym (one_given_each (side_with made publishing played.store) old.members played.given played.fits.clients) in
      let none : has_turn (place + 1) (turns_in done) ≡ false =
      no_turn_yet (length (questions_in done)) (turns_in done) (place + 1) (turns_of_clients done turns) (is_above place (length (questions_in done)) last.0) in
      let one = member_begins made publishing done query (side_with made publishing played.store) played.store lines (place + 1) old new adds none heard in
      subst (IsMemberSo made publishing (done ++ events.Ask query ∷ []) (side_with made publishing played.store) (place + 1) asked member own) (sym (rounds_of-none (place + 1) (turns_in done) rounds none))
      (subst (λ (own : List Want). IsMemberSo made publishing (done ++ events.Ask query ∷ []) (side_with made publishing played.store) (place + 1) asked member own []) (sym (last_is played.given [] own place at_given is_own))
      (subst (λ (m : Member). IsMemberSo made publishing (done ++ events.Ask query ∷ []) (side_with made publishing played.store) (place + 1) asked m [] []) (sym (last_is old.members adds.member member place at is_member))
      (subst (λ (q : Query). IsMemberSo made publishing (done ++ events.Ask query ∷ []) (side_with made publishing played.store) (place + 1) q adds.member [] []) (sym last.1) one)))

  requests_stay : requests_in publishing.base (questions_in (done ++ events.Ask query ∷ [])) (turns_in (done ++ events.Ask query ∷ [])) rounds ≡ requests_in publishing.base (questions_in done) (turns_in done) rounds
  requests_stay =
      ap (λ (questions : List Query). requests_in publishing.base questions (turns_in (done ++ events.Ask query ∷ [])) rounds) (questions_in-append done (events.Ask query ∷ []))
      ∙ ap (λ (order : List ℕ). requests_in publishing.base (questions_in done ++ query ∷ []) order rounds) (turns_behind_ask done query)
      ∙ requests_of_more publishing.base (questions_in done) (query ∷ []) (turns_in done) rounds (turns_of_clients done turns)

  with_one_more : FitsConvoy (side_with made publishing played.store) (record old { members = old.members ++ adds.member ∷ [] }) (played.given ++ [] ∷ []) →
      IsPlayedTo made publishing cache (done ++ events.Ask query ∷ []) (record old { members = old.members ++ adds.member ∷ [] }) start now lines rounds
  with_one_more fits = record {
    store = played.store;
    heard = heard;
    quiet = played.quiet;
    base = played.base;
    capacity = played.capacity;
    given = played.given ++ [] ∷ [];
    fits = fits;
    clients =
        one_longer old.members (questions_in done) adds.member query played.clients
        ∙ sym (ap length (questions_in-append done (events.Ask query ∷ [])));
    one_each = played.one_each ∙ sym (ap length (turns_behind_ask done query));
    by_names = played.by_names;
    names = played.names;
    tells = subst (TellsRequests start.recorded now.recorded publishing.base.authority) (sym requests_stay) played.tells;
    rose = played.rose;
    members = λ place asked member own is_asked is_member is_own.
        subst (λ (order : List ℕ). IsMemberSo made publishing (done ++ events.Ask query ∷ []) (side_with made publishing played.store) (place + 1) asked member own (rounds_of (place + 1) order rounds))
        (sym (turns_behind_ask done query))
        (so place asked member own
        (push_cases (questions_in done) query place asked (subst (λ (l : List Query). slice_get l place ≡ Some asked) (questions_in-append done (events.Ask query ∷ [])) is_asked)) is_member is_own);
  }

  pub asks : AddedAgrees → IsPlayedTo made publishing cache (done ++ events.Ask query ∷ []) new start now lines rounds
  asks added =
      subst (λ (convoy : ConvoyState). IsPlayedTo made publishing cache (done ++ events.Ask query ∷ []) convoy start now lines rounds) (sym adds.is)
      (with_one_more (subst (λ (convoy : ConvoyState). FitsConvoy (side_with made publishing played.store) convoy (played.given ++ [] ∷ [])) adds.is
      (added (side_with made publishing played.store) old new played.given query played.fits adds)))
