-- A turn of a client leaves an event sequence that was played rightly up to then played rightly.
use Rattle.std.proofs.Common.{◌≡◌, ◌⊎◌, ℕ, zero, suc, ◌+◌, ◌-◌, ◌<◌, ◌≤◌, inl, inr, Bool, true, false, List, [], ◌∷◌, ◌++◌, length, map, Some, refl, ap, ap₂, sym, subst, ◌∙◌, arith}
use Rattle.std.specs.Prelude.{◌==◌, if◌then◌else◌, set}
use Rattle.std.specs.List.{slice_get}
use Rattle.std.proofs.lemmas.Bool.{false≢true}
use Rattle.std.proofs.lemmas.List.{length-append, length-set}
use Rattle.std.proofs.lemmas.Option.{slice_get_within}
use Rattle.csa_scan.proofs.ListPlacesLemmas.{item_within, same_place, slice_get-set_other, slice_get-set_same}
use Rattle.cli_words.specs.declared.command.Publishing.{Publishing}
use Rattle.connection_uri.specs.Base.{BaseParts}
use Rattle.convoy.specs.Finish.{IsStep}
use Rattle.convoy.specs.State.{ConvoyState}
use Rattle.convoy.specs.declared.member.Member.{Member}
use Rattle.convoy.specs.declared.turn.Turn.{Turn}
use Rattle.convoy.specs.Agreement.Agreement.{AllFit, FitsConvoy}
use Rattle.convoy.specs.Agreement.Laws.{TurnKeepsAgreement}
use Rattle.convoy.specs.Agreement.Leaves.{HasMoved, NoneFailed, OneFailed, AgreesAfterTurn, VersionThen}
use Rattle.convoy.specs.Agreement.Names.{Round, asked_of, failures_in, names_after, names_behind, names_of}
use Rattle.convoy.specs.Agreement.Requests.{TellsAsked, TellsRequests, request_of}
use Rattle.convoy.specs.Agreement.Rounds.{round_at}
use Rattle.convoy.specs.ClientLaws.Fits.{FitsSide}
use Rattle.lc_io.specs.Counts.{Rose, RoseBy}
use Rattle.lc_io.proofs.CountLemmas.{RoseBy-none, RoseBy-then}
use Rattle.lc_model.specs.declared.page.PageName.{PageName}
use Rattle.lc_model.specs.declared.query.Query.{Query}
use Rattle.lc_world.specs.Link.{IsHonestWith, IsQuietWith, LinkSeen}
use Rattle.page_client.specs.Client.{shown}
use Rattle.page_client.specs.declared.want.Want.{Want}
use Rattle.lc_world.specs.Sides.Side.{Side}
use Rattle.journey_text.specs.Script.{IsClient}
use Rattle.timetable.specs.declared.timetable.Timetable.{Timetable}
use Rattle.version_store.specs.Store.{Stored}
use Rattle.cli_ask.specs.Publishing.{side_with, store_of}
use Rattle.cli_replay.specs.ReplayLaws.Events.{before_turn_of, questions_in, turns_in}
use Rattle.cli_replay.specs.ReplayLaws.Turns.{given_in, requests_in, rounds_of}
use Rattle.cli_replay.specs.ReplayLaws.Versions.{HasHeard}
use Rattle.cli_replay.specs.declared.replay_laws.event.Event.{Event}
use Rattle.cli_replay.specs.declared.replay_laws.event.Event.TheVariants as events
use Rattle.cli_replay.proofs.ReplayLawsLemmas.EventLemmas.{ask_by_names-append, before_first_turn, before_its_turn, before_none, failures_in-append, given_none, has_turn, heard_behind_turn, meant_behind_other, names_behind-append, questions_behind_turn, requests_in-more, requests_then, rounds_of-other, rounds_of-own, turns_in-append}
use Rattle.cli_replay.proofs.ReplayLawsLemmas.PlayedTo.{IsMemberSo, IsPlayedTo}
use Rattle.cli_replay.proofs.ReplayLawsLemmas.TurnsClientLemmas.{CameOf, came_of, member_more}

-- a client at a place agrees with the side
pub fits_at : (side : Side) (members : List Member) (given : List (List Want)) (place : ℕ) (member : Member) (own : List Want) → AllFit side members given → slice_get members place ≡ Some member →
    slice_get given place ≡ Some own → FitsSide side member.client own
fits_at side [] given place member own all has has_own = absurd (cc)
fits_at side (first ∷ members) [] place member own all has has_own = absurd all
fits_at side (first ∷ members) (first_own ∷ given) zero member own all has has_own =
    let same : first ≡ member = cc in
    let same_own : first_own ≡ own = cc in
    subst (λ (m : Member). FitsSide side m.client own) same (subst (FitsSide side first.client) same_own all.0)
fits_at side (first ∷ members) (first_own ∷ given) (suc place) member own all has has_own = fits_at side members given place member own all.1 has has_own

-- what is at a place is one
one_there : {X : Type 0} (xs : List X) (place : ℕ) (x y : X) → slice_get xs place ≡ Some x → slice_get xs place ≡ Some y → x ≡ y
one_there xs place x y first second = cc

-- a client with a turn has a round
turned_has_round : (client : ℕ) (order : List ℕ) (rounds : List Round) → length rounds ≡ length order → has_turn client order ≡ true → rounds_of client order rounds ≡ [] → ⊥
turned_has_round client [] rounds one_each turned none = false≢true turned
turned_has_round client (other ∷ order) [] one_each turned none = omega (arith, one_each)
turned_has_round client (other ∷ order) (round ∷ rounds) one_each turned none =
    (elim (other == client) as (λ b. (if b then true else has_turn client order) ≡ true → (if b then round ∷ rounds_of client order rounds else rounds_of client order rounds) ≡ [] → ⊥) [
      | true ↦ λ e nothing. cc
      | false ↦ λ e nothing. turned_has_round client order rounds (omega (arith, one_each)) e nothing
    ]) turned none

-- what comes before the first turn of a client is the same after a turn of it
same_before : (client : ℕ) (done : List Event) → before_turn_of client (done ++ events.Turn client ∷ []) ≡ before_turn_of client done
same_before client done = by_turn (has_turn client (turns_in done)) refl where
  by_turn : (turned : Bool) → has_turn client (turns_in done) ≡ turned → before_turn_of client (done ++ events.Turn client ∷ []) ≡ before_turn_of client done
  by_turn true is = before_its_turn client done (events.Turn client ∷ []) is
  by_turn false is = before_first_turn client done is ∙ sym (before_none client done is)

-- it is all, where the client had no round
all_before : (client : ℕ) (done : List Event) (rounds : List Round) → length rounds ≡ length (turns_in done) → rounds_of client (turns_in done) rounds ≡ [] → before_turn_of client done ≡ done
all_before client done rounds one_each none = by_turn (has_turn client (turns_in done)) refl where
  by_turn : (turned : Bool) → has_turn client (turns_in done) ≡ turned → before_turn_of client done ≡ done
  by_turn true is = absurd (turned_has_round client (turns_in done) rounds one_each is none)
  by_turn false is = before_none client done is

-- the count increased where the exchange of a client failed
rose_by : (side left : Side) (was is : Member) (a b : LinkSeen) (own given failed asked : List Want) → a.faults ≤ b.faults → HasMoved side left (shown was.client) (shown is.client) a b given →
    CameOf side was is own given failed asked → RoseBy (length failed) a.faults b.faults
rose_by side left was is a b own given failed asked not_fallen moved (inl rested) =
    subst (λ (l : List Want). RoseBy (length l) a.faults b.faults) (sym rested.none_failed) (RoseBy-none a.faults b.faults not_fallen)
rose_by side left was is a b own given failed asked not_fallen moved (inr (inl got)) =
    subst (λ (l : List Want). RoseBy (length l) a.faults b.faults) (sym got.none_failed) (RoseBy-none a.faults b.faults not_fallen)
rose_by side left was is a b own given failed asked not_fallen moved (inr (inr lost)) =
    let one = lost.failed_then in
    let rose = moved.fault one.by_fault.low one.by_fault.high lost.waited one.by_fault.is in
    subst (λ (l : List Want). RoseBy (length l) a.faults b.faults) (sym one.one) (once a.faults b.faults one.by_fault.low one.by_fault.high rose.from rose.to rose.rose) where
      once : (a b low high : ℕ) → a ≤ low → high ≤ b → Rose low high → RoseBy 1 a b
      once a b low high from to rose = omega arith

-- a client with its number, question and turns
is_member : (made : Timetable) (publishing : Publishing) (done : List Event) (side : Side) (client number : ℕ) (query asked : Query) (member other : Member) (own given : List Want) (rounds turns : List Round) →
    client ≡ number → query ≡ asked → member ≡ other → own ≡ given → rounds ≡ turns → IsMemberSo made publishing done side client query member own rounds →
    IsMemberSo made publishing done side number asked other given turns
is_member made publishing done side client number query asked member other own given rounds turns numbers queries members owns all m =
    subst (λ (n : ℕ). IsMemberSo made publishing done side n asked other given turns) numbers
    (subst (λ (q : Query). IsMemberSo made publishing done side client q other given turns) queries
    (subst (λ (x : Member). IsMemberSo made publishing done side client query x given turns) members
    (subst (λ (l : List Want). IsMemberSo made publishing done side client query member l turns) owns
    (subst (IsMemberSo made publishing done side client query member own) all m))))

-- a client whose turn it is not stays as it is
member_stays : (made : Timetable) (publishing : Publishing) (done : List Event) (side : Side) (client other : ℕ) (query : Query) (member : Member) (own : List Want) (rounds : List Round)
    (store : Stored) (lines : List ℕ) → (other ≡ client → ⊥) → HasHeard done (store_of made publishing.base_moment) store lines →
    IsMemberSo made publishing done side client query member own (rounds_of client (turns_in done) rounds) →
    IsMemberSo made publishing (done ++ events.Turn other ∷ []) side client query member own (rounds_of client (turns_in done) rounds)
member_stays made publishing done side client other query member own rounds store lines not heard m = record {
  question = m.question;
  given_is = m.given_is;
  meant =
      meant_behind_other made publishing done client query (given_in (rounds_of client (turns_in done) rounds)) (shown member.client).version other store lines not (given_none client (turns_in done) rounds) heard m.meant;
  count = m.count;
  met = m.met;
  failed = m.failed;
}

-- what is so of the turn
module _ {X : Type 0} (seen : X → LinkSeen) (made : Timetable) (publishing : Publishing) (cache : ℕ) (done : List Event) (client : ℕ) (old new : ConvoyState) (start : LinkSeen) (before after : X)
    (lines : List ℕ) (before_it : List Round) (turn : Turn) (recorded : Round) (p : IsPlayedTo made publishing cache done old start (seen before) lines before_it) (is_client : IsClient (length (questions_in done)) client)
    (step : IsStep seen client old new before after turn) (turned : AgreesAfterTurn (side_with made publishing p.store) old new p.given client (seen before) (seen after) turn recorded) where
  abbrev side : Side
  side = side_with made publishing p.store

  quiet : (seen before).quiet old.base
  quiet = subst (seen before).quiet (sym p.base) p.quiet.quiet

  same_side : turned.agrees.left ≡ side
  same_side = turned.agrees.honest.same quiet

  within : (number count : ℕ) → IsClient count number → number - 1 < count
  within number count is = omega (arith, is.from_one, is.at_most)

  behind_one : (number count : ℕ) → IsClient count number → number - 1 + 1 ≡ number
  behind_one number count is = omega (arith, is.from_one)

  asks : (query : Query) × (slice_get (questions_in done) (client - 1) ≡ Some query)
  asks = item_within (questions_in done) (client - 1) (within client (length (questions_in done)) is_client)

  member : IsMemberSo made publishing done (side_with made publishing p.store) client asks.0 turned.agrees.was turned.agrees.own (rounds_of client (turns_in done) before_it)
  member =
      subst (λ (n : ℕ). IsMemberSo made publishing done (side_with made publishing p.store) n asks.0 turned.agrees.was turned.agrees.own (rounds_of n (turns_in done) before_it))
      (behind_one client (length (questions_in done)) is_client)
      (p.members (client - 1) asks.0 turned.agrees.was turned.agrees.own asks.1 turned.agrees.had turned.agrees.own_is)

  version : VersionThen (side_with made publishing p.store) (shown turned.agrees.was.client) turned.agrees.given (shown turned.agrees.is.client).version
  version = subst (λ (at : Side). VersionThen at (shown turned.agrees.was.client) turned.agrees.given (shown turned.agrees.is.client).version) same_side turned.version

  came : CameOf (side_with made publishing p.store) turned.agrees.was turned.agrees.is turned.agrees.own turned.agrees.given turned.agrees.failed turned.agrees.asked
  came =
      came_of (side_with made publishing p.store) turned.agrees.was turned.agrees.is turned.agrees.own turned.agrees.given turned.agrees.failed turned.agrees.asked turn
      (fits_at (side_with made publishing p.store) old.members p.given (client - 1) turned.agrees.was turned.agrees.own p.fits.clients turned.agrees.had turned.agrees.own_is)
      turned.gave
      (subst (λ (at : Side). NoneFailed (shown turned.agrees.was.client) (shown turned.agrees.is.client) turned.agrees.failed ⊎ OneFailed at (shown turned.agrees.was.client) (shown turned.agrees.is.client) (turned.agrees.own ++ turned.agrees.given) turned.agrees.failed)
      same_side turned.agrees.by_names.how)

  abbrev then_done : List Event
  then_done = done ++ events.Turn client ∷ []

  abbrev round : Round
  round = record { given = turned.agrees.given; failed = turned.agrees.failed; asked = turned.agrees.asked }

  abbrev rounds : List Round
  rounds = before_it ++ round ∷ []

  abbrev now : List (List Want)
  now = set p.given (client - 1) (turned.agrees.own ++ turned.agrees.given)

  own_turns : rounds_of client (turns_in done) before_it ++ round ∷ [] ≡ rounds_of client (turns_in then_done) rounds
  own_turns =
      sym (rounds_of-own client (turns_in done) before_it round p.one_each) ∙ sym (ap (λ (l : List ℕ). rounds_of client l rounds) (turns_in-append done (events.Turn client ∷ [])))

  other_turns : (other : ℕ) → (client ≡ other → ⊥) → rounds_of other (turns_in done) before_it ≡ rounds_of other (turns_in then_done) rounds
  other_turns other not =
      sym (rounds_of-other other client (turns_in done) before_it round not p.one_each)
      ∙ sym (ap (λ (l : List ℕ). rounds_of other l rounds) (turns_in-append done (events.Turn client ∷ [])))

  own_more : IsMemberSo made publishing then_done (side_with made publishing p.store) client asks.0 turned.agrees.is (turned.agrees.own ++ turned.agrees.given) (rounds_of client (turns_in then_done) rounds)
  own_more =
      subst (IsMemberSo made publishing then_done (side_with made publishing p.store) client asks.0 turned.agrees.is (turned.agrees.own ++ turned.agrees.given)) own_turns
      (member_more made publishing done then_done p.store lines client asks.0 turned.agrees.was turned.agrees.is turned.agrees.own turned.agrees.given turned.agrees.failed turned.agrees.asked
      (rounds_of client (turns_in done) before_it) member
      (λ other other_lines heard. subst (λ (l : List Event). HasHeard l (store_of made publishing.base_moment) other other_lines) (sym (same_before client done)) heard)
      (λ none. subst (λ (l : List Event). HasHeard l (store_of made publishing.base_moment) p.store lines) (sym (same_before client done ∙ all_before client done before_it p.one_each none)) p.heard)
      turned.agrees.gone.moved.query turned.agrees.gone.count version came)

  -- the clients
  not_it : (place number count : ℕ) → IsClient count number → (place ≡ number - 1 → ⊥) → number ≡ place + 1 → ⊥
  not_it place number count is not same = not (omega (arith, is.from_one))

  it_is : (place number count : ℕ) → IsClient count number → place ≡ number - 1 → number ≡ place + 1
  it_is place number count is at = omega (arith, is.from_one)

  members : (place : ℕ) (query : Query) (m : Member) (own : List Want) → slice_get (questions_in then_done) place ≡ Some query → slice_get new.members place ≡ Some m → slice_get now place ≡ Some own →
      IsMemberSo made publishing then_done (side_with made publishing p.store) (place + 1) query m own (rounds_of (place + 1) (turns_in then_done) rounds)
  members place query m own has_query has has_own = by_place (same_place place (client - 1)) where
    asked_there : slice_get (questions_in done) place ≡ Some query
    asked_there = subst (λ (l : List Query). slice_get l place ≡ Some query) (questions_behind_turn done client) has_query

    by_place : (place ≡ client - 1) ⊎ (place ≡ client - 1 → ⊥) → IsMemberSo made publishing then_done (side_with made publishing p.store) (place + 1) query m own (rounds_of (place + 1) (turns_in then_done) rounds)
    by_place (inl at) =
        let number : client ≡ place + 1 = it_is place client (length (questions_in done)) is_client at in
        let there = subst (λ (i : ℕ). slice_get (questions_in done) i ≡ Some query) at asked_there in
        let is_there = subst (λ (i : ℕ). slice_get new.members i ≡ Some m) at has in
        let own_there = subst (λ (i : ℕ). slice_get now i ≡ Some own) at has_own in
        let put : slice_get now (client - 1) ≡ Some (turned.agrees.own ++ turned.agrees.given) =
        slice_get-set_same p.given (client - 1) (turned.agrees.own ++ turned.agrees.given) (slice_get_within p.given (client - 1) turned.agrees.own turned.agrees.own_is) in
        is_member made publishing then_done (side_with made publishing p.store) client (place + 1) asks.0 query turned.agrees.is m (turned.agrees.own ++ turned.agrees.given) own
        (rounds_of client (turns_in then_done) rounds) (rounds_of (place + 1) (turns_in then_done) rounds) number
        (one_there (questions_in done) (client - 1) asks.0 query asks.1 there) (one_there new.members (client - 1) turned.agrees.is m turned.agrees.has is_there)
        (one_there now (client - 1) (turned.agrees.own ++ turned.agrees.given) own put own_there) (ap (λ (n : ℕ). rounds_of n (turns_in then_done) rounds) number) own_more
    by_place (inr not) =
        let not_this : client ≡ place + 1 → ⊥ = not_it place client (length (questions_in done)) is_client not in
        let was_there : slice_get old.members place ≡ Some m = sym (turned.agrees.others place not) ∙ has in
        let own_there : slice_get p.given place ≡ Some own = sym (slice_get-set_other p.given (client - 1) (turned.agrees.own ++ turned.agrees.given) place not) ∙ has_own in
        subst (IsMemberSo made publishing then_done (side_with made publishing p.store) (place + 1) query m own) (other_turns (place + 1) not_this)
        (member_stays made publishing done (side_with made publishing p.store) (place + 1) client query m own before_it p.store lines not_this p.heard (p.members place query m own asked_there was_there own_there))

  -- what was recorded
  tells : TellsRequests start.recorded (seen after).recorded publishing.base.authority (requests_in publishing.base (questions_in then_done) (turns_in then_done) rounds)
  tells =
      let asked : TellsAsked (seen before).recorded (seen after).recorded publishing.base asks.0 turned.agrees.asked =
      subst (λ (q : Query). TellsAsked (seen before).recorded (seen after).recorded publishing.base q turned.agrees.asked) member.question
      (subst (λ (base : BaseParts). TellsAsked (seen before).recorded (seen after).recorded base (shown turned.agrees.was.client).query turned.agrees.asked) p.base turned.agrees.gone.recorded) in
      let both = requests_then start.recorded (seen before).recorded (seen after).recorded publishing.base.authority (requests_in publishing.base (questions_in done) (turns_in done) before_it)
      (map (request_of publishing.base asks.0) turned.agrees.asked) p.tells asked in
      let whole : requests_in publishing.base (questions_in then_done) (turns_in then_done) rounds ≡
      requests_in publishing.base (questions_in done) (turns_in done) before_it ++ map (request_of publishing.base asks.0) turned.agrees.asked =
      ap₂ (λ (questions : List Query) (order : List ℕ). requests_in publishing.base questions order rounds) (questions_behind_turn done client) (turns_in-append done (events.Turn client ∷ []))
      ∙ requests_in-more publishing.base (questions_in done) (turns_in done) client asks.0 before_it round p.one_each asks.1 in
      subst (TellsRequests start.recorded (seen after).recorded publishing.base.authority) (sym whole) both

  one_longer : length (before_it ++ round ∷ []) ≡ length (turns_in done ++ client ∷ [])
  one_longer = omega (arith, p.one_each, length-append before_it (round ∷ []), length-append (turns_in done) (client ∷ []))

  failures_more : (rounds : List Round) (more : Round) → failures_in (rounds ++ more ∷ []) ≡ failures_in rounds + length more.failed
  failures_more rounds more = omega (arith, failures_in-append rounds (more ∷ []))

  rose : RoseBy (failures_in rounds) start.faults (seen after).faults
  rose =
      subst (λ (n : ℕ). RoseBy n start.faults (seen after).faults) (sym (failures_more before_it round))
      (RoseBy-then (failures_in before_it) (length turned.agrees.failed) start.faults (seen before).faults (seen after).faults p.rose
      (rose_by (side_with made publishing p.store) turned.agrees.left turned.agrees.was turned.agrees.is (seen before) (seen after) turned.agrees.own turned.agrees.given turned.agrees.failed
      turned.agrees.asked turned.agrees.honest.not_fallen turned.agrees.gone.moved came))

  still_quiet : IsQuietWith (seen after) publishing.base (side_with made publishing p.store)
  still_quiet =
      subst (λ (base : BaseParts). IsQuietWith (seen after) base (side_with made publishing p.store)) p.base (record {
        as_honest = subst (λ (at : Side). IsHonestWith (seen after) old.base at) same_side turned.agrees.honest.honest;
        quiet = turned.agrees.honest.quiet quiet;
      })

  -- the names of the pages that are cached then
  names_then : names_of new.kept.pages ≡ names_after cache (names_behind cache [] before_it) turned.agrees.given
  names_then = turned.agrees.by_names.names ∙ ap₂ (λ (capacity : ℕ) (names : List PageName). names_after capacity names turned.agrees.given) p.capacity p.names

  so_played : IsPlayedTo made publishing cache then_done new start (seen after) lines rounds
  so_played = record {
    store = p.store;
    heard = heard_behind_turn done client (store_of made publishing.base_moment) p.store lines p.heard;
    quiet = still_quiet;
    base = turned.agrees.base ∙ p.base;
    capacity = turned.agrees.by_names.capacity ∙ p.capacity;
    given = now;
    fits = subst (λ (at : Side). FitsConvoy at new now) same_side turned.agrees.fits;
    clients =
        ap length step.turned.members ∙ length-set old.members (client - 1) step.turned.is ∙ p.clients ∙ sym (ap length (questions_behind_turn done client));
    one_each = one_longer ∙ sym (ap length (turns_in-append done (events.Turn client ∷ [])));
    by_names =
        ask_by_names-append cache [] before_it (round ∷ []) p.by_names (
          record {
            asked = turned.agrees.by_names.are
                ∙ ap₂ (λ (capacity : ℕ) (names : List PageName). asked_of capacity names (turned.agrees.given ++ turned.agrees.failed)) p.capacity p.names;
            not_kept =
                ap₂ (λ (capacity : ℕ) (names : List PageName). asked_of capacity names turned.agrees.failed) (sym p.capacity) (sym names_then)
                ∙ turned.agrees.by_names.not_kept;
          },
          tt,
        );
    names = names_then ∙ sym (names_behind-append cache [] before_it (round ∷ []));
    tells = tells;
    rose = rose;
    members = members;
  }

  pub played : IsPlayedTo made publishing cache then_done new start (seen after) lines (before_it ++ recorded ∷ [])
  played = subst (λ (r : Round). IsPlayedTo made publishing cache then_done new start (seen after) lines (before_it ++ r ∷ [])) turned.round_is so_played

-- a turn of a client over a quiet link
pub turns : {X : Type 0} (seen : X → LinkSeen) (made : Timetable) (publishing : Publishing) (cache : ℕ) (start : LinkSeen) → TurnKeepsAgreement seen →
    (done : List Event) (old new : ConvoyState) (before after : X) (lines : List ℕ) (rounds : List Round) (client : ℕ) (turn : Turn) →
    IsPlayedTo made publishing cache done old start (seen before) lines rounds → IsClient (length (questions_in done)) client → (step : IsStep seen client old new before after turn) →
    IsPlayedTo made publishing cache (done ++ events.Turn client ∷ []) new start (seen after) lines (rounds ++ round_at turn (shown step.turned.was.client) (shown step.turned.is.client) ∷ [])
turns seen made publishing cache start keeps done old new before after lines rounds client turn p is_client step =
    played seen made publishing cache done client old new start before after lines rounds turn (round_at turn (shown step.turned.was.client) (shown step.turned.is.client)) p is_client step
    (keeps (side_with made publishing p.store) old new p.given client before after turn
    (subst (λ (base : BaseParts). IsHonestWith (seen before) base (side_with made publishing p.store)) (sym p.base) p.quiet.as_honest) p.fits step)
