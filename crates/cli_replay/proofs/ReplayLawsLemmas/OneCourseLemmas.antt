-- Two plays of one event sequence result in the same.
use Rattle.std.proofs.Common.{◌≡◌, ◌∙◌, ℕ, zero, suc, ◌+◌, ◌<◌, ◌≤◌, List, [], ◌∷◌, ◌++◌, Option, Some, ap, ap₂, arith, length, refl, subst, sym}
use Rattle.std.specs.List.{All, AllZip, slice_get}
use Rattle.std.proofs.lemmas.List.Elements.{All-head, All-tail}
use Rattle.std.proofs.lemmas.Option.{slice_get_within}
use Rattle.cli_ask.proofs.AdmissionLemmas.{AreOne, store_with}
use Rattle.cli_ask.proofs.OneAnswerLemmas.{alike, ended_at, same_version}
use Rattle.cli_ask.proofs.SideLemmas.{dates_of, in_zone, same_side}
use Rattle.cli_ask.specs.Client.{shown_of}
use Rattle.cli_ask.specs.Laws.{AreOneEnd, IsNoLinkFault}
use Rattle.cli_ask.specs.Publishing.{side_with, store_of}
use Rattle.cli_ask.specs.declared.end.ClientEnd.{ClientEnd}
use Rattle.convoy.specs.ClientLaws.Fits.{HasEnded}
use Rattle.convoy.specs.ClientLaws.Laws.{OneArrivalAt, OneListOfNeededAt}
use Rattle.convoy.specs.Replies.Laws.{SayTheSame}
use Rattle.cli_words.specs.declared.command.Publishing.{Publishing}
use Rattle.convoy.specs.Agreement.Names.{Round}
use Rattle.convoy.specs.Agreement.OneClient.{version_of}
use Rattle.csa_scan.proofs.ListPlacesLemmas.{item_within}
use Rattle.lc_model.specs.declared.query.Query.{Query}
use Rattle.lc_model.specs.Versions.History.{Entry, moments_of}
use Rattle.lc_model.specs.Versions.Named.{version_named}
use Rattle.page_client.specs.declared.outcome.Outcome.{Outcome}
use Rattle.page_client.specs.declared.outcome.Outcome.TheVariants as outcomes
use Rattle.page_client.specs.declared.want.Want.{Want}
use Rattle.lc_world.specs.Sides.Side.{Side}
use Rattle.journey_text.specs.Script.{IsClient}
use Rattle.convoy.specs.ClientLaws.Stated.{version_at}
use Rattle.timetable.specs.Laws.{AreSame}
use Rattle.timetable.specs.declared.timetable.Timetable.{Timetable}
use Rattle.version_store.specs.Laws.{OneOutcome}
use Rattle.version_store.specs.Store.{Stored}
use Rattle.cli_replay.specs.ReplayLaws.Events.{TurnsAreOfClients, before_turn_of, questions_in, turns_in}
use Rattle.cli_replay.specs.ReplayLaws.OneCourse.{ComeToOne, IsPlayedOut, OneCourse}
use Rattle.cli_replay.specs.ReplayLaws.Right.{EndsSo, FailsWith}
use Rattle.cli_replay.specs.ReplayLaws.Turns.{asked_in, counted, failed_in, given_in, order_of, rounds_of}
use Rattle.cli_replay.specs.declared.replay_laws.event.Event.{Event}
use Rattle.cli_replay.proofs.ReplayLawsLemmas.EventLemmas.{AreClients, turns_of_clients}
use Rattle.cli_replay.proofs.ReplayLawsLemmas.OneHeardLemmas.{of_course, one_course_heard}
use Rattle.cli_replay.proofs.ReplayLawsLemmas.OneRoundsLemmas.{MetTheSame, as_many_rounds, met_in_all, met_the_same, same_rounds}

-- a client that ended by no fault of the link asked for nothing in vain
pub none_failed : (side : Side) (query : Query) (version : Option ℕ) (given failed : List Want) (outcome : Outcome) → FailsWith side query version given failed outcome → IsNoLinkFault outcome → failed ≡ []
none_failed side query version given failed (outcomes.Found journey) fails fine = fails
none_failed side query version given failed outcomes.NoJourney fails fine = fails
none_failed side query version given failed (outcomes.Refused fault) fails fine = fails
none_failed side query version given failed (outcomes.LinkFault before after) fails fine = absurd fine
none_failed side query version given failed (outcomes.PeerWrong reply fault) fails fine = fails

-- each turn is one of a client, those after the event sequence too
are_more : (count : ℕ) (order more : List ℕ) → AreClients count order → AreClients count more → AreClients count (order ++ more)
are_more count [] more are then_are = then_are
are_more count (client ∷ order) more are then_are = (are.0, are_more count order more are.1 then_are)

are_counted : (count n : ℕ) → n ≤ count → AreClients count (counted n)
are_counted count zero up_to = tt
are_counted count (suc n) up_to =
    are_more count (counted n) (suc n ∷ []) (are_counted count n (omega (arith, up_to))) (record { from_one = omega arith; at_most = up_to }, tt)

pub all_are_clients : (all : List Event) → TurnsAreOfClients all → AreClients (length (questions_in all)) (order_of all)
all_are_clients all turns =
    let count = length (questions_in all) in
    are_more count (turns_in all) (counted count) (turns_of_clients all turns) (are_counted count count (omega arith))

-- what holds of all items holds of one at a place
pub at_place : {X : Type 0} (P : X → Type 0) (xs : List X) (place : ℕ) (x : X) → All P xs → slice_get xs place ≡ Some x → P x
at_place P [] place x all is = absurd (cc)
at_place P (first ∷ xs) zero x all is =
    let same : first ≡ x = cc in
    subst P same (All-head P first xs all)
at_place P (first ∷ xs) (suc place) x all is = at_place P xs place x (All-tail P first xs all) is

-- lists of one length, whose items at each place fit
pub zip_places : {X : Type 0} (R : X → X → Type 0) (xs ys : List X) → length xs ≡ length ys → ((place : ℕ) (x y : X) → slice_get xs place ≡ Some x → slice_get ys place ≡ Some y → R x y) → AllZip R xs ys
zip_places R [] [] same fit = tt
zip_places R [] (y ∷ ys) same fit = absurd (omega (arith, same))
zip_places R (x ∷ xs) [] same fit = absurd (omega (arith, same))
zip_places R (x ∷ xs) (y ∷ ys) same fit =
    (fit zero x y refl refl, zip_places R xs ys (omega (arith, same)) (λ place a b is other. fit (suc place) a b is other))

-- the ends of one client in two plays, and what it received in its turns
record EndAlike (d e : ClientEnd) (rs ts : List Round) : Type 0 where
  version : d.version ≡ e.version
  outcome : SayTheSame d.outcome e.outcome
  met : AllZip MetTheSame rs ts

-- the side of a timetable with this history
abbrev side_behind : Timetable → Publishing → List Entry → Side
side_behind made publishing history = side_with made publishing (store_with made publishing.base_moment history)

-- one client of an event sequence that was played to timetables that are the same
module _ (one_arrival : OneArrivalAt) (one_needed : OneListOfNeededAt) (one_outcome : OneOutcome) (a b : Timetable) (publishing : Publishing) (all : List Event) (same : AreSame a b) (store other : Stored)
    (is_of : store ≡ store_with a publishing.base_moment store.history) (other_is_of : other ≡ store_with b publishing.base_moment other.history) (one : store.history ≡ other.history) where
  here : side_with a publishing store ≡ in_zone (side_behind b publishing other.history) a.zone
  here = ap (side_with a publishing) is_of ∙ ap (side_behind a publishing) one ∙ same_side a b publishing publishing.base_moment other.history same

  there : side_with b publishing other ≡ side_behind b publishing other.history
  there = ap (side_with b publishing) other_is_of

  one_client : (client : ℕ) (query : Query) (rs ts : List Round) (d e : ClientEnd) → EndsSo a publishing all (side_with a publishing store) client query rs d →
      EndsSo b publishing all (side_with b publishing other) client query ts e → length rs ≡ length ts → IsNoLinkFault d.outcome → IsNoLinkFault e.outcome → EndAlike d e rs ts
  one_client client query rs ts d e x y many f i =
      let side = side_behind b publishing other.history in
      let first = ended_at side a.zone (dates_of a b same) query d (given_in rs) d.outcome
      (subst (λ (s : Side). HasEnded s (shown_of query d) (given_in rs) (Some d.outcome)) here x.ended) f in
      let second = subst (λ (s : Side). HasEnded s (shown_of query e) (given_in ts) (Some e.outcome)) there y.ended in
      let moment = publishing.base_moment in
      let heard = one_course_heard one_outcome (before_turn_of client all) (store_of a moment) x.meant.store (store_of b moment) y.meant.store x.meant.lines y.meant.lines
      (record { base = refl; history = refl }) x.meant.heard y.meant.heard in
      let meant = side_with b publishing y.meant.store in
      let version : version_at (side_with a publishing x.meant.store) query.known ≡ version_at meant query.known =
      ap₂ (λ (base : ℕ) (history : List Entry). version_named base (moments_of history) query.known) heard.heard.base heard.heard.history in
      let at : d.version ≡ version_of meant query (given_in rs) = x.meant.is ∙ same_version (side_with a publishing x.meant.store) meant query (given_in rs) version in
      let end = alike one_arrival one_needed side meant query d e (given_in rs) (given_in ts) at y.meant.is d.outcome e.outcome first second f i in
      record {
        version = at ∙ ap (version_of meant query) end.given ∙ sym y.meant.is;
        outcome = end.outcome;
        met =
            met_the_same rs ts many x.each y.each (none_failed (side_with a publishing store) query d.version (given_in rs) (failed_in rs) d.outcome x.failed f)
            (none_failed (side_with b publishing other) query e.version (given_in ts) (failed_in ts) e.outcome y.failed i) end.given;
      }

module _ (one_arrival : OneArrivalAt) (one_needed : OneListOfNeededAt) (one_outcome : OneOutcome) (a b : Timetable) (publishing : Publishing) (all : List Event) (cache : ℕ) (lines other_lines : List ℕ)
    (ends other_ends : List ClientEnd) (same : AreSame a b) (turns : TurnsAreOfClients all) (p : IsPlayedOut a publishing all cache lines ends) (q : IsPlayedOut b publishing all cache other_lines other_ends) where
  heard : AreOne p.right.store q.right.store lines other_lines
  heard =
      one_course_heard one_outcome all (store_of a publishing.base_moment) p.right.store (store_of b publishing.base_moment) q.right.store lines other_lines
      (record { base = refl; history = refl }) p.right.heard q.right.heard

  -- a client has one end and received the same in both plays
  client_at : (place : ℕ) (query : Query) (d e : ClientEnd) → slice_get (questions_in all) place ≡ Some query → slice_get ends place ≡ Some d → slice_get other_ends place ≡ Some e →
      EndAlike d e (rounds_of (place + 1) (order_of all) p.right.rounds) (rounds_of (place + 1) (order_of all) q.right.rounds)
  client_at place query d e asks is other_is =
      one_client one_arrival one_needed one_outcome a b publishing all same p.right.store q.right.store
      (of_course all (store_of a publishing.base_moment) p.right.store lines p.right.heard) (of_course all (store_of b publishing.base_moment) q.right.store other_lines q.right.heard)
      heard.heard.history (place + 1) query (rounds_of (place + 1) (order_of all) p.right.rounds) (rounds_of (place + 1) (order_of all) q.right.rounds) d e (p.right.clients place query d asks is)
      (q.right.clients place query e asks other_is)
      (as_many_rounds (place + 1) (order_of all) p.right.rounds q.right.rounds (p.right.one_each ∙ sym q.right.one_each))
      (at_place (λ (end : ClientEnd). IsNoLinkFault end.outcome) ends place d p.no_fault is) (at_place (λ (end : ClientEnd). IsNoLinkFault end.outcome) other_ends place e q.no_fault other_is)

  met_by : (client : ℕ) → IsClient (length (questions_in all)) client →
      AllZip MetTheSame (rounds_of client (order_of all) p.right.rounds) (rounds_of client (order_of all) q.right.rounds)
  met_by zero is = absurd (let never = is.from_one in omega arith)
  met_by (suc place) is =
      let asks = item_within (questions_in all) place (let up_to = is.at_most in omega arith) in
      let ended = item_within ends place (let up_to = is.at_most in let many = p.one_each in omega arith) in
      let other = item_within other_ends place (let up_to = is.at_most in let many = q.one_each in omega arith) in
      let number : place + 1 ≡ suc place = omega arith in
      subst (λ (client : ℕ). AllZip MetTheSame (rounds_of client (order_of all) p.right.rounds) (rounds_of client (order_of all) q.right.rounds)) number
      (client_at place asks.0 ended.0 other.0 asks.1 ended.1 other.1).met

  -- the turns are the same in both plays
  rounds : p.right.rounds ≡ q.right.rounds
  rounds =
      same_rounds cache [] p.right.rounds q.right.rounds
      (met_in_all (length (questions_in all)) (order_of all) p.right.rounds q.right.rounds p.right.one_each q.right.one_each (all_are_clients all turns) met_by) p.right.by_names q.right.by_names

  end_at : (place : ℕ) (d e : ClientEnd) → slice_get ends place ≡ Some d → slice_get other_ends place ≡ Some e → AreOneEnd d e
  end_at place d e is other_is =
      let within : place < length ends = slice_get_within ends place d is in
      let asks = item_within (questions_in all) place (let many = p.one_each in omega arith) in
      let end = client_at place asks.0 d e asks.1 is other_is in
      record {
        version = end.version;
        outcome = end.outcome;
        exchanges =
            (p.right.clients place asks.0 d asks.1 is).exchanges ∙ ap (λ (rs : List Round). length (asked_in (rounds_of (place + 1) (order_of all) rs))) rounds
            ∙ sym ((q.right.clients place asks.0 e asks.1 other_is).exchanges);
      }

  pub comes_to_one : ComeToOne lines other_lines ends other_ends
  comes_to_one = record { one_text = heard.line; one_each = zip_places AreOneEnd ends other_ends (p.one_each ∙ sym q.one_each) end_at }

pub one_course : OneArrivalAt → OneListOfNeededAt → OneOutcome → OneCourse
one_course one_arrival one_needed one_outcome = comes_to_one one_arrival one_needed one_outcome
