-- The output of a question for the latest departure is one.
use Rattle.std.proofs.Common.{◌≡◌, ◌∙◌, ℕ, ◌≤◌, List, ◌++◌, arith, length, Option, Some, None, ap, refl, subst, sym}
use Rattle.std.specs.Option.{IfSome}
use Rattle.back_scan.specs.declared.arrive_query.ArriveQuery.{ArriveQuery}
use Rattle.cli_ask.specs.LatestDeparture.Client.{EndsRightLatest}
use Rattle.cli_ask.specs.LatestDeparture.Laws.{AreOneLatest, OneLatestOutput}
use Rattle.cli_ask.proofs.AdmissionLemmas.{one_behind, store_with}
use Rattle.cli_ask.proofs.OneOutputLemmas.{first_side, second_side}
use Rattle.cli_ask.proofs.SideLemmas.{dates_of, in_zone, live_at}
use Rattle.cli_ask.specs.Block.{client_text_of}
use Rattle.cli_ask.specs.Publishing.{side_with, store_of}
use Rattle.cli_ask.specs.declared.end.ClientEnd.{ClientEnd}
use Rattle.connection_uri.specs.Base.{BaseParts}
use Rattle.back_client.specs.Ends.Latest.{LatestAt, NeededBackAt, departure_of}
use Rattle.back_client.specs.Ends.Laws.{OneDepartureAt, OneListOfNeededBackAt}
use Rattle.back_client.specs.Ends.Requests.{requests_of}
use Rattle.back_client.specs.Ends.Right.{EndsAt, HasLatest, IsRefused}
use Rattle.back_client.specs.Ends.ReplyLaws.{SayOneLatest}
use Rattle.convoy.specs.ClientLaws.Published.{IsPublished, Published}
use Rattle.convoy.specs.ClientLaws.Stated.{version_at}
use Rattle.lc_io.specs.Counts.{Rose}
use Rattle.lc_model.specs.Journey.{leaves_at}
use Rattle.lc_model.specs.declared.journey.Journey.{Journey}
use Rattle.lc_model.specs.declared.page.PageName.{PageName}
use Rattle.lc_model.specs.declared.query.Query.{Query}
use Rattle.back_scan.specs.Forward.{forward_query}
use Rattle.lc_time.specs.declared.zone.Zone.{Zone}
use Rattle.lc_world.specs.Link.{LinkSeen}
use Rattle.lc_world.specs.declared.entry.Entry.{Entry}
use Rattle.page_client.specs.Shown.{answered}
use Rattle.page_client.specs.declared.fault.QueryFault.{QueryFault}
use Rattle.page_client.specs.declared.fault.QueryFault.TheVariants.{HorizonRange, SameStop, UnknownFrom, UnknownTo}
use Rattle.page_client.specs.declared.outcome.Outcome.{Outcome}
use Rattle.page_client.specs.declared.outcome.Outcome.TheVariants as outcomes
use Rattle.lc_world.specs.Sides.Side.{Side, date_in}
use Rattle.version_store.specs.Laws.{OneOutcome}

-- the question was answered or refused by the side
abbrev Settled : BaseParts → Side → ArriveQuery → Option ℕ → List (List ℕ) → Outcome → Type 0
Settled base side asked version requests (outcomes.Found journey) = HasLatest base side asked version requests (Some journey)
Settled base side asked version requests outcomes.NoJourney = HasLatest base side asked version requests None
Settled base side asked version requests (outcomes.Refused fault) = IsRefused base side asked version requests fault
Settled base side asked version requests (outcomes.LinkFault low high) = ⊥
Settled base side asked version requests (outcomes.PeerWrong reply fault) = ⊥

rose_over : (before after low high : ℕ) → before ≤ low → high ≤ after → Rose low high → Rose before after
rose_over before after low high from to rose = omega arith

-- where the link's count did not increase
settled : (base : BaseParts) (side : Side) (asked : ArriveQuery) (version : Option ℕ) (requests : List (List ℕ)) (before after : ℕ) (outcome : Outcome) → (Rose before after → ⊥)
    → EndsAt base side asked version requests before after outcome → Settled base side asked version requests outcome
settled base side asked version requests before after (outcomes.Found journey) none at = at
settled base side asked version requests before after outcomes.NoJourney none at = at
settled base side asked version requests before after (outcomes.Refused fault) none at = at
settled base side asked version requests before after (outcomes.LinkFault low high) none at = absurd (none (rose_over before after low high at.rose.from at.rose.to at.rose.rose))
settled base side asked version requests before after (outcomes.PeerWrong reply fault) none at = absurd at

-- ---- sides whose zones show the same dates have the same latest answers

module _ (side : Side) (zone : Zone) (same : date_in zone ≡ date_in side.zone) where
  published_at : (version : ℕ) (published : Published) → IsPublished (in_zone side zone) version published → IsPublished side version published
  published_at version published is = record {
    are_live = live_at side zone same version published.live is.are_live;
    are_connections = is.are_connections;
    are_pages = is.are_pages;
  }

  latest_at : (version : ℕ) (query : Query) (answer : Option Journey) → LatestAt (in_zone side zone) version query answer → LatestAt side version query answer
  latest_at version query answer is = record { live = is.live; are_live = live_at side zone same version is.live is.are_live; is_latest = is.is_latest }

  needed_at : (version : ℕ) (query : Query) (names : List PageName) → NeededBackAt (in_zone side zone) version query names → NeededBackAt side version query names
  needed_at version query names is = record {
    published = is.published;
    is_published = published_at version is.published is.is_published;
    needed = is.needed;
    are_needed = is.are_needed;
    names_are = is.names_are;
  }

  module _ (base : BaseParts) (asked : ArriveQuery) (version : Option ℕ) (requests : List (List ℕ)) where
    has_at : (answer : Option Journey) → HasLatest base (in_zone side zone) asked version requests answer → HasLatest base side asked version requests answer
    has_at answer is = record {
      accepted = is.accepted;
      ends = record { from = is.ends.from; to = is.ends.to };
      number = is.number;
      at_version = is.at_version;
      of_side = is.of_side;
      is_latest = latest_at is.number (forward_query asked) answer is.is_latest;
      names = is.names;
      are_needed = needed_at is.number (forward_query asked) is.names is.are_needed;
      requests_are = is.requests_are;
    }

    refused_at : (fault : QueryFault) → IsRefused base (in_zone side zone) asked version requests fault → IsRefused base side asked version requests fault
    refused_at HorizonRange is = is
    refused_at SameStop is = is
    refused_at UnknownFrom is = record { accepted = is.accepted; number = is.number; at_version = is.at_version; no_from = is.no_from; requests_are = is.requests_are }
    refused_at UnknownTo is = record { accepted = is.accepted; number = is.number; at_version = is.at_version; from = is.from; no_to = is.no_to; requests_are = is.requests_are }

    settled_at : (outcome : Outcome) → Settled base (in_zone side zone) asked version requests outcome → Settled base side asked version requests outcome
    settled_at (outcomes.Found journey) is = has_at (Some journey) is
    settled_at outcomes.NoJourney is = has_at None is
    settled_at (outcomes.Refused fault) is = refused_at fault is
    settled_at (outcomes.LinkFault low high) is = is
    settled_at (outcomes.PeerWrong reply fault) is = is

-- ---- two ends by one side

record SettledAlike (version other : Option ℕ) (requests more : List (List ℕ)) (a b : Outcome) : Type 0 where
  version_one : version ≡ other
  requests_one : requests ≡ more
  outcome : SayOneLatest a b

-- answers that leave at one moment say the same
say_one : (a b : Option Journey) → departure_of a ≡ departure_of b → SayOneLatest (answered a) (answered b)
say_one None None same = tt
say_one None (Some b) same = absurd (cc)
say_one (Some a) None same = absurd (cc)
say_one (Some a) (Some b) same = once (leaves_at a) (leaves_at b) same where
  once : (m n : ℕ) → Some m ≡ Some n → m ≡ n
  once m n e = cc

meant : (version : Option ℕ) (number meaning : ℕ) → version ≡ Some number → IfSome version (λ (v : ℕ). v ≡ meaning) → number ≡ meaning
meant version number meaning is named = subst (λ (o : Option ℕ). IfSome o (λ (v : ℕ). v ≡ meaning)) is named

module _ (one_departure : OneDepartureAt) (one_needed : OneListOfNeededBackAt) (base : BaseParts) (side : Side) (asked : ArriveQuery) (version other : Option ℕ) (requests more : List (List ℕ))
    (named : IfSome version (λ (v : ℕ). v ≡ version_at side asked.known)) (other_named : IfSome other (λ (v : ℕ). v ≡ version_at side asked.known)) where
  one_version : (m n : ℕ) → version ≡ Some m → other ≡ Some n → version ≡ other
  one_version m n is is_too =
      let first = meant version m (version_at side asked.known) is named in
      let second = meant other n (version_at side asked.known) is_too other_named in
      is ∙ ap Some (first ∙ sym second) ∙ sym is_too

  answers_alike : (a b : Option Journey) → HasLatest base side asked version requests a → HasLatest base side asked other more b → SettledAlike version other requests more (answered a) (answered b)
  answers_alike a b x y =
      let at = version_at side asked.known in
      let first = meant version x.number at x.at_version named in
      let second = meant other y.number at y.at_version other_named in
      let names : x.names ≡ y.names =
      one_needed side at (forward_query asked) x.names y.names (subst (λ (v : ℕ). NeededBackAt side v (forward_query asked) x.names) first x.are_needed)
      (subst (λ (v : ℕ). NeededBackAt side v (forward_query asked) y.names) second y.are_needed) in
      record {
        version_one = one_version x.number y.number x.at_version y.at_version;
        requests_one = x.requests_are ∙ ap (requests_of base asked) names ∙ sym y.requests_are;
        outcome = say_one a b
            (one_departure side at (forward_query asked) a b (subst (λ (v : ℕ). LatestAt side v (forward_query asked) a) first x.is_latest)
            (subst (λ (v : ℕ). LatestAt side v (forward_query asked) b) second y.is_latest));
      }

  refusals_alike : (f g : QueryFault) → IsRefused base side asked version requests f → IsRefused base side asked other more g → SettledAlike version other requests more (outcomes.Refused f) (outcomes.Refused g)
  refusals_alike HorizonRange HorizonRange x y = record { version_one = x.no_version ∙ sym y.no_version; requests_one = x.requests_are ∙ sym y.requests_are; outcome = refl }
  refusals_alike HorizonRange SameStop x y = absurd (x.deserved y.deserved.0)
  refusals_alike HorizonRange UnknownFrom x y = absurd (x.deserved y.accepted.0)
  refusals_alike HorizonRange UnknownTo x y = absurd (x.deserved y.accepted.0)
  refusals_alike SameStop HorizonRange x y = absurd (y.deserved x.deserved.0)
  refusals_alike SameStop SameStop x y = record { version_one = x.no_version ∙ sym y.no_version; requests_one = x.requests_are ∙ sym y.requests_are; outcome = refl }
  refusals_alike SameStop UnknownFrom x y = absurd (y.accepted.1 x.deserved.1)
  refusals_alike SameStop UnknownTo x y = absurd (y.accepted.1 x.deserved.1)
  refusals_alike UnknownFrom HorizonRange x y = absurd (y.deserved x.accepted.0)
  refusals_alike UnknownFrom SameStop x y = absurd (x.accepted.1 y.deserved.1)
  refusals_alike UnknownFrom UnknownFrom x y = record {
    version_one = one_version x.number y.number x.at_version y.at_version;
    requests_one = x.requests_are ∙ sym y.requests_are;
    outcome = refl;
  }
  refusals_alike UnknownFrom UnknownTo x y = absurd (x.no_from y.from)
  refusals_alike UnknownTo HorizonRange x y = absurd (y.deserved x.accepted.0)
  refusals_alike UnknownTo SameStop x y = absurd (x.accepted.1 y.deserved.1)
  refusals_alike UnknownTo UnknownFrom x y = absurd (y.no_from x.from)
  refusals_alike UnknownTo UnknownTo x y = record {
    version_one = one_version x.number y.number x.at_version y.at_version;
    requests_one = x.requests_are ∙ sym y.requests_are;
    outcome = refl;
  }

-- what is answered is not refused
not_refused : (base : BaseParts) (side : Side) (asked : ArriveQuery) (version other : Option ℕ) (requests more : List (List ℕ)) (answer : Option Journey) (fault : QueryFault)
    → HasLatest base side asked version requests answer → IsRefused base side asked other more fault → ⊥
not_refused base side asked version other requests more answer HorizonRange x y = y.deserved x.accepted.0
not_refused base side asked version other requests more answer SameStop x y = x.accepted.1 y.deserved.1
not_refused base side asked version other requests more answer UnknownFrom x y = y.no_from x.ends.from
not_refused base side asked version other requests more answer UnknownTo x y = y.no_to x.ends.to

module _ (one_departure : OneDepartureAt) (one_needed : OneListOfNeededBackAt) (base : BaseParts) (side : Side) (asked : ArriveQuery) (version other : Option ℕ) (requests more : List (List ℕ))
    (named : IfSome version (λ (v : ℕ). v ≡ version_at side asked.known)) (other_named : IfSome other (λ (v : ℕ). v ≡ version_at side asked.known)) where
  alike : (a b : Outcome) → Settled base side asked version requests a → Settled base side asked other more b → SettledAlike version other requests more a b
  alike (outcomes.Found i) (outcomes.Found j) x y = answers_alike one_departure one_needed base side asked version other requests more named other_named (Some i) (Some j) x y
  alike (outcomes.Found i) outcomes.NoJourney x y = answers_alike one_departure one_needed base side asked version other requests more named other_named (Some i) None x y
  alike (outcomes.Found i) (outcomes.Refused g) x y = absurd (not_refused base side asked version other requests more (Some i) g x y)
  alike (outcomes.Found i) (outcomes.LinkFault m n) x y = absurd y
  alike (outcomes.Found i) (outcomes.PeerWrong r g) x y = absurd y
  alike outcomes.NoJourney (outcomes.Found j) x y = answers_alike one_departure one_needed base side asked version other requests more named other_named None (Some j) x y
  alike outcomes.NoJourney outcomes.NoJourney x y = answers_alike one_departure one_needed base side asked version other requests more named other_named None None x y
  alike outcomes.NoJourney (outcomes.Refused g) x y = absurd (not_refused base side asked version other requests more None g x y)
  alike outcomes.NoJourney (outcomes.LinkFault m n) x y = absurd y
  alike outcomes.NoJourney (outcomes.PeerWrong r g) x y = absurd y
  alike (outcomes.Refused f) (outcomes.Found j) x y = absurd (not_refused base side asked other version more requests (Some j) f y x)
  alike (outcomes.Refused f) outcomes.NoJourney x y = absurd (not_refused base side asked other version more requests None f y x)
  alike (outcomes.Refused f) (outcomes.Refused g) x y = refusals_alike one_departure one_needed base side asked version other requests more named other_named f g x y
  alike (outcomes.Refused f) (outcomes.LinkFault m n) x y = absurd y
  alike (outcomes.Refused f) (outcomes.PeerWrong r g) x y = absurd y
  alike (outcomes.LinkFault k l) b x y = absurd x
  alike (outcomes.PeerWrong q f) b x y = absurd x

module _ (one_departure : OneDepartureAt) (one_needed : OneListOfNeededBackAt) where
  -- the ends by two sides, of which the first differs from the second in its zone alone, which shows the same dates
  one_end : (side : Side) (zone : Zone) → date_in zone ≡ date_in side.zone → (base : BaseParts) (asked : ArriveQuery) (recorded now_recorded other later : Option (List Entry)) (faults now_faults first last : ℕ) (d e : ClientEnd)
      → EndsRightLatest (in_zone side zone) base asked recorded now_recorded faults now_faults d → EndsRightLatest side base asked other later first last e → (Rose faults now_faults → ⊥) → (Rose first last → ⊥)
      → AreOneLatest d e
  one_end side zone same base asked recorded now_recorded other later faults now_faults first last d e x y none none_too =
      let at = settled_at side zone same base asked d.version x.requests d.outcome (settled base (in_zone side zone) asked d.version x.requests faults now_faults d.outcome none x.ends) in
      let to = settled base side asked e.version y.requests first last e.outcome none_too y.ends in
      let one = alike one_departure one_needed base side asked d.version e.version x.requests y.requests x.version_is y.version_is d.outcome e.outcome at to in
      record {
        version = one.version_one;
        exchanges = x.exchanges ∙ ap length one.requests_one ∙ sym y.exchanges;
        outcome = one.outcome;
      }

pub one_latest_output : OneOutcome → OneDepartureAt → OneListOfNeededBackAt → {X Y : Type 0} (seen : X → LinkSeen) (saw : Y → LinkSeen) → OneLatestOutput seen saw
one_latest_output one_outcome one_departure one_needed seen saw a b publishing file asked before after other later x y d e same fair other_fair p q =
    let moment = publishing.base_moment in
    let one = one_behind one_outcome (store_of a moment) (store_of b moment) (record { base = refl; history = refl }) p.store q.store p.line q.line file p.behind q.behind in
    let side = side_with b publishing (store_with b moment q.store.history) in
    let here : side_with a publishing p.store ≡ in_zone side a.zone = first_side one_outcome a b publishing file p.store q.store p.line q.line same p.behind q.behind in
    let there : side_with b publishing q.store ≡ side = second_side one_outcome a b publishing file p.store q.store p.line q.line q.behind in
    let first = subst (λ (s : Side). EndsRightLatest s publishing.base asked (seen before).recorded (seen after).recorded (seen before).faults (seen after).faults d) here
    (p.right fair.was_clear (fair.short p.store p.line p.behind)) in
    let second = subst (λ (s : Side). EndsRightLatest s publishing.base asked (saw other).recorded (saw later).recorded (saw other).faults (saw later).faults e) there
    (q.right other_fair.was_clear (other_fair.short q.store q.line q.behind)) in
    record {
      line = p.line;
      first_is = p.text_is;
      second_is = q.text_is ∙ ap (λ (line : List ℕ). line ++ client_text_of 1 e) (sym one.line);
      one = one_end one_departure one_needed side a.zone (dates_of a b same) publishing.base asked (seen before).recorded (seen after).recorded (saw other).recorded (saw later).recorded
          (seen before).faults (seen after).faults (saw other).faults (saw later).faults d e first second fair.no_fault other_fair.no_fault;
    }
