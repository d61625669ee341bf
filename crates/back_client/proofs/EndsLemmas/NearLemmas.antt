-- That a right end with an answer is one, and that what is near it is none.
use Rattle.std.proofs.Common.{◌≡◌, ℕ, ◌+◌, ◌<◌, ◌≤◌, List, [], ◌∷◌, ◌++◌, length, Option, Some, None, refl, ap, sym, subst, ◌∙◌, arith}
use Rattle.std.proofs.lemmas.List.{length-append}
use Rattle.lc_model.specs.Journey.{IsJourney, leaves_at}
use Rattle.lc_model.specs.Ride.{IsRideAt}
use Rattle.lc_model.specs.declared.doc.StopsDoc.{StopsDoc}
use Rattle.lc_model.specs.declared.journey.Journey.{Journey}
use Rattle.connection_uri.specs.Base.{BaseParts}
use Rattle.lc_world.specs.Link.{LinkSeen}
use Rattle.page_client.specs.Shown.{answered}
use Rattle.page_client.specs.declared.outcome.Outcome.{Outcome}
use Rattle.lc_world.specs.Sides.Side.{IsLater, IsValidSide, Side}
use Rattle.convoy.specs.ClientLaws.Stated.{version_at}
use Rattle.convoy.specs.ClientLaws.Published.{AreLiveAt}
use Rattle.convoy.specs.ClientLaws.Wants.{HasEnds}
use Rattle.back_scan.specs.Forward.{forward_query}
use Rattle.back_scan.specs.declared.arrive_query.ArriveQuery.{ArriveQuery}
use Rattle.back_client.specs.declared.outcome.ArriveEnd.{ArriveEnd}
use Rattle.back_client.specs.Ends.Latest.{LatestAt, NeededBackAt, departure_of}
use Rattle.back_client.specs.Ends.Laws.{OneLatestEnd}
use Rattle.back_client.specs.Ends.Near.{IsThere, NotAnotherVersion, NotEarlier, NotNone, NotOneExchangeMore, NotOnePageLess, NotOnePageMore}
use Rattle.back_client.specs.Ends.Requests.{page_request, requests_of}
use Rattle.back_client.specs.Ends.Right.{EndsAt, HasLatest, IsNamed, IsNamedByGate, IsRight}
use Rattle.back_client.proofs.EndsLemmas.AnsweredLemmas.{latest_stays, needed_back_stays, of_live, one_departure_at, one_list_of_needed_back_at}
use Rattle.back_client.proofs.EndsLemmas.ExchangeLemmas.{has_later, same_side}

same_number : (a b : ℕ) → Some a ≡ Some b → a ≡ b
same_number a b is = cc

-- what holds of an end with an answer
answer_at : (base : BaseParts) (side : Side) (asked : ArriveQuery) (version : Option ℕ) (requests : List (List ℕ)) (before after : ℕ) (answer : Option Journey) →
    EndsAt base side asked version requests before after (answered answer) → HasLatest base side asked version requests answer
answer_at base side asked version requests before after None at = at
answer_at base side asked version requests before after (Some journey) at = at

has_answer : (base : BaseParts) (side : Side) (asked : ArriveQuery) (version : Option ℕ) (requests : List (List ℕ)) (before after : ℕ) (outcome : Outcome) (answer : Option Journey) → outcome ≡ answered answer →
    EndsAt base side asked version requests before after outcome → HasLatest base side asked version requests answer
has_answer base side asked version requests before after outcome answer is at =
    let E : Outcome → Type 0 = λ o. EndsAt base side asked version requests before after o in
    answer_at base side asked version requests before after answer (subst E is at)

-- two answers at a version of a side
record AnswersAlike (requests other : List (List ℕ)) (first second : Option Journey) : Type 0 where
  departure : departure_of first ≡ departure_of second
  requests_one : requests ≡ other

answers_alike : (base : BaseParts) (side : Side) (asked : ArriveQuery) (version other_version : Option ℕ) (requests other : List (List ℕ)) (first second : Option Journey) → version ≡ other_version →
    HasLatest base side asked version requests first → HasLatest base side asked other_version other second → AnswersAlike requests other first second
answers_alike base side asked version other_version requests other first second one has has_too =
    let same : has.number ≡ has_too.number = same_number has.number has_too.number (sym has.at_version ∙ one ∙ has_too.at_version) in
    let L : ℕ → Type 0 = λ v. LatestAt side v (forward_query asked) first in
    let N : ℕ → Type 0 = λ v. NeededBackAt side v (forward_query asked) has.names in
    record {
      departure = one_departure_at side has_too.number (forward_query asked) first second (subst L same has.is_latest) has_too.is_latest;
      requests_one =
          has.requests_are
          ∙ ap (requests_of base asked) (one_list_of_needed_back_at side has_too.number (forward_query asked) has.names has_too.names (subst N same has.are_needed) has_too.are_needed)
          ∙ sym has_too.requests_are;
    }

-- an answer at a version stays one at a later side
answer_later : (base : BaseParts) (before after : Side) (asked : ArriveQuery) (version : Option ℕ) (requests : List (List ℕ)) (answer : Option Journey) → IsValidSide after → IsLater before after →
    HasLatest base before asked version requests answer → HasLatest base after asked version requests answer
answer_later base before after asked version requests answer valid later has =
    let E : StopsDoc → Type 0 = λ d. HasEnds d (forward_query asked) in
    record {
      accepted = has.accepted;
      ends = subst E (sym (ap (λ (s : Side). s.doc) later.is)) has.ends;
      number = has.number;
      at_version = has.at_version;
      of_side = has_later before after has.number later has.of_side;
      is_latest = (latest_stays (forward_query asked) answer before after has.number valid later has.of_side).0 has.is_latest;
      names = has.names;
      are_needed = (needed_back_stays (forward_query asked) has.names before after has.number valid later has.of_side).0 has.are_needed;
      requests_are = has.requests_are;
    }

-- over a quiet link the version that is named is the one of its side
named_quietly : {X : Type 0} (seen : X → LinkSeen) (base : BaseParts) (asked : ArriveQuery) (side at left : Side) (before after : X) (version : ℕ) → (seen before).quiet base →
    IsNamedByGate seen base asked side at left before after version → version ≡ version_at side asked.known
named_quietly seen base asked side at left before after version quiet named = named.is ∙ ap (λ (s : Side). version_at s asked.known) (named.first.same quiet)

module _ {X : Type 0} (seen : X → LinkSeen) (base : BaseParts) (asked : ArriveQuery) (side : Side) (before after : X) (end : ArriveEnd) (right : IsRight seen base asked side before after end) (answer : Option Journey)
    (is : end.outcome ≡ answered answer) where
  has : HasLatest base right.at asked end.version right.requests answer
  has = has_answer base right.at asked end.version right.requests (seen before).faults (seen after).faults end.outcome answer is right.ends

  named : IsNamedByGate seen base asked side right.at right.left before after has.number
  named =
      let N : Option ℕ → Type 0 = λ v. IsNamed seen base asked side right.at right.left before after v in
      subst N has.at_version right.named

  -- it is one at the side that is left
  has_left : HasLatest base right.left asked end.version right.requests answer
  has_left = answer_later base right.at right.left asked end.version right.requests answer right.honest.honest.stands.valid named.behind.later has

  -- over a quiet link it is one at the link's side
  has_quietly : (seen before).quiet base → HasLatest base side asked end.version right.requests answer
  has_quietly quiet =
      let S : Side → Type 0 = λ s. HasLatest base s asked end.version right.requests answer in
      subst S (right.honest.same quiet) has_left

  version_quietly : (seen before).quiet base → end.version ≡ Some (version_at side asked.known)
  version_quietly quiet = has.at_version ∙ ap Some (named_quietly seen base asked side right.at right.left before after has.number quiet named)

pub one_latest_end : {X Y : Type 0} (seen : X → LinkSeen) (seen_too : Y → LinkSeen) → OneLatestEnd seen seen_too
one_latest_end seen seen_too side base asked before after start left a b first second quiet quiet_too right right_too is is_too =
    let one = has_quietly seen base asked side before after a right first is quiet.quiet in
    let two = has_quietly seen_too base asked side start left b right_too second is_too quiet_too.quiet in
    let version : a.version ≡ b.version =
    version_quietly seen base asked side before after a right first is quiet.quiet ∙ sym (version_quietly seen_too base asked side start left b right_too second is_too quiet_too.quiet) in
    let both : AnswersAlike right.requests right_too.requests first second = answers_alike base side asked a.version b.version right.requests right_too.requests first second version one two in
    record {
      version = version;
      exchanges = right.count ∙ ap length both.requests_one ∙ sym right_too.count;
      departure = both.departure;
    }

-- two ends with answers over one link and after one another that name one version
both_alike : {X : Type 0} (seen : X → LinkSeen) (base : BaseParts) (asked : ArriveQuery) (side : Side) (before after : X) (end other : ArriveEnd) (first second : Option Journey) →
    (right : IsRight seen base asked side before after end) (right_too : IsRight seen base asked side before after other) → end.outcome ≡ answered first → other.outcome ≡ answered second →
    end.version ≡ other.version → AnswersAlike right.requests right_too.requests first second
both_alike seen base asked side before after end other first second right right_too is is_too one =
    let same : right_too.left ≡ right.left = same_side right_too.left right.left (sym right_too.honest.honest.tells ∙ right.honest.honest.tells) in
    let S : Side → Type 0 = λ s. HasLatest base s asked other.version right_too.requests second in
    answers_alike base right.left asked end.version other.version right.requests right_too.requests first second one (has_left seen base asked side before after end right first is)
    (subst S same (has_left seen base asked side before after other right_too second is_too))

no_more_counted : (end exchanges : ℕ) (requests other : List (List ℕ)) → requests ≡ other → end ≡ length requests → exchanges ≡ length other → exchanges ≡ end + 1 → ⊥
no_more_counted end exchanges requests other same one two more = once end exchanges (length requests) (length other) (ap length same) one two more where
  once : (a b c d : ℕ) → c ≡ d → a ≡ c → b ≡ d → b ≡ a + 1 → ⊥
  once a b c d e f g h = omega arith

pub not_one_exchange_more : {X : Type 0} (seen : X → LinkSeen) → NotOneExchangeMore seen
not_one_exchange_more seen side base asked before after end answer right is right_too =
    let more : ArriveEnd = record end { exchanges = end.exchanges + 1 } in
    let both = both_alike seen base asked side before after end more answer answer right right_too is is refl in
    no_more_counted end.exchanges more.exchanges right.requests right_too.requests both.requests_one right.count right_too.count refl

pub not_another_version : {X : Type 0} (seen : X → LinkSeen) → NotAnotherVersion seen
not_another_version seen side base asked before after end version quiet other right = other (named_quietly seen base asked side right.at right.left before after version quiet.quiet right.named)

one_longer : (requests : List (List ℕ)) (last : List ℕ) → requests ≡ requests ++ last ∷ [] → ⊥
one_longer requests last is =
    once (length requests) (length (requests ++ last ∷ [])) (length-append requests (last ∷ [])) (ap length is) where
      once : (a b : ℕ) → b ≡ a + 1 → a ≡ b → ⊥
      once a b more same = omega arith

pub not_one_page_more : NotOnePageMore
not_one_page_more base side asked version requests name first second has has_too =
    let both = answers_alike base side asked version version requests (requests ++ page_request base name ∷ []) first second refl has has_too in
    one_longer requests (page_request base name) both.requests_one

pub not_one_page_less : NotOnePageLess
not_one_page_less base side asked version requests fewer last first second is has has_too =
    let both = answers_alike base side asked version version requests fewer first second refl has has_too in
    one_longer fewer last (sym both.requests_one ∙ is)

not_before : (a b : ℕ) → a < b → b ≤ a → ⊥
not_before a b before by = omega arith

-- what is there is so at the version of the answer
journey_there : {X : Type 0} (seen : X → LinkSeen) (base : BaseParts) (asked : ArriveQuery) (side : Side) (before after : X) (end : ArriveEnd) (right : IsRight seen base asked side before after end) (journey : Journey) (answer : Option Journey)
    (has : HasLatest base right.at asked end.version right.requests answer) → IsThere seen base asked side before after end right journey → IsJourney (IsRideAt has.is_latest.live) (forward_query asked) right.at.doc journey
journey_there seen base asked side before after end right journey answer has there =
    let same : there.version ≡ has.number = same_number there.version has.number (sym there.named ∙ has.at_version) in
    let A : ℕ → Type 0 = λ v. AreLiveAt right.at v there.live in
    of_live right.at has.number (forward_query asked) there.live has.is_latest.live journey (subst A same there.are_live) has.is_latest.are_live there.is_journey

pub not_earlier : {X : Type 0} (seen : X → LinkSeen) → NotEarlier seen
not_earlier seen side base asked before after end journey later is earlier right there =
    let there_is = has seen base asked side before after end right (Some journey) is in
    not_before (leaves_at journey) (leaves_at later) earlier (there_is.is_latest.is_latest.is_latest later (journey_there seen base asked side before after end right later (Some journey) there_is there))

pub not_none : {X : Type 0} (seen : X → LinkSeen) → NotNone seen
not_none seen side base asked before after end journey is right there =
    let there_is = has seen base asked side before after end right None is in
    there_is.is_latest.is_latest journey (journey_there seen base asked side before after end right journey None there_is there)
