-- That a right end is one, and that what is near it is none.
use Rattle.std.proofs.Common.{◌≡◌, ℕ, ◌+◌, List, length, Option, Some, None, refl, ap, sym, subst, ◌∙◌, arith}
use Rattle.lc_model.specs.declared.journey.Journey.{Journey}
use Rattle.lc_model.specs.declared.query.Query.{Query}
use Rattle.connection_uri.specs.Base.{BaseParts}
use Rattle.lc_world.specs.Link.{LinkSeen}
use Rattle.page_client.specs.Shown.{answered}
use Rattle.page_client.specs.declared.outcome.Outcome.{Outcome}
use Rattle.page_client.specs.declared.outcome.Outcome.TheVariants as outcomes
use Rattle.page_client.specs.declared.want.Want.{Want}
use Rattle.lc_world.specs.Sides.Side.{Side}
use Rattle.convoy.specs.ClientLaws.Stated.{version_at}
use Rattle.convoy.specs.ClientLaws.Answered.{NeededAt}
use Rattle.convoy.specs.ClientLaws.Laws.{OneListOfNeededAt}
use Rattle.convoy.specs.ClientLaws.Wants.{wants_of}
use Rattle.change_rounds.specs.Laws.{AreAlike}
use Rattle.rounds_client.specs.Ends.Version.{AlikeAt, FewestAt}
use Rattle.rounds_client.specs.declared.ending.FewestEnd.{FewestEnd}
use Rattle.rounds_client.specs.Ends.Laws.{OneFewestEnd}
use Rattle.rounds_client.specs.Ends.Near.{NotAnotherVersion, NotNone, NotOneExchangeMore, NotOneRideFewer, NotOneRideMore}
use Rattle.rounds_client.specs.Ends.Right.{EndsAt, HasFewest, IsNamed, IsNamedByGate, IsRight}

-- what holds of an end with an answer
answer_at : (side : Side) (query : Query) (version : Option ℕ) (asked : List Want) (before after : ℕ) (answer : Option Journey) → EndsAt side query version asked before after (answered answer) →
    HasFewest side query version asked answer
answer_at side query version asked before after None at = at
answer_at side query version asked before after (Some journey) at = at

has_answer : (side : Side) (query : Query) (version : Option ℕ) (asked : List Want) (before after : ℕ) (outcome : Outcome) (answer : Option Journey) → outcome ≡ answered answer →
    EndsAt side query version asked before after outcome → HasFewest side query version asked answer
has_answer side query version asked before after outcome answer is at =
    let E : Outcome → Type 0 = λ o. EndsAt side query version asked before after o in
    answer_at side query version asked before after answer (subst E is at)

-- two answers at a version
record AnswersAlike (asked other : List Want) (first second : Option Journey) : Type 0 where
  alike : AreAlike first second
  asked_one : asked ≡ other

answers_alike : OneListOfNeededAt → AlikeAt → (side : Side) (query : Query) (version other_version : Option ℕ) (asked other : List Want) (first second : Option Journey) → version ≡ other_version → HasFewest side query version asked first →
    HasFewest side query other_version other second → AnswersAlike asked other first second
answers_alike needed law side query version other_version asked other first second one has has_too =
    let at = has.at_version in
    let at_too = has_too.at_version in
    let same : has.number ≡ has_too.number = cc in
    let F : ℕ → Type 0 = λ v. FewestAt side v query first in
    let N : ℕ → Type 0 = λ v. NeededAt side v query has.names in
    record {
      alike = law side has_too.number query first second (subst F same has.is_fewest) has_too.is_fewest;
      asked_one = has.asked_are ∙ ap wants_of (needed side has_too.number query has.names has_too.names (subst N same has.are_needed) has_too.are_needed) ∙ sym has_too.asked_are;
    }

-- over a quiet link the version that is named is the one of its side
named_quietly : {X : Type 0} (seen : X → LinkSeen) (base : BaseParts) (query : Query) (side left : Side) (before after : X) (version : ℕ) → (seen before).quiet base →
    IsNamedByGate seen base query side left before after version → version ≡ version_at side query.known
named_quietly seen base query side left before after version quiet named = named.is ∙ ap (λ (s : Side). version_at s query.known) (named.first.same quiet)

module _ {X : Type 0} (seen : X → LinkSeen) (base : BaseParts) (query : Query) (side : Side) (before after : X) (end : FewestEnd) (right : IsRight seen base query side before after end) (answer : Option Journey)
    (is : end.outcome ≡ answered answer) where
  has : HasFewest right.left query end.version right.asked answer
  has = has_answer right.left query end.version right.asked (seen before).faults (seen after).faults end.outcome answer is right.ends

  -- over a quiet link it is one at the link's side
  has_quietly : (seen before).quiet base → HasFewest side query (Some (version_at side query.known)) right.asked answer
  has_quietly quiet =
      let there = has in
      let P : Option ℕ → Type 0 = λ v. IsNamed seen base query side right.left before after v in
      let number : there.number ≡ version_at side query.known = named_quietly seen base query side right.left before after there.number quiet (subst P there.at_version right.named) in
      let H : Option ℕ → Type 0 = λ v. HasFewest right.left query v right.asked answer in
      let S : Side → Type 0 = λ s. HasFewest s query (Some (version_at side query.known)) right.asked answer in
      subst S (right.honest.same quiet) (subst H (there.at_version ∙ ap Some number) there)

  version_quietly : (seen before).quiet base → end.version ≡ Some (version_at side query.known)
  version_quietly quiet =
      let there = has in
      let P : Option ℕ → Type 0 = λ v. IsNamed seen base query side right.left before after v in
      there.at_version ∙ ap Some (named_quietly seen base query side right.left before after there.number quiet (subst P there.at_version right.named))

pub one_fewest_end : OneListOfNeededAt → AlikeAt → {X Y : Type 0} (seen : X → LinkSeen) (seen_too : Y → LinkSeen) → OneFewestEnd seen seen_too
one_fewest_end needed law seen seen_too side base query before after start left a b first second quiet quiet_too right right_too is is_too =
    let one = has_quietly seen base query side before after a right first is quiet.quiet in
    let two = has_quietly seen_too base query side start left b right_too second is_too quiet_too.quiet in
    let v : Option ℕ = Some (version_at side query.known) in
    let both : AnswersAlike right.asked right_too.asked first second = answers_alike needed law side query v v right.asked right_too.asked first second refl one two in
    record {
      version = version_quietly seen base query side before after a right first is quiet.quiet ∙ sym (version_quietly seen_too base query side start left b right_too second is_too quiet_too.quiet);
      exchanges = right.count ∙ ap length both.asked_one ∙ sym right_too.count;
      answers = both.alike;
    }

-- two ends of one run
module _ (needed : OneListOfNeededAt) (law : AlikeAt) {X : Type 0} (seen : X → LinkSeen) (side : Side) (base : BaseParts) (query : Query) (before after : X) (end other : FewestEnd) (first second : Option Journey)
    (right : IsRight seen base query side before after end) (right_too : IsRight seen base query side before after other) (is : end.outcome ≡ answered first) (is_too : other.outcome ≡ answered second)
    (one : end.version ≡ other.version) where
  both_alike : AnswersAlike right.asked right_too.asked first second
  both_alike =
      let tells = right.honest.honest.tells in
      let tells_too = right_too.honest.honest.tells in
      let same : right_too.left ≡ right.left = cc in
      let S : Side → Type 0 = λ s. HasFewest s query other.version right_too.asked second in
      answers_alike needed law right.left query end.version other.version right.asked right_too.asked first second one (has seen base query side before after end right first is)
      (subst S same (has seen base query side before after other right_too second is_too))

as_many : (a b : Journey) → AreAlike (Some a) (Some b) → length a.rides ≡ length b.rides
as_many a b alike = alike.1

pub not_one_ride_more : OneListOfNeededAt → AlikeAt → {X : Type 0} (seen : X → LinkSeen) → NotOneRideMore seen
not_one_ride_more needed law seen side base query before after end journey other right is more right_too =
    let both = both_alike needed law seen side base query before after end (record end { outcome = outcomes.Found other }) (Some journey) (Some other) right right_too is refl refl in
    let same = as_many journey other both.alike in
    omega arith

pub not_one_ride_fewer : OneListOfNeededAt → AlikeAt → {X : Type 0} (seen : X → LinkSeen) → NotOneRideFewer seen
not_one_ride_fewer needed law seen side base query before after end journey other right is fewer right_too =
    let both = both_alike needed law seen side base query before after end (record end { outcome = outcomes.Found other }) (Some journey) (Some other) right right_too is refl refl in
    let same = as_many journey other both.alike in
    omega arith

pub not_none : OneListOfNeededAt → AlikeAt → {X : Type 0} (seen : X → LinkSeen) → NotNone seen
not_none needed law seen side base query before after end journey right is right_too =
    let both = both_alike needed law seen side base query before after end (record end { outcome = outcomes.NoJourney }) (Some journey) None right right_too is refl refl in
    both.alike

pub not_one_exchange_more : OneListOfNeededAt → AlikeAt → {X : Type 0} (seen : X → LinkSeen) → NotOneExchangeMore seen
not_one_exchange_more needed law seen side base query before after end answer right is right_too =
    let both = both_alike needed law seen side base query before after end (record end { exchanges = end.exchanges + 1 }) answer answer right right_too is is refl in
    let same : length right.asked ≡ length right_too.asked = ap length both.asked_one in
    let count = right.count in
    let count_too = right_too.count in
    omega arith

pub not_another_version : {X : Type 0} (seen : X → LinkSeen) → NotAnotherVersion seen
not_another_version seen side base query before after end version quiet other right = other (named_quietly seen base query side right.left before after version quiet.quiet right.named)
