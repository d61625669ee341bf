-- Two ends with the fewest rides are alike, and what is near one of them is none.
use Rattle.std.proofs.Common.{◌≡◌, ◌∙◌, Option, Some, None, length, refl, subst, sym, arith}
use Rattle.cli_ask.specs.declared.end.ClientEnd.{ClientEnd}
use Rattle.rounds_client.specs.Ends.Version.{AlikeAt, FewestAt}
use Rattle.lc_model.specs.declared.journey.Journey.{Journey}
use Rattle.lc_model.specs.declared.query.Query.{Query}
use Rattle.page_client.specs.Shown.{answered}
use Rattle.page_client.specs.declared.outcome.Outcome.TheVariants as outcomes
use Rattle.lc_world.specs.Sides.Side.{Side}
use Rattle.lc_cli.specs.Headline.{version_meant}
use Rattle.lc_cli.specs.HeadlineOfFewest.{EndsFewest}
use Rattle.lc_cli.specs.NearFewest.{NotAnotherVersion, NotNoJourney, NotOneRideFewer, NotOneRideMore}

-- no outcome is that of two answers
pub one_answer : (a b : Option Journey) → answered a ≡ answered b → a ≡ b
one_answer (Some a) (Some b) same = let inner : a ≡ b = cc in cc
one_answer (Some a) None same = absurd (cc)
one_answer None (Some b) same = absurd (cc)
one_answer None None same = refl

-- the answer of such an end has the fewest rides
is_fewest : (side : Side) (query : Query) (end : ClientEnd) (answer : Option Journey) → EndsFewest side query end → end.outcome ≡ answered answer
    → FewestAt side (version_meant side query) query answer
is_fewest side query end answer ends is =
    subst (FewestAt side (version_meant side query) query) (one_answer ends.answer answer (sym ends.outcome_is ∙ is)) ends.is_fewest

module _ (law : AlikeAt) (side : Side) (query : Query) (end : ClientEnd) (journey : Journey) (ends : EndsFewest side query end) (is : end.outcome ≡ outcomes.Found journey) where
  -- another journey has as many rides
  as_many : (other : Journey) → EndsFewest side query (record end { outcome = outcomes.Found other }) → length journey.rides ≡ length other.rides
  as_many other ends_too =
      let here = is_fewest side query end (Some journey) ends is in
      let there = is_fewest side query (record end { outcome = outcomes.Found other }) (Some other) ends_too refl in
      (law side (version_meant side query) query (Some journey) (Some other) here there).1

  -- and there is one
  not_none : EndsFewest side query (record end { outcome = outcomes.NoJourney }) → ⊥
  not_none ends_too =
      let here = is_fewest side query end (Some journey) ends is in
      let there = is_fewest side query (record end { outcome = outcomes.NoJourney }) None ends_too refl in
      law side (version_meant side query) query (Some journey) None here there

pub not_one_ride_more : AlikeAt → NotOneRideMore
not_one_ride_more law side query end journey other ends is more ends_too = let same = as_many law side query end journey ends is other ends_too in omega arith

pub not_one_ride_fewer : AlikeAt → NotOneRideFewer
not_one_ride_fewer law side query end journey other ends is fewer ends_too = let same = as_many law side query end journey ends is other ends_too in omega arith

pub not_no_journey : AlikeAt → NotNoJourney
not_no_journey law side query end journey ends is ends_too = not_none law side query end journey ends is ends_too

pub not_another_version : NotAnotherVersion
not_another_version side query end version other ends = other (let is = ends.version_is in cc)
