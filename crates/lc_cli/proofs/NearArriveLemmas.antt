-- Two ends with the latest departure leave at one moment after as many exchanges, and what is near one of them is none.
use Rattle.std.proofs.Common.{◌≡◌, ◌∙◌, ◌∷◌, ◌++◌, [], List, Option, Some, None, ap, arith, length, refl, subst, sym}
use Rattle.back_scan.specs.Forward.{forward_query}
use Rattle.back_scan.specs.declared.arrive_query.ArriveQuery.{ArriveQuery}
use Rattle.cli_ask.specs.declared.end.ClientEnd.{ClientEnd}
use Rattle.back_client.specs.Ends.Latest.{LatestAt}
use Rattle.back_client.specs.Ends.Laws.{OneDepartureAt, OneListOfNeededBackAt}
use Rattle.convoy.specs.ClientLaws.Stated.{version_at}
use Rattle.lc_model.specs.Journey.{leaves_at}
use Rattle.lc_model.specs.declared.journey.Journey.{Journey}
use Rattle.lc_model.specs.declared.page.PageName.{PageName}
use Rattle.page_client.specs.Shown.{answered}
use Rattle.page_client.specs.declared.outcome.Outcome.TheVariants as outcomes
use Rattle.lc_world.specs.Sides.Side.{Side}
use Rattle.lc_cli.specs.HeadlineOfArrive.{EndsLatest}
use Rattle.lc_cli.specs.NearArrive.{NotAnotherOrder, NotEarlier, NotLater, NotNone, NotOneExchangeMore, NotVersion}
use Rattle.lc_cli.proofs.NearFewestLemmas.{one_answer}

-- the answer of such an end is one of the latest departure
is_latest : (side : Side) (asked : ArriveQuery) (end : ClientEnd) (answer : Option Journey) → EndsLatest side asked end → end.outcome ≡ answered answer
    → LatestAt side (version_at side asked.known) (forward_query asked) answer
is_latest side asked end answer ends is =
    subst (LatestAt side (version_at side asked.known) (forward_query asked)) (one_answer ends.answer answer (sym ends.outcome_is ∙ is)) ends.is_latest

module _ (law : OneDepartureAt) (side : Side) (asked : ArriveQuery) (end : ClientEnd) (journey : Journey) (ends : EndsLatest side asked end) (is : end.outcome ≡ outcomes.Found journey) where
  -- another journey leaves at the same moment
  as_late : (other : Journey) → EndsLatest side asked (record end { outcome = outcomes.Found other }) → leaves_at journey ≡ leaves_at other
  as_late other ends_too =
      let here = is_latest side asked end (Some journey) ends is in
      let there = is_latest side asked (record end { outcome = outcomes.Found other }) (Some other) ends_too refl in
      let same : Some (leaves_at journey) ≡ Some (leaves_at other) = law side (version_at side asked.known) (forward_query asked) (Some journey) (Some other) here there in
      cc

  -- and there is one
  not_none_here : EndsLatest side asked (record end { outcome = outcomes.NoJourney }) → ⊥
  not_none_here ends_too =
      let here = is_latest side asked end (Some journey) ends is in
      let there = is_latest side asked (record end { outcome = outcomes.NoJourney }) None ends_too refl in
      let same : Some (leaves_at journey) ≡ None = law side (version_at side asked.known) (forward_query asked) (Some journey) None here there in
      cc

pub not_earlier : OneDepartureAt → NotEarlier
not_earlier law side asked end journey other ends is before ends_too = let same = as_late law side asked end journey ends is other ends_too in omega (arith, same, before)

pub not_later : OneDepartureAt → NotLater
not_later law side asked end journey other ends is after ends_too = let same = as_late law side asked end journey ends is other ends_too in omega (arith, same, after)

pub not_none : OneDepartureAt → NotNone
not_none law side asked end journey ends is ends_too = not_none_here law side asked end journey ends is ends_too

pub not_version : NotVersion
not_version side asked end version other ends = other (let is = ends.version_is in cc)

pub not_one_exchange_more : OneListOfNeededBackAt → NotOneExchangeMore
not_one_exchange_more law side asked end other ends more ends_too =
    let pages : ends.pages ≡ ends_too.pages = law side (version_at side asked.known) (forward_query asked) ends.pages ends_too.pages ends.are_needed ends_too.are_needed in
    let count : length ends.pages ≡ length ends_too.pages = ap (λ (l : List PageName). length l) pages in
    let first = ends.exchanges in
    let second = ends_too.exchanges in
    omega (arith, count, first, second, more)

-- lists that are one but for the order of two elements have one element twice
one_twice : (front rest : List PageName) (a b : PageName) → front ++ a ∷ b ∷ rest ≡ front ++ b ∷ a ∷ rest → a ≡ b
one_twice [] rest a b same = cc
one_twice (first ∷ front) rest a b same = one_twice front rest a b (cc)

pub not_another_order : OneListOfNeededBackAt → NotAnotherOrder
not_another_order law side asked end front rest a b ends are apart needed =
    apart (one_twice front rest a b (sym are ∙ law side (version_at side asked.known) (forward_query asked) ends.pages (front ++ b ∷ a ∷ rest) ends.are_needed needed))
