use Rattle.std.proofs.Common.{ap, map}
use Rattle.version_store.specs.IndexLaws.Kept.{news_in}
use Rattle.version_store.specs.Kept.{news_said}
use Rattle.version_store.proofs.ExchangeLemmas.{none_left}
use Rattle.version_store.proofs.TripsLemmas.{all_so_far, none_so_far, trip_so_far}
use Rattle.version_store.proofs.near.near_news.Goals as goal

pub trips-init : goal.trips-init
trips-init c = λ before after has_before has_after. (
  none_so_far c.args.trips (map news_said c.new.result.items) (news_in before) (ap (map news_said) c.new.ensures.items),
  none_so_far c.args.trips (map news_said c.new-2.result.items) (news_in after) (ap (map news_said) c.new-2.ensures.items),
)

pub trips-preserved : goal.trips-preserved
trips-preserved c = λ before after has_before has_after.
    let so = c.trips.invariant before after has_before has_after in
    let pushed = c.in_ok-push_near.ensures before after has_before has_after in
    let was = c.in-Some.ensures.member in (
      trip_so_far c.args.trips c.trips.trips c.pop_first.new.self c.in-Some.trip before (map news_said c.trips.near.old.items) (map news_said c.push_near.new.near.old.items) (λ q. c.in-Some.ensures.updates.0 q) was pushed.of_before so.0,
      trip_so_far c.args.trips c.trips.trips c.pop_first.new.self c.in-Some.trip after (map news_said c.trips.near.new.items) (map news_said c.push_near.new.near.new.items) (λ q. c.in-Some.ensures.updates.0 q) was pushed.of_after so.1,
    )

pub returns : goal.returns
returns c = λ before after has_before has_after.
    let so = c.trips.invariant before after has_before has_after in
    let none = none_left c.trips.trips.keys c.pop_first.result c.pop_first.ensures.variant c.in_default.is in
    record {
      of_before = all_so_far c.args.trips c.trips.trips (map news_said c.trips.near.old.items) (news_in before) none so.0;
      of_after = all_so_far c.args.trips c.trips.trips (map news_said c.trips.near.new.items) (news_in after) none so.1;
    }
