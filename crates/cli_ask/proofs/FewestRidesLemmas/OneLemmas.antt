-- The output of a question for the fewest rides is one.
use Rattle.std.proofs.Common.{◌≡◌, ℕ, Some, subst}
use Rattle.cli_ask.proofs.AdmissionLemmas.{store_with}
use Rattle.cli_ask.proofs.OneOutputLemmas.{first_side, second_side}
use Rattle.cli_ask.proofs.SideLemmas.{dates_of, in_zone, live_at}
use Rattle.cli_ask.specs.Laws.{OneOutput}
use Rattle.cli_ask.specs.Publishing.{side_with}
use Rattle.cli_ask.specs.FewestRides.Client.{HasFewestRides}
use Rattle.cli_ask.specs.FewestRides.Laws.{OneFewestOutput}
use Rattle.rounds_client.specs.Ends.Version.{AlikeAt, FewestAt}
use Rattle.rounds_client.specs.Ends.ReplyLaws.{HaveAsManyRides}
use Rattle.convoy.specs.ClientLaws.Stated.{version_at}
use Rattle.lc_model.specs.declared.journey.Journey.{Journey}
use Rattle.lc_model.specs.declared.query.Query.{Query}
use Rattle.lc_time.specs.declared.zone.Zone.{Zone}
use Rattle.lc_world.specs.Link.{LinkSeen}
use Rattle.page_client.specs.declared.outcome.Outcome.{Outcome}
use Rattle.page_client.specs.declared.outcome.Outcome.TheVariants as outcomes
use Rattle.lc_world.specs.Sides.Side.{Side, date_in}
use Rattle.version_store.specs.Laws.{OneOutcome}

module _ (alike_at : AlikeAt) (side : Side) (zone : Zone) (same : date_in zone ≡ date_in side.zone) (query : Query) where
  -- a journey of the fewest rides by a side in another zone is one by the side
  fewest_in_zone : (version : ℕ) (journey : Journey) → FewestAt (in_zone side zone) version query (Some journey) → FewestAt side version query (Some journey)
  fewest_in_zone version journey is = record { live = is.live; are_live = live_at side zone same version is.live is.are_live; is_fewest = is.is_fewest }

  -- journeys of the fewest rides have as many rides
  as_many : (o p : Outcome) → HasFewestRides (in_zone side zone) query o → HasFewestRides side query p → HaveAsManyRides o p
  as_many (outcomes.Found i) (outcomes.Found j) x y =
      (alike_at side (version_at side query.known) query (Some i) (Some j) (fewest_in_zone (version_at side query.known) i x) y).1
  as_many (outcomes.Found i) outcomes.NoJourney x y = tt
  as_many (outcomes.Found i) (outcomes.Refused g) x y = tt
  as_many (outcomes.Found i) (outcomes.LinkFault m n) x y = tt
  as_many (outcomes.Found i) (outcomes.PeerWrong r g) x y = tt
  as_many outcomes.NoJourney p x y = tt
  as_many (outcomes.Refused f) p x y = tt
  as_many (outcomes.LinkFault k l) p x y = tt
  as_many (outcomes.PeerWrong q f) p x y = tt

pub one_fewest_output : OneOutcome → AlikeAt → {X Y : Type 0} (seen : X → LinkSeen) (saw : Y → LinkSeen) → OneOutput seen saw → OneFewestOutput seen saw
one_fewest_output one_outcome alike_at seen saw one_output a b publishing file query before after other later x y d e same fair other_fair p q =
    let side = side_with b publishing (store_with b publishing.base_moment q.asked.store.history) in
    let here = first_side one_outcome a b publishing file p.asked.store q.asked.store p.asked.line q.asked.line same p.asked.behind q.asked.behind in
    let there = second_side one_outcome a b publishing file p.asked.store q.asked.store p.asked.line q.asked.line q.asked.behind in
    let first = subst (λ (s : Side). HasFewestRides s query d.outcome) here (p.fewest fair.was_clear (fair.short p.asked.store p.asked.line p.asked.behind)) in
    let second = subst (λ (s : Side). HasFewestRides s query e.outcome) there (q.fewest other_fair.was_clear (other_fair.short q.asked.store q.asked.line q.asked.behind)) in
    record {
      client = one_output a b publishing file query before after other later x y d e same fair other_fair p.asked q.asked;
      rides = as_many alike_at side a.zone (dates_of a b same) query d.outcome e.outcome first second;
    }
