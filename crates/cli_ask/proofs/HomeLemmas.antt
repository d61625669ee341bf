-- What is said of a client over a link at home is said of it over the outer link.
use Rattle.std.proofs.Common.{◌≡◌, ◌++◌, List, ℕ, Option, Result, Ok, Err, IfOk, Some, refl, subst, sym}
use Rattle.connection_uri.specs.Base.{BaseParts}
use Rattle.fragmenter.specs.Cutting.{chosen_cuts}
use Rattle.fragmenter.specs.declared.cutting.Cutting.{Cutting}
use Rattle.lc_links.specs.HomeLink.{HomeLinkState}
use Rattle.lc_model.specs.declared.query.Query.{Query}
use Rattle.lc_world.specs.GoneOn.{IsLeftByGets, IsLeftByPasses}
use Rattle.lc_world.specs.Link.{IsQuietWith, LinkSeen}
use Rattle.convoy.specs.Replies.Run.{HasAsked}
use Rattle.page_client.specs.declared.outcome.Outcome.{Outcome}
use Rattle.publisher.specs.Held.{side_of}
use Rattle.lc_world.specs.Sides.Short.{StandsUnder}
use Rattle.lc_world.specs.Sides.Side.{Side}
use Rattle.cli_ask.specs.Asked.{AsksPublisher}
use Rattle.cli_ask.specs.Block.{client_text_of}
use Rattle.cli_ask.specs.Client.{Asks, EndsRight}
use Rattle.cli_ask.specs.declared.end.ClientEnd.{ClientEnd}

-- how a link at home is seen, by how the outer one is seen
abbrev pub home_seen : {L : Type 0} → (L → LinkSeen) → HomeLinkState Cutting L → LinkSeen
home_seen {L} seen home = record {
  side = Some (side_of chosen_cuts home.local.publisher);
  recorded = (seen home.outer).recorded;
  honest = λ (base : BaseParts). (seen home.outer).clear;
  quiet = λ (base : BaseParts). (seen home.outer).clear;
  clear = (seen home.outer).clear;
  still = Unit {0};
  faults = (seen home.outer).faults;
}

-- what is known of what was made of an end, and what is promised of that end, give what follows from both
pub of_end : {A F E M : Type 0} (result : Result A F) (ended : Result E M) (P : A → Type 0) (Q S : E → Type 0) (R : A → Type 0) (end : A → E)
    → ((a : A) → P a → Q (end a) → S (end a) → R a) → IfOk result P → IfOk result (λ a. ended ≡ Ok (end a)) → IfOk ended Q → IfOk ended S → IfOk result R
of_end (Ok a) ended P Q S R end step said is one other = step a said (subst (λ e. IfOk e Q) is one) (subst (λ e. IfOk e S) is other)
of_end (Err fault) ended P Q S R end step said is one other = tt

module _ {L : Type 0} (seen : L → LinkSeen) (home left : HomeLinkState Cutting L) (base : BaseParts) where
  -- a link at home is quiet with the side of its publisher where the outer one is clear
  pub quiet_home : (seen home.outer).clear → StandsUnder base (side_of chosen_cuts home.local.publisher) → IsQuietWith (home_seen seen home) base (side_of chosen_cuts home.local.publisher)
  quiet_home clear stands = record { as_honest = record { tells = refl; stands = stands; honest = clear }; quiet = clear }

  -- who asked over the link at home asked over the outer link
  pub asked_outer : (query : Query) (version : Option ℕ) (exchanges : ℕ) (outcome : Outcome) → HasAsked base query (home_seen seen home) (home_seen seen left) version exchanges outcome
      → HasAsked base query (seen home.outer) (seen left.outer) version exchanges outcome
  asked_outer query version exchanges outcome asks = record {
    made = asks.made;
    counted = asks.counted;
    ends = asks.ends;
    recorded = asks.recorded;
    clear = asks.clear;
    not_fallen = asks.not_fallen;
    along = asks.along;
  }

  -- the client that asked over the link at home asked its publisher over the outer link
  pub asks_publisher : (line : List ℕ) (query : Query) (back : L) (text : List ℕ) (end : ClientEnd) → back ≡ left.outer → Asks base query (home_seen seen home) (home_seen seen left) end
      → ((side : Side) → IsQuietWith (home_seen seen home) base side → EndsRight side base query (seen home.outer).recorded (seen left.outer).recorded end)
      → text ≡ line ++ client_text_of 1 end
      → AsksPublisher home.local.publisher base line query (seen home.outer) (seen back) text end
  asks_publisher line query back text end is asks right said =
      subst (λ (l : L). AsksPublisher home.local.publisher base line query (seen home.outer) (seen l) text end) (sym is) (record {
        asks = asked_outer query end.version end.exchanges end.outcome asks;
        right = λ clear stands. right (side_of chosen_cuts home.local.publisher) (quiet_home clear stands);
        text_is = said;
      })

-- what GETs leave of a link at home is what passes leave of the outer link
pub left_outside : {L : Type 0} (seen : L → LinkSeen) (home left : HomeLinkState Cutting L) (back : L) → back ≡ left.outer → IsLeftByGets (home_seen seen home) (home_seen seen left)
    → (seen left.outer).side ≡ (seen home.outer).side → IsLeftByPasses (seen home.outer) (seen back)
left_outside {L} seen home left back is gets side = subst (λ (l : L). IsLeftByPasses (seen home.outer) (seen l)) (sym is) (record { gone_on = gets.gone_on; side = side })
