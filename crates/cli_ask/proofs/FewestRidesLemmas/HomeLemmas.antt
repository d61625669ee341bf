-- What is said of a client over a link at home is said of it over the outer link, and of the timetable that is published.
use Rattle.std.proofs.Common.{◌≡◌, ◌++◌, List, ℕ, Option, refl, subst, sym}
use Rattle.cli_ask.proofs.HomeLemmas.{home_seen, quiet_home}
use Rattle.cli_ask.specs.Block.{client_text_of}
use Rattle.cli_ask.specs.Opening.{IsOpened}
use Rattle.cli_ask.specs.Publishing.{held_with, side_with}
use Rattle.cli_ask.specs.declared.end.ClientEnd.{ClientEnd}
use Rattle.cli_ask.specs.FewestRides.Asked.{AsksPublisher, IsAskedFewest}
use Rattle.cli_ask.specs.FewestRides.Client.{EndsRightFewest}
use Rattle.cli_words.specs.declared.command.Publishing.{Publishing}
use Rattle.connection_uri.specs.Base.{BaseParts}
use Rattle.fragmenter.specs.Cutting.{chosen_cuts}
use Rattle.fragmenter.specs.declared.cutting.Cutting.{Cutting}
use Rattle.rounds_client.specs.Ends.Asked.{HasAskedFewest}
use Rattle.lc_io.specs.declared.file.File.{File}
use Rattle.lc_links.specs.HomeLink.{HomeLinkState}
use Rattle.lc_model.specs.declared.query.Query.{Query}
use Rattle.lc_world.specs.Link.{IsQuietWith, LinkSeen}
use Rattle.publisher.specs.Held.{Held, side_of}
use Rattle.lc_world.specs.Sides.Short.{IsShort, StandsUnder}
use Rattle.lc_world.specs.Sides.Side.{Side}
use Rattle.timetable.specs.declared.timetable.Timetable.{Timetable}

module _ {L : Type 0} (seen : L → LinkSeen) (home left : HomeLinkState Cutting L) (base : BaseParts) where
  -- the client that asked over the link at home asked its publisher over the outer link
  pub asks_publisher : (line : List ℕ) (query : Query) (back : L) (text : List ℕ) (end : ClientEnd) → back ≡ left.outer
      → HasAskedFewest base query (home_seen seen home) (home_seen seen left) end.version end.exchanges end.outcome
      → ((side : Side) → IsQuietWith (home_seen seen home) base side → EndsRightFewest side base query (seen home.outer).recorded (seen left.outer).recorded end)
      → text ≡ line ++ client_text_of 1 end
      → AsksPublisher home.local.publisher base line query (seen home.outer) (seen back) text end
  asks_publisher line query back text end is asks right said =
      subst (λ (l : L). AsksPublisher home.local.publisher base line query (seen home.outer) (seen l) text end) (sym is) (record {
        asks = record {
          asked = record {
            made = asks.asked.made;
            counted = asks.asked.counted;
            ends = asks.asked.ends;
            recorded = asks.asked.recorded;
            clear = asks.asked.clear;
            not_fallen = asks.asked.not_fallen;
            along = asks.asked.along;
          };
          fewest = asks.fewest;
        };
        right = λ clear stands. right (side_of chosen_cuts home.local.publisher) (quiet_home seen home left base clear stands);
        text_is = said;
      })

module _ {L : Type 0} (made : Timetable) (publishing : Publishing) (file : Option File) (link : L) (line : List ℕ) (base : BaseParts) (home : HomeLinkState Cutting L) where
  -- what was asked of its publisher was asked of the one of the timetable
  pub is_asked : (seen : L → LinkSeen) (query : Query) (after : LinkSeen) (text : List ℕ) (end : ClientEnd) → IsOpened made publishing file link line base home
      → AsksPublisher home.local.publisher base line query (seen home.outer) after text end → IsAskedFewest made publishing file query (seen link) after text end
  is_asked seen query after text end opened asks =
      by (subst (λ (l : L). AsksPublisher (held_with made publishing opened.store) publishing.base line query (seen l) after text end) opened.outer_is
      (subst (λ (b : BaseParts). AsksPublisher (held_with made publishing opened.store) b line query (seen home.outer) after text end) opened.base_is
      (subst (λ (h : Held Cutting). AsksPublisher h base line query (seen home.outer) after text end) opened.publisher_is asks))) where
        under : IsShort (side_with made publishing opened.store) → StandsUnder publishing.base (side_with made publishing opened.store)
        under short = record { is_base = refl; valid = opened.valid; short = short }

        by : AsksPublisher (held_with made publishing opened.store) publishing.base line query (seen link) after text end → IsAskedFewest made publishing file query (seen link) after text end
        by x = record {
          asked = record {
            store = opened.store;
            line = line;
            behind = opened.behind;
            asks = x.asks.asked;
            right = λ clear short. (x.right clear (under short)).right;
            text_is = x.text_is;
          };
          read = x.asks.fewest;
          fewest = λ clear short. (x.right clear (under short)).fewest;
        }
