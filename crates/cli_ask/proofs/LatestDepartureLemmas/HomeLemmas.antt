-- What is said of a question over a link at home is said of it over the outer link, and of the timetable that is published.
use Rattle.std.proofs.Common.{◌≡◌, ◌++◌, List, ℕ, Option, refl, subst, sym}
use Rattle.back_scan.specs.declared.arrive_query.ArriveQuery.{ArriveQuery}
use Rattle.cli_ask.specs.LatestDeparture.Asked.{AsksPublisher, IsAskedLatest}
use Rattle.cli_ask.specs.LatestDeparture.Client.{EndsRightLatest}
use Rattle.cli_ask.proofs.HomeLemmas.{home_seen, quiet_home}
use Rattle.cli_ask.specs.Block.{client_text_of}
use Rattle.cli_ask.specs.Opening.{IsOpened}
use Rattle.cli_ask.specs.Publishing.{held_with, side_with}
use Rattle.cli_ask.specs.declared.end.ClientEnd.{ClientEnd}
use Rattle.cli_words.specs.declared.command.Publishing.{Publishing}
use Rattle.connection_uri.specs.Base.{BaseParts}
use Rattle.fragmenter.specs.Cutting.{chosen_cuts}
use Rattle.fragmenter.specs.declared.cutting.Cutting.{Cutting}
use Rattle.back_client.specs.Ends.Asked.{HasAskedLatest}
use Rattle.lc_io.specs.declared.file.File.{File}
use Rattle.lc_links.specs.HomeLink.{HomeLinkState}
use Rattle.lc_world.specs.Link.{IsQuietWith, LinkSeen}
use Rattle.publisher.specs.Held.{Held, side_of}
use Rattle.lc_world.specs.Sides.Short.{IsShort, StandsUnder}
use Rattle.lc_world.specs.Sides.Side.{Side}
use Rattle.timetable.specs.declared.timetable.Timetable.{Timetable}

module _ {L : Type 0} (seen : L → LinkSeen) (home left : HomeLinkState Cutting L) (base : BaseParts) where
  -- the question over the link at home was asked of its publisher over the outer link
  pub asks_publisher : (line : List ℕ) (asked : ArriveQuery) (back : L) (text : List ℕ) (end : ClientEnd) → back ≡ left.outer
      → HasAskedLatest base asked (home_seen seen home) (home_seen seen left) end.version end.exchanges end.outcome
      → ((side : Side) → IsQuietWith (home_seen seen home) base side
      → EndsRightLatest side base asked (seen home.outer).recorded (seen left.outer).recorded (seen home.outer).faults (seen left.outer).faults end)
      → text ≡ line ++ client_text_of 1 end
      → AsksPublisher home.local.publisher base line asked (seen home.outer) (seen back) text end
  asks_publisher line asked back text end is asks right said =
      subst (λ (l : L). AsksPublisher home.local.publisher base line asked (seen home.outer) (seen l) text end) (sym is) (record {
        asks = record {
          made = asks.made;
          counted = asks.counted;
          ends = asks.ends;
          recorded = asks.recorded;
          clear = asks.clear;
          not_fallen = asks.not_fallen;
          along = asks.along;
        };
        right = λ clear stands. right (side_of chosen_cuts home.local.publisher) (quiet_home seen home left base clear stands);
        text_is = said;
      })

module _ {L : Type 0} (made : Timetable) (publishing : Publishing) (file : Option File) (link : L) (line : List ℕ) (base : BaseParts) (home : HomeLinkState Cutting L) where
  -- what was asked of its publisher was asked of the one of the timetable
  pub is_asked : (seen : L → LinkSeen) (asked : ArriveQuery) (after : LinkSeen) (text : List ℕ) (end : ClientEnd) → IsOpened made publishing file link line base home
      → AsksPublisher home.local.publisher base line asked (seen home.outer) after text end → IsAskedLatest made publishing file asked (seen link) after text end
  is_asked seen asked after text end opened asks =
      by (subst (λ (l : L). AsksPublisher (held_with made publishing opened.store) publishing.base line asked (seen l) after text end) opened.outer_is
      (subst (λ (b : BaseParts). AsksPublisher (held_with made publishing opened.store) b line asked (seen home.outer) after text end) opened.base_is
      (subst (λ (h : Held Cutting). AsksPublisher h base line asked (seen home.outer) after text end) opened.publisher_is asks))) where
        under : IsShort (side_with made publishing opened.store) → StandsUnder publishing.base (side_with made publishing opened.store)
        under short = record { is_base = refl; valid = opened.valid; short = short }

        by : AsksPublisher (held_with made publishing opened.store) publishing.base line asked (seen link) after text end → IsAskedLatest made publishing file asked (seen link) after text end
        by x = record {
          store = opened.store;
          line = line;
          behind = opened.behind;
          asks = x.asks;
          right = λ clear short. x.right clear (under short);
          text_is = x.text_is;
        }
