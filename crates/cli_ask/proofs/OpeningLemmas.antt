-- What is said of the publisher of a link at home is said of the timetable that it publishes.
use Rattle.std.proofs.Common.{◌∙◌, List, ℕ, Option, ap, refl, subst, sym}
use Rattle.connection_uri.specs.Base.{BaseParts}
use Rattle.cli_words.specs.declared.command.Publishing.{Publishing}
use Rattle.fragmenter.specs.Cutting.{chosen_cuts}
use Rattle.fragmenter.specs.declared.cutting.Cutting.{Cutting}
use Rattle.lc_io.specs.declared.file.File.{File}
use Rattle.lc_links.specs.HomeLink.{HomeLinkState}
use Rattle.lc_model.specs.declared.query.Query.{Query}
use Rattle.lc_world.specs.Link.{LinkSeen}
use Rattle.publisher.specs.Held.{Held, side_of}
use Rattle.lc_world.specs.Sides.Short.{IsShort, StandsUnder}
use Rattle.lc_world.specs.Sides.Side.{IsValidSide}
use Rattle.timetable.specs.declared.timetable.Timetable.{Timetable}
use Rattle.cli_ask.specs.Admission.{IsBehind}
use Rattle.cli_ask.specs.Asked.{AsksPublisher, IsAsked}
use Rattle.cli_ask.specs.Opening.{IsAtHome, IsOpened, IsPrepared}
use Rattle.cli_ask.specs.Publishing.{held_with, side_with, store_of}
use Rattle.cli_ask.specs.declared.end.ClientEnd.{ClientEnd}

module _ {L : Type 0} (made : Timetable) (publishing : Publishing) (file : Option File) (link : L) (line : List ℕ) (base : BaseParts) (home : HomeLinkState Cutting L) where
  -- a link at home to a publisher that has got its message
  pub is_opened : (held : Held Cutting) (own : BaseParts) (said : List ℕ) → IsPrepared made publishing file held own said → IsValidSide (side_of chosen_cuts held)
      → IsAtHome held own said link line base home → IsOpened made publishing file link line base home
  is_opened held own said prepared valid at = record {
    store = prepared.store;
    behind = subst (λ (l : List ℕ). IsBehind file (store_of made publishing.base_moment) prepared.store l) (sym at.line_is) prepared.behind;
    publisher_is = ap (λ (h : HomeLinkState Cutting L). h.local.publisher) at.home_is ∙ prepared.held_is;
    valid = subst (λ (h : Held Cutting). IsValidSide (side_of chosen_cuts h)) prepared.held_is valid;
    outer_is = ap (λ (h : HomeLinkState Cutting L). h.outer) at.home_is;
    base_is = at.base_is ∙ prepared.base_is;
  }

  -- its side is under the base of the publisher where the publisher's texts fit into replies
  pub stands_under : (opened : IsOpened made publishing file link line base home) → IsShort (side_with made publishing opened.store) → StandsUnder base (side_of chosen_cuts home.local.publisher)
  stands_under opened short =
      let under : StandsUnder publishing.base (side_with made publishing opened.store) = record { is_base = refl; valid = opened.valid; short = short } in
      subst (λ (b : BaseParts). StandsUnder b (side_of chosen_cuts home.local.publisher)) (sym opened.base_is)
      (subst (λ (h : Held Cutting). StandsUnder publishing.base (side_of chosen_cuts h)) (sym opened.publisher_is) under)

  -- what was asked of its publisher was asked of the one of the timetable
  pub is_asked : (seen : L → LinkSeen) (query : Query) (after : LinkSeen) (text : List ℕ) (end : ClientEnd) → IsOpened made publishing file link line base home
      → AsksPublisher home.local.publisher base line query (seen home.outer) after text end → IsAsked made publishing file query (seen link) after text end
  is_asked seen query after text end opened asks =
      by (subst (λ (l : L). AsksPublisher (held_with made publishing opened.store) publishing.base line query (seen l) after text end) opened.outer_is
      (subst (λ (b : BaseParts). AsksPublisher (held_with made publishing opened.store) b line query (seen home.outer) after text end) opened.base_is
      (subst (λ (h : Held Cutting). AsksPublisher h base line query (seen home.outer) after text end) opened.publisher_is asks))) where
        by : AsksPublisher (held_with made publishing opened.store) publishing.base line query (seen link) after text end → IsAsked made publishing file query (seen link) after text end
        by x = record {
          store = opened.store;
          line = line;
          behind = opened.behind;
          asks = x.asks;
          right = λ clear short. x.right clear (record { is_base = refl; valid = opened.valid; short = short });
          text_is = x.text_is;
        }
