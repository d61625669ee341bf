-- Links to a publisher of a timetable, at home.
use Rattle.std.specs.Prelude.{ℕ, Some, length}
use Rattle.connection_uri.specs.Base.{BaseParts}
use Rattle.fragmenter.specs.Cutting.{chosen_cuts}
use Rattle.fragmenter.specs.declared.cutting.Cutting.{Cutting}
use Rattle.lc_links.specs.HomeLink.{HomeLinkState}
use Rattle.lc_world.specs.Link.{LinkSeen}
use Rattle.publisher.specs.Held.{side_of}

-- How a link at home is seen, by how the outer one is seen. It records the side of its publisher, which stays at a GET. It is
-- honest where the outer one is clear.
abbrev pub home_seen : {L : Type 0} → (L → LinkSeen) → HomeLinkState Cutting L → LinkSeen
home_seen {L} seen home = record {
  side = Some (side_of chosen_cuts home.local.publisher);
  recorded = (seen home.outer).recorded;
  honest = λ (base : BaseParts). (seen home.outer).clear;
  quiet = λ (base : BaseParts). (seen home.outer).clear;
  clear = (seen home.outer).clear;
  still = Unit {0};
  faults = (seen home.outer).faults;
}

-- how many messages the publisher at home has admitted
abbrev pub admitted_at : {L : Type 0} → HomeLinkState Cutting L → ℕ
admitted_at home = length home.local.publisher.store.history
