use Rattle.std.proofs.lemmas.List.Sorted.{IsPermutation-trans}
use Rattle.gtfs_tables.proofs.TripsLemmas.SoundLemmas.{sorted_if_apart}
use Rattle.gtfs_tables.proofs.trips.sound_visits.sorted_apart.Goals as goal

pub returns : goal.returns
returns c =
    let moved = IsPermutation-trans c.args.visits.items c.in_ok-moved.moved.items c.in_ok-sorted.sorted.items c.in_ok-moved.ensures c.in_ok-sorted.ensures.moved in
    sorted_if_apart c.if_apart.result (λ v. v.items) c.args.visits.items c.in_ok-sorted.sorted.items c.if_apart.ensures.same c.if_apart.ensures.apart
    moved c.in_ok-sorted.ensures.sorted
