use Rattle.std.proofs.Common.{eqb}
use Rattle.std.proofs.lemmas.List.Filters.{dedup_is}
use Rattle.trip_calls.proofs.StartLemmas.{left_once, left_same}
use Rattle.trip_calls.proofs.starts.leave_once.Goals as goal

pub returns : goal.returns
returns c =
    let is = dedup_is eqb c.sort_unstable.new.self.items c.dedup.new.self.items c.dedup.ensures.filtered in
    record {
      same = left_same c.args.starts.now.items c.sort_unstable.new.self.items c.dedup.new.self.items c.sort_unstable.ensures.permutation is;
      once = left_once c.sort_unstable.new.self.items c.dedup.new.self.items c.sort_unstable.ensures.sorted is;
    }
