use Rattle.std.proofs.Common.{◌≡◌, ◌++◌, ◌+◌, drop}
use Rattle.lc_model.specs.Versions.Added.{added_calls, added_from}
use Rattle.lc_model.specs.Versions.Live.{raised}
use Rattle.live_calls.proofs.added_calls.added_calls.Given as goal

abbrev pub invariant-news : goal.invariant-news
invariant-news l = l.calls.items ++ raised l.before (added_from l.stops (l.place + 1) (drop l.place l.news)) ≡ added_calls l.stops l.news
