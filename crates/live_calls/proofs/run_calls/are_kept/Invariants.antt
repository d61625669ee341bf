use Rattle.std.proofs.Common.{◌≡◌, [], drop, pos, None}
use Rattle.lc_model.specs.Versions.Live.{live_calls_of, raised, stated_calls}
use Rattle.live_calls.proofs.run_calls.are_kept.Given as goal

-- where the calls that are left are the live ones, all are
abbrev pub invariant-calls : goal.invariant-calls
invariant-calls l = raised l.before (stated_calls [] l.call-index (pos 0) (drop l.call-index l.calls)) ≡ drop l.call-index l.calls → live_calls_of l.calls None ≡ l.calls
