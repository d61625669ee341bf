use Rattle.live_calls.proofs.OnTimeLemmas.{live_without, runs_are_live}
use Rattle.live_calls.proofs.laws.live_without_news.Goals as goal

pub returns-clause-live : goal.returns-clause-live
returns-clause-live c = live_without

pub returns-clause-runs : goal.returns-clause-runs
returns-clause-runs c = runs_are_live
