use Rattle.std.proofs.Common.{refl}
use Rattle.cli_replay.proofs.plan_laws.near.worked_plans.Goals as goal

pub returns : goal.returns
returns c = λ a b d known. record { own = refl; other = refl; version = refl; none = refl }
