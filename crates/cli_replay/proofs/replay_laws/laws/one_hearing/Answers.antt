use Rattle.std.proofs.Common.{refl}
use Rattle.cli_ask.specs.Publishing.{store_of}
use Rattle.cli_replay.proofs.ReplayLawsLemmas.OneHeardLemmas.{one_course_heard}
use Rattle.cli_replay.proofs.replay_laws.laws.one_hearing.Goals as goal

pub returns : goal.returns
returns c made publishing all lines other heard again =
    let start = store_of made publishing.base_moment in
    (one_course_heard c.one_outcome.ensures.one all start heard.store start again.store lines other (record { base = refl; history = refl }) heard.heard again.heard).line
