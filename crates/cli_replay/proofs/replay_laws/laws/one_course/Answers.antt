use Rattle.cli_replay.proofs.ReplayLawsLemmas.OneCourseLemmas.{one_course}
use Rattle.cli_replay.proofs.replay_laws.laws.one_course.Goals as goal

pub returns : goal.returns
returns c = one_course c.one_answer.ensures.arrival c.one_answer.ensures.needed c.one_outcome.ensures.one
