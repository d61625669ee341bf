use Rattle.std.proofs.Common.{codes}
use Rattle.timetable.proofs.ZoneLemmas.{stripped}
use Rattle.timetable.proofs.zone.named_file.Goals as goal

pub returns : goal.returns
returns c = stripped (codes "file:") c.args.word.now c.strip_prefix.result c.strip_prefix.ensures.cases
