use Rattle.std.proofs.Common.{ap}
use Rattle.std.specs.Option.{option_copied}
use Rattle.service_days.specs.ZoneWord.{file_named, rule_named}
use Rattle.service_days.proofs.WordLemmas.{is_named, right_file}
use Rattle.service_days.proofs.zone_word.read_zone.Goals as goal

pub returns-in_ok-read_table-in-Some-file-clause-only :
    goal.returns-in_ok-read_table-in-Some-file-clause-only
returns-in_ok-read_table-in-Some-file-clause-only c = λ wrong.
    let named = is_named c.zone_file.result (file_named c.args.word.now) c.is_none.result c.zone_file.ensures c.is_none.ensures c.if-is_none.false in
    absurd (right_file (rule_named c.args.word.now) (file_named c.args.word.now) (option_copied c.args.file) c.in-Some-file.bytes.now _ c.in_default.ensures named (ap option_copied c.in-Some-file.is) (λ bad. let h = c.in_ok-read_table-in-Some-file.ensures.only bad in cc) wrong)
