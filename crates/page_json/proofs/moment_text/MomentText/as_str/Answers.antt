-- The text is ASCII.
use Rattle.std.proofs.Common.{IsAscii, arith, subst, sym, ◌<◌}
use Rattle.page_json.proofs.MomentTextLemmas.{end_ascii}
use Rattle.page_json.proofs.moment_text.MomentText.as_str.Goals as goal

pub ascii_str-requires : goal.ascii_str-requires
ascii_str-requires c =
    let it = c.args.self.now in
    let bound : it.moment < 253_402_128_000 = omega (arith, c.seconds-range.ensures.in_range) in
    subst IsAscii (sym it.says) (end_ascii it.end it.moment bound)
