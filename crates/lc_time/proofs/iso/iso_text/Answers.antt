use Rattle.std.proofs.Common.{◌<◌, arith}
use Rattle.lc_time.proofs.AsciiLemmas.{iso_ascii}
use Rattle.lc_time.proofs.IsoLemmas.{says_text}
use Rattle.lc_time.proofs.iso.iso_text.Goals as goal

pub returns-clause-says : goal.returns-clause-says
returns-clause-says c =
    let bound : c.args.moment < 253_402_128_000 = omega (arith, c.seconds-seconds.ensures.in_range) in
    rw (c.copy_from_slice-2.ensures.after, c.copy_from_slice.ensures.after, c.clock_text.ensures, c.day_text.ensures, c.seconds-seconds.ensures.value)
    (says_text c.args.moment bound)

pub returns-clause-ascii : goal.returns-clause-ascii
returns-clause-ascii c =
    let bound : c.seconds-seconds.result < 253_402_128_000 = omega (arith, c.seconds-seconds.ensures.in_range) in
    rw (c.copy_from_slice-2.ensures.after, c.copy_from_slice.ensures.after, c.clock_text.ensures, c.day_text.ensures)
    (iso_ascii c.seconds-seconds.result bound)
