use Rattle.std.proofs.Common.{ap}
use Rattle.jiff_core.specs.declared.civil.datetime.DateTime.{DateTime}
use Rattle.lc_time.proofs.AnchorLemmas.{anchor_is, no_anchor}
use Rattle.lc_time.proofs.zone_clock.anchor.Goals as goal

pub returns-in-Ok : goal.returns-in-Ok
returns-in-Ok c =
    anchor_is c.args.zone.now c.args.date c.noon_of-noon.result c.offset_shown.result.seconds _ _ c.noon_of-noon.ensures c.offset_shown.ensures c.in-Ok.ensures.value c.moment_before.ensures

pub returns-in-Err : goal.returns-in-Err
returns-in-Err c =
    no_anchor c.args.zone.now c.args.date c.noon_of-noon.result c.offset_shown.result.seconds c.noon_of-noon.ensures (ap (λ (v : DateTime). v.time.subsec_nanosecond) c.noon_of-noon.ensures) c.offset_shown.ensures (λ h. let k = c.in-Err.ensures.succeeds.1 h in cc)
