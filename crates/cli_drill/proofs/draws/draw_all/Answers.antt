use Rattle.std.proofs.Common.{arith, refl}
use Rattle.cli_drill.proofs.DrawsLemmas.{all_bits, none_drawn, one_drawn}
use Rattle.cli_drill.proofs.draws.draw_all.Goals as goal

pub draws-init : goal.draws-init
draws-init c = none_drawn c.args.seed c.from-state.result c.in_ok-bits.bits.items c.from-state.ensures c.in_ok-bits.ensures.items

pub draws-preserved : goal.draws-preserved
draws-preserved c =
    one_drawn c.args.seed c.draws.state c.next_state-state.result _ c.draws.bits.items c.push.new.self.items c.draws.invariant (omega arith) c.next_state-state.ensures refl c.in_ok-push.ensures.items

pub returns : goal.returns
returns c = all_bits c.args.seed c.draws.state c.draws.bits.items c.draws.invariant (omega arith)
