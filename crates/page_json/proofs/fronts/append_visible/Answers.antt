-- One more byte is appended.
use Rattle.std.proofs.Common.{arith}
use Rattle.page_json.proofs.BaseLemmas.{all_escaped, one_more_escaped}
use Rattle.page_json.proofs.fronts.append_visible.Goals as goal

pub append_byte-requires : goal.append_byte-requires
append_byte-requires c = c.requires c.loop-byte.byte-index 0 (omega arith)

pub loop-byte-preserved : goal.loop-byte-preserved
loop-byte-preserved c =
    one_more_escaped _ _ _ c.args.bytes.now c.loop-byte.byte-index (omega arith) c.loop-byte.invariant c.in_ok-append_byte.ensures

pub returns : goal.returns
returns c = all_escaped _ _ c.args.bytes.now c.loop-byte.byte-index (omega arith) c.loop-byte.invariant
