use Rattle.rt_protobuf.proofs.VarintsLemmas.{spent}
use Rattle.rt_protobuf.proofs.reading.+varint.Goals as goal

pub returns-then-left-eq0 : goal.returns-then-left-eq0
returns-then-left-eq0 t c = spent c.args.place c.args.left c.args.bytes.now c.if-left-eq0.true
