use Rattle.std.proofs.Common.{arith}
use Rattle.rt_protobuf.proofs.WritingLemmas.{varint_field}
use Rattle.rt_protobuf.proofs.writing.put_varint.Goals as goal

pub returns-in-Ok-clause-field : goal.returns-in-Ok-clause-field
returns-in-Ok-clause-field c = varint_field c.args.number c.args.value c.requires.some c.requires.most (omega arith)

pub returns-in-Err-clause-field : goal.returns-in-Err-clause-field
returns-in-Err-clause-field c = varint_field c.args.number c.args.value c.requires.some c.requires.most (omega arith)
