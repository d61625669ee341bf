use Rattle.std.proofs.Common.{arith}
use Rattle.rt_protobuf.proofs.WritingLemmas.{text_field}
use Rattle.rt_protobuf.proofs.writing.put_bytes.Goals as goal

pub returns-in-Ok-clause-field : goal.returns-in-Ok-clause-field
returns-in-Ok-clause-field c = text_field c.args.number c.args.bytes.now c.requires.some c.requires.most (omega arith)

pub returns-in-Err-clause-field : goal.returns-in-Err-clause-field
returns-in-Err-clause-field c = text_field c.args.number c.args.bytes.now c.requires.some c.requires.most (omega arith)
