use Rattle.rt_protobuf.proofs.WritingLemmas.{field_is, fields_are_written, shortest}
use Rattle.rt_protobuf.proofs.writing.written_fields.Goals as goal

pub returns-clause-field : goal.returns-clause-field
returns-clause-field c = field_is

pub returns-clause-fields : goal.returns-clause-fields
returns-clause-fields c = fields_are_written

pub returns-clause-shortest : goal.returns-clause-shortest
returns-clause-shortest c = shortest
