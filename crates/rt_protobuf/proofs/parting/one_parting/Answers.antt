use Rattle.rt_protobuf.proofs.OneWayLemmas.{parts_are, only_parts, fields_are, are_fields}
use Rattle.rt_protobuf.proofs.parting.one_parting.Goals as goal

pub returns-clause-parts : goal.returns-clause-parts
returns-clause-parts c = parts_are

pub returns-clause-only : goal.returns-clause-only
returns-clause-only c = only_parts

pub returns-clause-fields : goal.returns-clause-fields
returns-clause-fields c = fields_are

pub returns-clause-only_fields : goal.returns-clause-only_fields
returns-clause-only_fields c = are_fields
