use Rattle.std.proofs.Common.{◌≡◌, map, take}
use Rattle.http_text.specs.Named.{texts_at}
use Rattle.http_text.specs.Request.{field_said}
use Rattle.http_text.proofs.reading.fields_of.Given as goal

abbrev pub invariant-loop-field : goal.invariant-loop-field
invariant-loop-field l = l.list.items ≡ map field_said (texts_at l.bytes (take l.field-index l.fields))
