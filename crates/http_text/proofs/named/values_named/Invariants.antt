use Rattle.std.proofs.Common.{take}
use Rattle.http_text.specs.Fields.{values_of}
use Rattle.http_text.specs.Named.{texts_at, AreValues}
use Rattle.http_text.proofs.named.values_named.Given as goal

abbrev pub invariant-loop-field : goal.invariant-loop-field
invariant-loop-field l = AreValues l.found (values_of l.name (texts_at l.bytes (take l.field-index l.fields)))
