use Rattle.std.proofs.Common.{◌≡◌, take}
use Rattle.http_text.specs.Fields.{closes}
use Rattle.http_text.specs.Named.{texts_at}
use Rattle.http_text.proofs.connection.closes.Given as goal

abbrev pub invariant-loop-field : goal.invariant-loop-field
invariant-loop-field l = l.close ≡ closes l.minor (texts_at l.bytes (take l.field-index l.fields))
