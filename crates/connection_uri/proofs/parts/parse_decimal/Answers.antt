use Rattle.std.proofs.Common.{subst, sym, arith, decimal}
use Rattle.std.specs.Str.{IsUtf8}
use Rattle.std.proofs.lemmas.Str.{IsUtf8-from_ascii}
use Rattle.std.proofs.lemmas.Fmt.{IsAscii-decimal}
use Rattle.connection_uri.proofs.parts.parse_decimal.Goals as goal

pub returns-in-Err : goal.returns-in-Err
returns-in-Err c = λ n small text. absurd (c.in-Err.ensures.cases.0 (subst IsUtf8 (sym text) (IsUtf8-from_ascii (decimal n) (IsAscii-decimal n (omega arith)))))
