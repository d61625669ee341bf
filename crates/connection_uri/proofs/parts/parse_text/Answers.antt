use Rattle.std.proofs.Common.{◌≡◌, Ok, arith}
use Rattle.std.proofs.lemmas.Fmt.{parse-decimal}
use Rattle.connection_uri.proofs.parts.parse_text.Goals as goal

pub returns-in-Ok : goal.returns-in-Ok
returns-in-Ok c = λ n small text.
    let read : c.parse.result ≡ Ok n = parse-decimal 32 n c.args.text.now c.parse.result small (omega arith) text c.parse.ensures.value.0 in
    cc

pub returns-in-Err : goal.returns-in-Err
returns-in-Err c = λ n small text.
    let read : c.parse.result ≡ Ok n = parse-decimal 32 n c.args.text.now c.parse.result small (omega arith) text c.parse.ensures.value.0 in
    cc
