use Rattle.std.proofs.Common.{◌≡◌, ◌<◌, [], arith, get_or, length, sym, true}
use Rattle.std.specs.Str.{bytes_eq}
use Rattle.gtfs_rows.proofs.PlaceLemmas.{position-found, position-none}
use Rattle.gtfs_rows.proofs.records.Records.column.Goals as goal

pub returns-then-eq : goal.returns-then-eq
returns-then-eq c =
    let inside : c.columns.column < length (get_or c.args.self.now 0 []) = omega arith in
    let here : bytes_eq (get_or (get_or c.args.self.now 0 []) c.columns.column []) c.args.name.now ≡ true =
    rw (← c.field.ensures, ← c.as_bytes.ensures.value) (sym c.if-eq.ensures) in
    sym (position-found (λ column. bytes_eq column c.args.name.now) (get_or c.args.self.now 0 []) c.columns.column [] inside c.columns.invariant here)

pub returns : goal.returns
returns c =
    sym (position-none (λ column. bytes_eq column c.args.name.now) (get_or c.args.self.now 0 []) [] (λ k h. c.columns.invariant k (omega arith)))
