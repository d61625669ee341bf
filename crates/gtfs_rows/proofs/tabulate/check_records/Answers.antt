use Rattle.std.proofs.Common.{ap, inr, length, Some, sym, ◌≡◌, ◌∙◌}
use Rattle.gtfs_rows.specs.Sheet.{missing_column, names_of}
use Rattle.gtfs_rows.specs.Store.{sheet_of}
use Rattle.gtfs_rows.proofs.FaultLemmas.{no_column_here, none_read, ragged_here, table_here}
use Rattle.gtfs_rows.proofs.tabulate.check_records.Goals as goal

pub returns-then-len-eq0-clause-fault : goal.returns-then-len-eq0-clause-fault
returns-then-len-eq0-clause-fault c =
    inr (λ bytes utf8 are. (utf8, none_read bytes c.args.records.now are (sym c.len.ensures ∙ c.if-len-eq0.true)))

pub returns-in-Some-clause-fault : goal.returns-in-Some-clause-fault
returns-in-Some-clause-fault c =
    let some : length c.args.records.now ≡ 0 → ⊥ = λ e. c.if-len-eq0.false (c.len.ensures ∙ e) in
    let name : Some c.from_string-name.result ≡ missing_column (sheet_of c.args.records.now) (names_of c.args.columns.now) = ap Some (c.from_string-name.ensures ∙ c.in_ok-from_str.ensures.ok) ∙ c.in-Some.ensures in
    inr (λ bytes utf8 are. no_column_here bytes (names_of c.args.columns.now) c.args.records.now c.from_string-name.result utf8 are some name)

pub returns-in-Some-ragged-clause-fault : goal.returns-in-Some-ragged-clause-fault
returns-in-Some-ragged-clause-fault c =
    let some : length c.args.records.now ≡ 0 → ⊥ = λ e. c.if-len-eq0.false (c.len.ensures ∙ e) in
    inr (λ bytes utf8 are. ragged_here bytes (names_of c.args.columns.now) c.args.records.now c.in-Some-ragged.row utf8 are some c.in_default.ensures c.in-Some-ragged.ensures.row)

pub returns-clause-table : goal.returns-clause-table
returns-clause-table c =
    let some : length c.args.records.now ≡ 0 → ⊥ = λ e. c.if-len-eq0.false (c.len.ensures ∙ e) in
    λ bytes utf8 are. table_here bytes (names_of c.args.columns.now) c.args.records.now utf8 are some c.in_default.ensures c.in_default-ragged.ensures.row

pub returns-clause-even : goal.returns-clause-even
returns-clause-even c = c.in_default-ragged.ensures.even
