-- Each return has one reason: the rule that the bytes break there, or the table that they are.
use Rattle.std.proofs.Common.{Err, ap, inl, inr, rules, sym, ◌∙◌}
use Rattle.std.specs.Str.{IsUtf8}
use Rattle.gtfs_rows.specs.Sheet.{IsTable, names_of}
use Rattle.gtfs_rows.specs.Store.{sheet_of}
use Rattle.gtfs_rows.specs.declared.fault.RowFault.{RowFault}
use Rattle.gtfs_rows.proofs.FaultLemmas.{only_fault, table_breaks_none}
use Rattle.gtfs_rows.proofs.SheetLemmas.{sheets_are_one}
use Rattle.gtfs_rows.proofs.Utf8Lemmas.{texts_of}
use Rattle.gtfs_rows.proofs.tabulate.table.Goals as goal

pub returns-in-Err-clause-fault : goal.returns-in-Err-clause-fault
returns-in-Err-clause-fault c =
    let utf8 : IsUtf8 c.args.bytes.now = search rules in
    elim c.in-Err.ensures.fault [
      | inl memory ↦ inl memory
      | inr breaks ↦ inr (breaks c.args.bytes.now utf8 c.in_ok-records.ensures)
    ]

pub returns-in-Err-clause-table : goal.returns-in-Err-clause-table
returns-in-Err-clause-table c = λ sheet table.
    let utf8 : IsUtf8 c.args.bytes.now = search rules in
    elim c.in-Err.ensures.fault [
      | inl memory ↦ memory
      | inr breaks ↦ absurd (table_breaks_none c.args.bytes.now (names_of c.args.columns.now) sheet c.in-Err.fault table (breaks c.args.bytes.now utf8 c.in_ok-records.ensures))
    ]

pub returns-in-Err-clause-only : goal.returns-in-Err-clause-only
returns-in-Err-clause-only c = λ fault broken.
    let utf8 : IsUtf8 c.args.bytes.now = search rules in
    elim c.in-Err.ensures.fault [
      | inl memory ↦ inr (ap (λ (f : RowFault). Err f) memory)
      | inr breaks ↦ only_fault c.args.bytes.now (names_of c.args.columns.now) c.in-Err.fault fault (breaks c.args.bytes.now utf8 c.in_ok-records.ensures) broken
    ]

pub returns-in-Ok-clause-ok : goal.returns-in-Ok-clause-ok
returns-in-Ok-clause-ok c =
    let utf8 : IsUtf8 c.args.bytes.now = search rules in
    let here : IsTable c.args.bytes.now (names_of c.args.columns.now) (sheet_of c.in_ok-records.records) = c.in-Ok.ensures.table c.args.bytes.now utf8 c.in_ok-records.ensures in
    rw c.from_records.ensures here

pub returns-in-Ok-clause-only : goal.returns-in-Ok-clause-only
returns-in-Ok-clause-only c = λ fault broken.
    let utf8 : IsUtf8 c.args.bytes.now = search rules in
    let here : IsTable c.args.bytes.now (names_of c.args.columns.now) (sheet_of c.in_ok-records.records) = c.in-Ok.ensures.table c.args.bytes.now utf8 c.in_ok-records.ensures in
    absurd (table_breaks_none c.args.bytes.now (names_of c.args.columns.now) (sheet_of c.in_ok-records.records) fault here broken)

pub returns-in-Ok-clause-same : goal.returns-in-Ok-clause-same
returns-in-Ok-clause-same c = λ sheet is.
    let utf8 : IsUtf8 c.args.bytes.now = search rules in
    let here : IsTable c.args.bytes.now (names_of c.args.columns.now) (sheet_of c.in_ok-records.records) = c.in-Ok.ensures.table c.args.bytes.now utf8 c.in_ok-records.ensures in
    sheets_are_one c.args.bytes.now sheet (sheet_of c.in_ok-records.records) is here.read ∙ sym c.from_records.ensures

pub from_records-requires : goal.from_records-requires
from_records-requires c =
    let utf8 : IsUtf8 c.args.bytes.now = search rules in
    record {
      even = c.in-Ok.ensures.even;
      texts = texts_of c.args.bytes.now c.in_ok-records.records utf8 c.in_ok-records.ensures;
    }
