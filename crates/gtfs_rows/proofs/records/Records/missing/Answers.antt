use Rattle.std.proofs.Common.{◌∙◌}
use Rattle.gtfs_rows.specs.Store.{sheet_of}
use Rattle.gtfs_rows.proofs.TableLemmas.{missing-found, missing-passed}
use Rattle.gtfs_rows.proofs.records.Records.missing.Goals as goal

pub returns-then-is_none : goal.returns-then-is_none
returns-then-is_none c =
    missing-found (sheet_of c.args.self.now) c.args.columns.now c.columns.name-index _ c.columns-test.true (rw c.column.ensures at c.if-is_none.ensures) c.columns.invariant

pub columns-preserved : goal.columns-preserved
columns-preserved c =
    missing-passed (sheet_of c.args.self.now) c.args.columns.now c.columns.name-index _ c.columns-test.true (rw c.column.ensures at c.if-is_none.ensures) ∙ c.columns.invariant
