use Rattle.std.proofs.Common.{◌≢◌, ◌≤◌, ◌<◌, ◌∙◌, [], arith, get_or, length, sym}
use Rattle.gtfs_rows.proofs.TableLemmas.{IsEvenBelow, ragged-found, ragged-none}
use Rattle.gtfs_rows.proofs.records.Records.ragged.Goals as goal

pub returns-then-width-clause-row : goal.returns-then-width-clause-row
returns-then-width-clause-row c =
    let even : IsEvenBelow c.args.self.now c.rows.row = λ k h. c.rows.invariant k h ∙ c.width-width.ensures in
    let inside : c.rows.row < length c.args.self.now = omega arith in
    let wide : length (get_or c.args.self.now c.rows.row []) ≢ length (get_or c.args.self.now 0 []) = λ e. c.if-width.true (c.width.ensures ∙ e ∙ sym c.width-width.ensures) in
    ragged-found c.args.self.now c.rows.row c.rows.auto.row inside even wide

pub returns-clause-row : goal.returns-clause-row
returns-clause-row c =
    let even : IsEvenBelow c.args.self.now c.rows.row = λ k h. c.rows.invariant k h ∙ c.width-width.ensures in
    let past : length c.args.self.now ≤ c.rows.row = omega arith in
    ragged-none c.args.self.now c.rows.row past even
