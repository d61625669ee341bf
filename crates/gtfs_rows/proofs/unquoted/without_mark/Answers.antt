use Rattle.std.proofs.Common.{◌≤◌, ◌∙◌, arith, false, length, sym, true}
use Rattle.std.proofs.lemmas.List.{take_rest}
use Rattle.csv.proofs.ReadFacts.{strip-short}
use Rattle.gtfs_rows.proofs.UnquotedLemmas.{strip_long}
use Rattle.gtfs_rows.proofs.unquoted.without_mark.Goals as goal

pub returns-then-bytes-lt3 : goal.returns-then-bytes-lt3
returns-then-bytes-lt3 c = sym (strip-short c.args.bytes.now c.if-bytes-lt3.true)

pub returns-then-is_mark : goal.returns-then-is_mark
returns-then-is_mark c =
    let long : 3 ≤ length c.args.bytes.now = omega arith in
    take_rest c.args.bytes.now 3 ∙ sym (strip_long c.args.bytes.now true long (sym c.is_mark.ensures ∙ c.if-is_mark.true))

pub returns : goal.returns
returns c =
    let long : 3 ≤ length c.args.bytes.now = omega arith in
    sym (strip_long c.args.bytes.now false long (sym c.is_mark.ensures ∙ c.if-is_mark.false))
