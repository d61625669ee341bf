use Rattle.std.proofs.Common.{ℕ, Option, None, Some, sym, ◌∙◌, ap, subst, arith}
use Rattle.std.specs.Option.{MatchOption}
use Rattle.std.proofs.lemmas.Bool.{false≢true}
use Rattle.std.proofs.lemmas.Option.{get_or_from_slice_get, slice_get-get_or}
use Rattle.back_scan.specs.Alights.{IsOnWay, IsStuck}
use Rattle.back_scan.proofs.alight.way_on.Goals as goal

pub returns-then-ends_by : goal.returns-then-ends_by
returns-then-ends_by c =
    let ends = c.args.ends.now in
    let r = c.ends_by.ensures.0 c.if-ends_by.true in
    let same = c.requires.each_end in
    let within = c.requires.within in
    (r.0, slice_get-get_or ends c.args.stop None (omega arith) ∙ ap Some r.1, r.2)

pub returns-in_err-next : goal.returns-in_err-next
returns-in_err-next c =
    let query = c.args.query.now in
    let doc = c.args.doc.now in
    let ends = c.args.ends.now in
    let departures = c.args.departures.now in
    let stop = c.args.stop in
    let not : IsStuck query doc ends departures stop c.args.arr = record {
      no_end = λ n e l. false≢true (sym c.if-ends_by.false ∙ c.ends_by.ensures.1 (n, get_or_from_slice_get ends stop (Some n) None e, l));
      no_change = c.in_err-next.ensures;
    } in
    let M : Option (Option ℕ) → Type 0 = λ o. MatchOption o (IsStuck query doc ends departures stop c.args.arr) (IsOnWay query doc ends departures stop c.args.arr) in
    subst M (sym c.from_residual.ensures) not
