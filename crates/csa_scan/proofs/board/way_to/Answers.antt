use Rattle.std.proofs.Common.{ℕ, Option, None, Some, sym, ◌∙◌, ap, subst, arith}
use Rattle.std.specs.Option.{MatchOption}
use Rattle.std.proofs.lemmas.Bool.{false≢true}
use Rattle.std.proofs.lemmas.Option.{get_or_from_slice_get, slice_get-get_or}
use Rattle.csa_scan.specs.Boards.{IsNotThere, IsThere}
use Rattle.csa_scan.proofs.board.way_to.Goals as goal

pub returns-in_err-after : goal.returns-in_err-after
returns-in_err-after c =
    let query = c.args.query.now in
    let starts = c.args.starts.now in
    let ready = c.args.ready.now in
    let stop = c.args.stop in
    let not : IsNotThere query starts ready stop c.args.at = record {
      not_from = λ n e l. false≢true (sym c.if-starts_by.false ∙ c.starts_by.ensures.1 (n, get_or_from_slice_get starts stop (Some n) None e, l));
      not_ready = λ r e l. let f = c.in_err-after.ensures r (get_or_from_slice_get ready stop (Some r) None e) in let g = c.seconds.ensures.value in omega arith;
    } in
    let M : Option (Option ℕ) → Type 0 = λ o. MatchOption o (IsNotThere query starts ready stop c.args.at) (IsThere query starts ready stop c.args.at) in
    subst M (sym c.from_residual.ensures) not

pub returns : goal.returns
returns c =
    let ready = c.args.ready.now in
    let r = c.in_ok-after.ensures in
    let seconds = c.seconds.ensures.value in
    let l = r.3 in
    (r.0, slice_get-get_or ready c.args.stop None c.requires.each_ready ∙ ap Some r.1, r.2, omega arith)
