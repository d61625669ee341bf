use Rattle.lc_links.proofs.TakingLemmas.{all_is_whole, whole_is_all}
use Rattle.lc_links.proofs.taking.is_whole.Goals as goal

pub returns : goal.returns
returns c =
    let taken = c.in_ok-take_request.field-0 in
    let bytes = c.args.bytes.now in
    (λ all. all_is_whole bytes taken c.in_ok-take_request.ensures.whole (c.is_all.ensures.0 all), λ whole. c.is_all.ensures.1 (whole_is_all bytes taken c.in_ok-take_request.ensures.every_whole whole))
