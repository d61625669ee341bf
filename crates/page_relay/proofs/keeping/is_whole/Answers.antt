use Rattle.page_relay.proofs.KeepableLemmas.{all_is_whole, whole_is_all}
use Rattle.page_relay.proofs.keeping.is_whole.Goals as goal

pub returns : goal.returns
returns c =
    let taken = c.take_request-taken.result in
    let bytes = c.args.bytes.now in (
      λ all. all_is_whole bytes taken c.take_request-taken.ensures.whole (c.is_all.ensures.0 all),
      λ whole. c.is_all.ensures.1 (whole_is_all bytes taken c.take_request-taken.ensures.every_whole whole),
    )
