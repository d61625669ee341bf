use Rattle.std.proofs.Common.{arith}
use Rattle.page_client.proofs.BodyLemmas.{body_within}
use Rattle.page_client.proofs.replied.body_of.Goals as goal

pub slice_bounds-result-end : goal.slice_bounds-result-end
slice_bounds-result-end c =
    let within = body_within c.args.bytes.now c.args.reply.now c.requires in
    let forward = within.forward in
    let inside = within.inside in
    omega arith
