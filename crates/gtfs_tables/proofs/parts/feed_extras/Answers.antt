use Rattle.std.proofs.lemmas.Result.{err_from_is_err_and}
use Rattle.gtfs_tables.proofs.FeedWalkLemmas.{of_frequencies, of_transfers}
use Rattle.gtfs_tables.proofs.WalkLemmas.{next, part_stop}
use Rattle.gtfs_tables.proofs.parts.feed_extras.Goals as goal

pub returns-in_err-frequencies : goal.returns-in_err-frequencies
returns-in_err-frequencies g c = λ start timed weekly dates far.
    let p = err_from_is_err_and c.from_residual.result c.from_residual.ensures.1 in
    part_stop (of_frequencies _ _ timed weekly dates) far c.in_err-frequencies.was c.feed_frequencies.ensures (let one = p.1 in let two = p.2 in cc)

pub returns-in_err-transfers : goal.returns-in_err-transfers
returns-in_err-transfers g c = λ start timed weekly dates far.
    let after = next (of_frequencies _ _ timed weekly dates) far c.in_ok-frequencies.was c.feed_frequencies.ensures in
    let p = err_from_is_err_and c.from_residual-in_err-transfers.result c.from_residual-in_err-transfers.ensures.1 in
    part_stop (of_transfers _ _ timed weekly dates _) after c.in_err-transfers.was c.feed_transfers.ensures (let one = p.1 in let two = p.2 in cc)

pub returns : goal.returns
returns g c = λ start timed weekly dates far.
    let after = next (of_frequencies _ _ timed weekly dates) far c.in_ok-frequencies.was c.feed_frequencies.ensures in
    record { ends = next (of_transfers _ _ timed weekly dates _) after c.in_ok-transfers.was c.feed_transfers.ensures }
