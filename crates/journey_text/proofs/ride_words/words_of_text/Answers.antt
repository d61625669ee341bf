-- The parts that `split` gives are collected.
use Rattle.std.proofs.lemmas.Iterator.Consumers.{map_from_collect}
use Rattle.std.proofs.lemmas.Iterator.Splits.{YieldsList-from_slice_split}
use Rattle.std.proofs.Common.{rules}
use borrow.Author.Tests.{tests}
use Rattle.journey_text.specs.Words.{is_blank}
use Rattle.journey_text.proofs.ride_words.words_of_text.Goals as goal

pub returns : goal.returns
returns c =
    let all = map_from_collect c.collect.result c.collect.ensures.ran (YieldsList-from_slice_split _ is_blank c.args.text.now c.split.ensures.rest c.split.ensures.done c.split.ensures.closure (λ x r q k. search (rules, tests))) in
    rw c.in_ok-collect.was at all
