use Rattle.cli_words.specs.Line.{arrive_line, texts_of}
use Rattle.cli_words.proofs.WordsLemmas.{arrive_is_simple}
use Rattle.cli_words.proofs.arrive.read_arrive.Goals as goal

pub read_line-requires : goal.read_line-requires
read_line-requires c = arrive_is_simple

pub returns-in-Some : goal.returns-in-Some
unfolding arrive_line
returns-in-Some c =
    let found = rw c.in-Some.is at c.in_ok-found.ensures in
    c.found_arrive.ensures (texts_of c.args.words.now) found.0 found.1

pub returns-in-None : goal.returns-in-None
unfolding arrive_line
returns-in-None c = λ arrive says.
    let none = rw c.in-None.is at c.in_ok-found.ensures in
    none says.is_line
