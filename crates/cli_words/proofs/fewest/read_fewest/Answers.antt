use Rattle.cli_words.specs.Line.{fewest_line, texts_of}
use Rattle.cli_words.proofs.WordsLemmas.{fewest_is_simple}
use Rattle.cli_words.proofs.fewest.read_fewest.Goals as goal

pub read_line-requires : goal.read_line-requires
read_line-requires c = fewest_is_simple

pub returns-in-Some : goal.returns-in-Some
unfolding fewest_line
returns-in-Some c =
    let found = rw c.in-Some.is at c.in_ok-found.ensures in
    c.found_fewest.ensures (texts_of c.args.words.now) found.0 found.1

pub returns-in-None : goal.returns-in-None
unfolding fewest_line
returns-in-None c = λ fewest says.
    let none = rw c.in-None.is at c.in_ok-found.ensures in
    none says.is_line
