use Rattle.cli_words.proofs.question.read_arrival.Goals as goal

pub returns-in_default : goal.returns-in_default
returns-in_default c = λ a words found query says. c.in_default.ensures.said a words found query.arrive query.known query.horizon says.times

pub returns-in-Some-2 : goal.returns-in-Some-2
returns-in-Some-2 c = λ a words found.
    let ends = rw c.in-Some-2.is at (c.in_ok-from.ensures a words found) in
    record { from_is = ends.0; to_is = ends.1; times = c.in-Some.ensures.said a words found }

pub returns-in-None : goal.returns-in-None
returns-in-None c = λ a words found query says.
    let none = rw c.in-None.is at (c.in_ok-from.ensures a words found) in
    none query.from query.to says.from_is says.to_is
