use Rattle.lc_cli.proofs.question.ask_publisher.Goals as goal

pub returns-in-Earliest-clause-asked : goal.returns-in-Earliest-clause-asked
returns-in-Earliest-clause-asked g c = rw c.in-Earliest.is c.ask.ensures.asked

pub returns-in-Fewest-clause-asked : goal.returns-in-Fewest-clause-asked
returns-in-Fewest-clause-asked g c = rw c.in-Fewest.is c.ask_fewest.ensures.asked

pub returns-in-Latest-clause-asked : goal.returns-in-Latest-clause-asked
returns-in-Latest-clause-asked g c = rw c.in-Latest.is c.ask_arrive.ensures.asked

pub ask-requires-clause-some_pages : goal.ask-requires-clause-some_pages
ask-requires-clause-some_pages g c = (rw c.in-Earliest.is at c.requires).0

pub ask-requires-clause-most_pages : goal.ask-requires-clause-most_pages
ask-requires-clause-most_pages g c = (rw c.in-Earliest.is at c.requires).1
