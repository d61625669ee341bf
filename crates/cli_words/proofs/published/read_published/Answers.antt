use Rattle.std.proofs.Common.{ℕ, List, Option, subst, sym}
use Rattle.cli_words.specs.Update.{SaysUpdate}
use Rattle.cli_words.proofs.published.read_published.Goals as goal

pub returns-in_default-clause-said : goal.returns-in_default-clause-said
returns-in_default-clause-said c = λ a words found published says. c.in_default.ensures a words found published.update says.update

pub returns-in-None-clause-said : goal.returns-in-None-clause-said
returns-in-None-clause-said c = λ a words found published says.
    let none = rw c.in-None.is at (c.in_ok-publishing.ensures a words found) in
    none published.publishing says.publishing

pub returns-in_ok-copy_of-in-Some-2-clause-said : goal.returns-in_ok-copy_of-in-Some-2-clause-said
returns-in_ok-copy_of-in-Some-2-clause-said c = λ a words found.
    record {
      publishing = rw c.in-Some-2.is at (c.in_ok-publishing.ensures a words found);
      update = subst (λ (update : Option (List ℕ)). SaysUpdate a words update) (sym c.in_ok-copy_of-in-Some-2.ensures) (c.in-Some.ensures a words found);
    }
