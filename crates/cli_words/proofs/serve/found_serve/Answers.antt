use Rattle.std.proofs.Common.{◌∙◌, ℕ, subst, sym}
use Rattle.cli_words.specs.FeedWindow.{SaysFeedWindow}
use Rattle.cli_words.specs.Line.{serve_line}
use Rattle.cli_words.specs.Published.{SaysPublished}
use Rattle.cli_words.specs.Serve.{address_at}
use Rattle.cli_words.specs.declared.command.FeedWindow.{FeedWindow}
use Rattle.cli_words.proofs.WordsLemmas.{same_number}
use Rattle.cli_words.proofs.serve.found_serve.Goals as goal

pub returns-in_default : goal.returns-in_default
returns-in_default c = λ words line found serve says. c.in_default.ensures words found _ _ _ says.door

pub returns-in_default-2 : goal.returns-in_default-2
returns-in_default-2 c = λ words line found serve says.
    let none = rw c.in_default-2.is at (c.in_ok-window.ensures serve_line words found) in
    none serve.published.window says.window

pub returns-in-Some-3 : goal.returns-in-Some-3
returns-in-Some-3 c = λ words line found.
    let window = rw c.in-Some-2.is at (c.in_ok-window.ensures serve_line words found) in
    record {
      is_line = line;
      window = subst (λ (w : FeedWindow). SaysFeedWindow serve_line words w) (sym (rw c.in-Some-3.is at c.in_ok-published.ensures.window)) window;
      published = rw c.in-Some-3.is at (c.in_ok-published.ensures.said serve_line words found);
      door = c.in-Some.ensures words found;
    }

pub returns-in-None : goal.returns-in-None
returns-in-None c = λ words line found serve says.
    let none = rw c.in-None.is at (c.in_ok-published.ensures.said serve_line words found) in
    let port = same_number _ _ (sym says.door.port_is ∙ (c.in-Some.ensures words found).port_is) in
    none serve.published (subst (λ (n : ℕ). SaysPublished (address_at n) serve_line words serve.published) port says.published)
