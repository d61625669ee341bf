use Rattle.std.proofs.Common.{◌≡◌, ◌∙◌, ℕ, List, Some, codes, subst, sym}
use Rattle.cli_words.specs.Line.{replay_line, value_at}
use Rattle.cli_words.proofs.replay.found_replay.Goals as goal

pub returns-in_default-read_cache : goal.returns-in_default-read_cache
returns-in_default-read_cache c = λ words line found replay says.
    absurd (cc (c.in_default-read_cache.ensures.said replay_line words found ∙ says.cache_is))

pub returns-in_default-2 : goal.returns-in_default-2
returns-in_default-2 c = λ words line found replay says.
    let none = rw c.in_default-2.is at (c.in_ok-publishing.ensures replay_line words found) in
    none replay.publishing says.publishing

pub returns-in_ok-text_of-in-Some-3 : goal.returns-in_ok-text_of-in-Some-3
returns-in_ok-text_of-in-Some-3 c = λ words line found.
    record {
      is_line = line;
      window = rw c.in-Some-3.is at (c.in_ok-window.ensures replay_line words found);
      publishing = rw c.in-Some-2.is at (c.in_ok-publishing.ensures replay_line words found);
      cache_is = sym (c.in-Some-read_cache.ensures.said replay_line words found);
      script_is = subst (λ (script : List ℕ). value_at replay_line words (codes "script") ≡ Some script) (sym c.in_ok-text_of-in-Some-3.ensures) (sym (c.in-Some.ensures ∙ found (codes "script")));
    }

pub returns-in-None : goal.returns-in-None
returns-in-None c = λ words line found replay says.
    let none = rw c.in-None.is at (c.in_ok-window.ensures replay_line words found) in
    none replay.window says.window
