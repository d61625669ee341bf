-- What serving leaves in the sink.
use Rattle.std.specs.Prelude.{◌≡◌, ℕ, ◌+◌, ◌≤◌, List, ◌++◌, length}
use Rattle.lc_io.specs.Sink.{SinkSeen, written_after}

-- the whole text was written
abbrev pub Wrote : SinkSeen → SinkSeen → List ℕ → Type 0
Wrote before after text = after.written ≡ written_after before.written text (length text)

-- a front of the text was written
abbrev pub WroteFront : SinkSeen → SinkSeen → List ℕ → Type 0
WroteFront before after text = (n : ℕ) × (n ≤ length text) × (after.written ≡ written_after before.written text n)

-- the first text was written whole, and a front of the second one
abbrev pub WroteThenFront : SinkSeen → SinkSeen → List ℕ → List ℕ → Type 0
WroteThenFront before after first second =
    (n : ℕ) × (n ≤ length second) × (after.written ≡ written_after before.written (first ++ second) (length first + n))

-- neither count of the sink has fallen
pub record SinkNeverFell (before after : SinkSeen) : Type 0 where
  pub faults : before.faults ≤ after.faults
  pub wants : before.wants ≤ after.wants
