-- What a run leaves in the sink.
use Rattle.std.specs.Prelude.{◌⊎◌, ℕ, List}
use Rattle.lc_io.specs.Counts.{Rose}
use Rattle.lc_io.specs.Sink.{SinkSeen}
use Rattle.cli_serve.specs.Written.{Wrote, WroteFront}

-- the sink counted a fault, or ran out of memory
abbrev pub FellShort : SinkSeen → SinkSeen → Type 0
FellShort before after = Rose before.faults after.faults ⊎ Rose before.wants after.wants

-- the text was written whole; or the sink fell short, which it counted, and a front of it was written
abbrev pub Said : SinkSeen → SinkSeen → List ℕ → Type 0
Said before after text = Wrote before after text ⊎ (FellShort before after × WroteFront before after text)
