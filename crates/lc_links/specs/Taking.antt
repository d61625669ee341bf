-- Exchanges that are recorded without their replies.
use Rattle.std.specs.Prelude.{ℕ, List}
use Rattle.lc_world.specs.declared.entry.Entry.{Entry}
use Rattle.lc_world.specs.declared.entry.RecordedReply.TheVariants.{Hidden}

-- an exchange of which only the request is recorded
abbrev pub asked_entry : List ℕ → List ℕ → Entry
asked_entry authority request = record { authority = authority; request = request; reply = Hidden }
