-- Questions to an in-process publisher, and what each results in.
use Rattle.std.specs.Prelude.{◌≡◌, ◌≢◌, ◌≤◌, ℕ, List, [], ◌∷◌, Option, Ok, Err, Result}
use Rattle.cli_ask.specs.LatestDeparture.Asked.{IsAskedLatest}
use Rattle.cli_ask.specs.Asked.{IsAsked}
use Rattle.cli_ask.specs.declared.end.ClientEnd.{ClientEnd}
use Rattle.cli_ask.specs.declared.question.Asked.{Asked}
use Rattle.cli_ask.specs.FewestRides.Asked.{IsAskedFewest}
use Rattle.cli_words.specs.declared.command.Publishing.{Publishing}
use Rattle.lc_io.specs.declared.file.File.{File}
use Rattle.lc_world.specs.Link.{LinkSeen}
use Rattle.timetable.specs.declared.timetable.Timetable.{Timetable}
use Rattle.version_store.specs.declared.message_fault.MessageFault.{MessageFault}
use Rattle.version_store.specs.declared.message_fault.MessageFault.TheVariants as messages
use Rattle.lc_cli.specs.declared.block.Block.{Block}
use Rattle.lc_cli.specs.declared.question.Asking.{Asking}
use Rattle.lc_cli.specs.declared.question.Asking.TheVariants as askings

-- a client that caches pages caches one at least, and 10,000 at most
abbrev pub CachesPages : Asking → Type 0
CachesPages (askings.Earliest query cache) = (1 ≤ cache) × (cache ≤ 10_000)
CachesPages (askings.Fewest query) = Unit {0}
CachesPages (askings.Latest query) = Unit {0}

-- A publisher of the timetable received the message, and a client asked it so over the link. The text has the line of the message and those of
-- the client, which ended like this. All that is so of a question for the earliest arrival is so of one for the fewest rides. Besides, a journey
-- that the client found has the fewest rides of all best ones.
abbrev pub IsAskedSo : Asking → Timetable → Publishing → Option File → LinkSeen → LinkSeen → List ℕ → ClientEnd → Type 0
IsAskedSo (askings.Earliest query cache) made publishing file before after text end = IsAsked made publishing file query before after text end
IsAskedSo (askings.Fewest query) made publishing file before after text end = IsAskedFewest made publishing file query before after text end
IsAskedSo (askings.Latest query) made publishing file before after text end = IsAskedLatest made publishing file query before after text end

-- the block has the text of a question that was asked, and its end
abbrev pub IsEndBlock : Result Asked MessageFault → Block → Type 0
IsEndBlock (Ok asked) block = (block.text ≡ asked.text) × (block.ends.items ≡ asked.end ∷ [])
IsEndBlock (Err fault) block = ⊥

-- nothing was asked, and memory did not run out
abbrev pub IsUnasked : Result Asked MessageFault → Type 0
IsUnasked (Ok asked) = ⊥
IsUnasked (Err fault) = fault ≢ messages.NoMemory
