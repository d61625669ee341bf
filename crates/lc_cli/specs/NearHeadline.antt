-- How a client of the small feed ends best, and how it does not: statements near the headline are not the headline.
use Rattle.std.specs.Prelude.{◌≡◌, ◌<◌, ◌≤◌, ℕ, [], ◌∷◌, Some}
use Rattle.cli_ask.specs.Publishing.{side_with, store_of}
use Rattle.cli_ask.specs.declared.end.ClientEnd.{ClientEnd}
use Rattle.cli_words.specs.declared.command.Publishing.{Publishing}
use Rattle.lc_model.specs.declared.answer.Answer.{Answer}
use Rattle.lc_model.specs.declared.query.Query.{Query}
use Rattle.lc_model.specs.declared.versions.update.Update.{Update}
use Rattle.timetable.specs.Tiny.{IsTiny}
use Rattle.timetable.specs.declared.timetable.Timetable.{Timetable}
use Rattle.version_store.specs.Store.{entry_of}
use Rattle.lc_cli.specs.Headline.{EndsBest, outcome_of}
use Rattle.lc_cli.specs.Tiny.{from_a_to_d}

-- the end of a client with this answer at this version
abbrev pub end_of : ℕ → Answer → ClientEnd
end_of version answer = record { version = Some version; outcome = outcome_of answer; exchanges = 4 }

-- the client ended best, by a publisher of the small feed's timetable, to which no message was admitted
abbrev pub EndsBestTiny : Publishing → Query → ClientEnd → Type 0
EndsBestTiny publishing query end =
    (made : Timetable) × IsTiny made × EndsBest (side_with made publishing (store_of made publishing.base_moment)) query end

-- with this answer the client ends best, however the timetable is published
abbrev pub IsBestEnd : Query → Answer → Type 0
IsBestEnd query answer = (publishing : Publishing) → EndsBestTiny publishing query (end_of publishing.base_moment answer)

-- with this answer it does not end best, however the timetable is published and at whichever version
abbrev pub IsNoBestEnd : Query → Answer → Type 0
IsNoBestEnd query answer = (publishing : Publishing) (version : ℕ) → EndsBestTiny publishing query (end_of version answer) → ⊥

-- it ends best at the one version that there is, whatever the answer
abbrev pub EndAtOneVersion : Query → Type 0
EndAtOneVersion query =
    (publishing : Publishing) (version : ℕ) (answer : Answer) → EndsBestTiny publishing query (end_of version answer) → version ≡ publishing.base_moment

-- how to get from A to D from 08:00 on, within so many seconds
abbrev pub within : ℕ → Query
within seconds = record from_a_to_d { horizon = seconds }

-- the question to D, asked by one who knows what was known at this moment
abbrev pub knowing : ℕ → Query
knowing moment = record from_a_to_d { known = Some moment }

-- the client ended best, by a publisher of the small feed's timetable that has admitted this one message
abbrev pub EndsBestAfter : Publishing → Update → ℕ → Query → ClientEnd → Type 0
EndsBestAfter publishing update bytes query end =
    (made : Timetable) × IsTiny made
    × EndsBest (side_with made publishing (record (store_of made publishing.base_moment) { history = entry_of update bytes ∷ [] })) query end

-- who knows the message ends best at its version
abbrev pub EndAtTheMessage : Type 0
EndAtTheMessage =
    (publishing : Publishing) (update : Update) (bytes known version : ℕ) (answer : Answer) → update.moment ≤ known
    → EndsBestAfter publishing update bytes (knowing known) (end_of version answer) → version ≡ update.moment

-- who does not know it ends best at the base
abbrev pub EndAtTheBase : Type 0
EndAtTheBase =
    (publishing : Publishing) (update : Update) (bytes known version : ℕ) (answer : Answer) → known < update.moment
    → EndsBestAfter publishing update bytes (knowing known) (end_of version answer) → version ≡ publishing.base_moment
