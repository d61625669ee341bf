-- The script: who asks what, which messages come between, and who has a turn.
use Rattle.std.specs.Prelude.{ℕ, ◌+◌, ◌-◌, ◌*◌, ◌/◌, ◌%◌, ◌==◌, if◌then◌else◌, List, [], ◌++◌, codes, decimal}
use Rattle.lc_time.specs.Iso.{iso_text_of}
use Rattle.cli_drill.specs.Draws.{drawn}
use Rattle.cli_drill.specs.Network.{side_of, stop_count}
use Rattle.cli_drill.specs.Rows.{rows_of, stop_name}

-- the stop from which a question is asked: the first draw after those of the messages, and two draws for each question
abbrev pub from_of : ℕ → ℕ → ℕ
from_of seed question = drawn seed (400 + 2 * question) (stop_count (side_of seed))

-- and another stop
abbrev pub to_of : ℕ → ℕ → ℕ
to_of seed question =
    (from_of seed question + 1 + drawn seed (400 + 2 * question + 1) (stop_count (side_of seed) - 1)) % stop_count (side_of seed)

-- the moment from which on: 2024-05-01T07:00:00Z, and ten minutes more each
abbrev pub leave_of : ℕ → ℕ
leave_of question = 1_714_546_800 + 600 * question

-- the file of a message
abbrev pub message_name : ℕ → List ℕ
message_name message = codes "u" ++ decimal message ++ codes ".pb"

-- after every other question a message comes
abbrev pub message_row : ℕ → List ℕ
message_row question = if question % 2 == 0 then codes "update," ++ message_name (question / 2) ++ codes "\n" else []

-- from a stop to a stop, at the moment of a question
abbrev pub ask_row : ℕ → ℕ → ℕ → List ℕ
ask_row from to question =
    codes "ask," ++ stop_name from ++ codes "," ++ stop_name to ++ codes "," ++ iso_text_of (leave_of question) ++ codes "\n"

-- a turn of the client of a question
abbrev pub turn_row : ℕ → List ℕ
turn_row question = codes "turn," ++ decimal (question + 1) ++ codes "\n"

-- a question, one turn of its client, and a message or none
abbrev pub question_rows : ℕ → ℕ → List ℕ
question_rows seed question = ask_row (from_of seed question) (to_of seed question) question ++ turn_row question ++ message_row question

-- twenty questions
abbrev pub script_text : ℕ → List ℕ
script_text seed = rows_of (question_rows seed) 20
