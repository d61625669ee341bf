-- What is printed of a client.
use Rattle.std.specs.Prelude.{ℕ, List, [], ◌++◌, Option, Some, None, codes, decimal}
use Rattle.journey_text.specs.AnswerText.{ArrivesAtAMoment, answer_text_of}
use Rattle.lc_model.specs.declared.answer.Answer.TheVariants as answers
use Rattle.lc_time.specs.Iso.{iso_text_of}
use Rattle.page_client.specs.Texts.{peer_fault_text, query_fault_text}
use Rattle.page_client.specs.declared.outcome.Outcome.{Outcome}
use Rattle.page_client.specs.declared.outcome.Outcome.TheVariants as outcomes
use Rattle.cli_ask.specs.declared.end.ClientEnd.{ClientEnd}

-- `version {moment}`, where the time gate named one
abbrev pub version_line_of : Option ℕ → List ℕ
version_line_of None = []
version_line_of (Some version) = codes "version " ++ iso_text_of version ++ codes "\n"

-- `link fault {before} {after}`
abbrev pub link_fault_line_of : ℕ → ℕ → List ℕ
link_fault_line_of before after = codes "link fault " ++ decimal before ++ codes " " ++ decimal after ++ codes "\n"

-- the lines of the answer, or the one that says why there is none
abbrev pub outcome_text_of : Outcome → List ℕ
outcome_text_of (outcomes.Found journey) = answer_text_of (answers.Journey journey)
outcome_text_of outcomes.NoJourney = answer_text_of answers.NoJourney
outcome_text_of (outcomes.Refused fault) = query_fault_text fault ++ codes "\n"
outcome_text_of (outcomes.LinkFault before after) = link_fault_line_of before after
outcome_text_of (outcomes.PeerWrong reply fault) = peer_fault_text fault ++ codes "\n"

-- the lines of client k: its number, its version, how it ended, and how many exchanges it made
abbrev pub client_text_of : ℕ → ClientEnd → List ℕ
client_text_of k end =
    codes "client " ++ decimal k ++ codes "\n" ++ version_line_of end.version ++ outcome_text_of end.outcome
    ++ codes "exchanges " ++ decimal end.exchanges ++ codes "\n"

-- the journey of the outcome, if there is one, arrives at a moment that has a text
abbrev pub IsPrintable : Outcome → Type 0
IsPrintable (outcomes.Found journey) = ArrivesAtAMoment (answers.Journey journey)
IsPrintable outcomes.NoJourney = Unit {0}
IsPrintable (outcomes.Refused fault) = Unit {0}
IsPrintable (outcomes.LinkFault before after) = Unit {0}
IsPrintable (outcomes.PeerWrong reply fault) = Unit {0}
